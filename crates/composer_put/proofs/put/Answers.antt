-- `put` meets its contract: the state that passed the checks changes in its marks alone, and the rest is what was not placed. Assumes nothing.
use Prim.Native.Nat.{ℕ, ◌/◌, ◌^◌, ◌<◌}
use mathlib.Core.Path.{◌≡◌, refl, sym, ap, ap₂, ◌∙◌}
use mathlib.Core.Bool.{Bool, true, false}
use mathlib.Core.List.{List, ◌++◌, map}
use native.Mathlib.Omega.{arith}
use borrow.Author.Rules.{rules}
use borrow.Author.Tests.{ne_eqb}
use lib.Dec.{eqb}
use lib.ListN.{length, take, length-map}
use Rattle.refusals.specs.Refusals.{number}
use Rattle.refusals.proofs.Refusals.{is_some_number}
use Rattle.setting.specs.Refusal.{first_of, leaves}
use Rattle.setting.specs.Size.{slots_of}
use Rattle.setting.specs.Rules.{some_behind}
use Rattle.setting.proofs.Fields.{narrow}
use Rattle.counters.specs.Counters.{last_slot}
use Rattle.setting_bytes.specs.Settings.{part}
use Rattle.setting_bytes.proofs.Parts.{length_part}
use Rattle.packet.specs.Packets.{packet_length, rest_of}
use Rattle.composer.specs.Slots.{empty_for, filled_by, placed_by, marks_after, frame_after}
use Rattle.composer.specs.Composing.{stream_checks, put_refusal}
use Rattle.composer.specs.States.{composer_length, mark_byte, marks_of, is_coded, composer_of, filled_at, plan_at}
use Rattle.composer.proofs.Same.{marked-bytes, marks_low, all-bytes, coded_by_counter}
use Rattle.composer.proofs.There.{put_end, plan_there, marks_there}
use Rattle.composer.specs.Calls.{put_refused, put_placed, put_state, put_memory}
use Rattle.composer.proofs.Calls.{when_put_refused, put_done}
use Rattle.slot_bits.specs.Bits.{slots_as_bits}
use Rattle.composer.proofs.Slots.{length-empty}
use Rattle.composer_put.proofs.Inside.{bits_inside}
use Rattle.composer_put.proofs.Counting.{left_within, counted}
use Rattle.composer_put.proofs.Passed.{PutPassed, put_passed}
use Rattle.composer_put.proofs.put.Goals as goal

module _ (state : List ℕ) (r : ℕ) (stream frame : List ℕ) (long : length state ≡ composer_length) where
  -- a refused put, by its refusal n: it hands back the whole stream, and nothing changes
  refused : {n : ℕ} → put_refusal (composer_of state) r stream (length frame) ≡ n → (n ≡ 0 → ⊥)
      → (stream ≡ rest_of stream (put_placed state r stream frame))
      × ((n ≡ put_refused state r stream frame)
      × ((0 ≡ put_placed state r stream frame) × ((state ≡ put_state state r stream frame) × (frame ≡ put_memory state r stream frame))))
  unfolding rest_of
  refused e h =
      let kept = when_put_refused state r stream frame long (sym e) h in
      (ap (rest_of stream) kept.1.0, kept)

  -- where the frame's checks let pass, the answer to the stream's is the refusal of the put
  told : {n : ℕ} → put_refusal (composer_of state) r stream (length frame) ≡ first_of (stream_checks (composer_of state) r stream)
      → n ≡ first_of (stream_checks (composer_of state) r stream) → put_refusal (composer_of state) r stream (length frame) ≡ n
  told frame_passed e = frame_passed ∙ sym e

  -- the still empty slots, by the plan and the marks in the state's bytes
  abbrev empty : List Bool
  empty = empty_for r (part plan_at last_slot state) (marks_of (part filled_at last_slot state))

  empty-long : length empty ≡ last_slot
  empty-long =
      let plan = length_part plan_at last_slot state (omega (arith, long)) in
      let marks = length-map (part filled_at last_slot state) (λ (n : ℕ). eqb n 1) ∙ length_part filled_at last_slot state (omega (arith, long)) in
      length-empty r (part plan_at last_slot state) (marks_of (part filled_at last_slot state)) (plan ∙ sym marks) ∙ plan

  module _ (none : put_refusal (composer_of state) r stream (length frame) ≡ 0) where
    -- behind the checks
    past : PutPassed (composer_of state) r stream (length frame)
    past = put_passed _ _ _ _ none

    coded : is_coded state ≡ true
    coded = coded_by_counter state past.open_state.counter

    -- no slot behind the frame's last is among them
    few : {bits : ℕ} → bits ≡ slots_as_bits empty → bits < 2 ^ (length frame / packet_length)
    few {bits} e =
        let p = past in
        let plan = part plan_at last_slot state in
        let kind = (composer_of state).kind in
        let behind : some_behind (slots_of kind) plan ≡ false =
        sym (ap (some_behind (slots_of kind)) (plan_there state long)) ∙ (narrow kind p.open_state.widths).numbers_behind in
        omega (
          arith,
          e,
          bits_inside r (slots_of kind) plan (marks_of (part filled_at last_slot state)) p.number behind p.long,
        )

pub returns-in_err-bytes : goal.returns-in_err-bytes
unfolding put_refused put_placed put_state put_memory leaves rest_of
returns-in_err-bytes c =
    let other : length c.args.state.now ≡ composer_length → ⊥ = search rules in
    rw (ne_eqb (length c.args.state.now) composer_length other) (record { value = search rules; placed = search rules; rest = search rules; state_after = refl; frame_after = refl })

pub returns-in_err-frame_refusal : goal.returns-in_err-frame_refusal
returns-in_err-frame_refusal c =
    let refusal = c.in_err-frame_refusal.field-0.0 in
    let some = is_some_number refusal in
    let all = refused c.in_ok-bytes.bytes.now c.args.r.0 c.args.stream.now c.args.frame.now (search rules) (rw (ne_eqb (number refusal) 0 some) at c.in_err-frame_refusal.ensures) some in
    record { value = search rules; placed = search rules; rest = search rules; state_after = search rules; frame_after = search rules }

pub returns-in_err-stream_refusal : goal.returns-in_err-stream_refusal
returns-in_err-stream_refusal c =
    let b = c.in_ok-bytes.bytes.now in
    let long : length b ≡ composer_length = search rules in
    let all = refused b c.args.r.0 c.args.stream.now c.args.frame.now long
    (told b c.args.r.0 c.args.stream.now c.args.frame.now long c.in_ok-frame_refusal.ensures c.in_err-stream_refusal.ensures) (is_some_number c.in_err-stream_refusal.field-0.0) in
    record { value = search rules; placed = search rules; rest = search rules; state_after = search rules; frame_after = search rules }

pub place-rest-requires : goal.place-rest-requires
place-rest-requires c =
    let a = c.args in
    let b = c.in_ok-bytes.bytes.now in
    let long : length b ≡ composer_length = search rules in
    let same : b ≡ a.state.now = search rules in
    let none = c.in_ok-frame_refusal.ensures ∙ sym c.in_ok-stream_refusal.ensures in
    record {
      slots_bound = (few b a.r.0 a.stream.now a.frame.now long none c.empty_slots-empty.ensures, search rules);
      filled_value = rw same at (marks_low b long (all-bytes b c.are_bytes.ensures) (coded b a.r.0 a.stream.now a.frame.now long none));
      empty_len = (empty b a.r.0 a.stream.now a.frame.now long, empty-long b a.r.0 a.stream.now a.frame.now long, c.empty_slots-empty.ensures);
    }

pub overflow_sub-result : goal.overflow_sub-result
unfolding placed_by filled_by
overflow_sub-result c =
    let a = c.args in
    left_within _ _ _ _ (c.place-rest.ensures.result_value _ (empty-long c.in_ok-bytes.bytes.now a.r.0 a.stream.now a.frame.now (search rules)) c.empty_slots-empty.ensures)

pub returns : goal.returns
unfolding placed_by filled_by marks_after frame_after
returns c =
    let a = c.args in
    let b = c.in_ok-bytes.bytes.now in
    let long : length b ≡ composer_length = search rules in
    let same : b ≡ a.state.now = search rules in
    let fit = all-bytes b c.are_bytes.ensures in
    let none = c.in_ok-frame_refusal.ensures ∙ sym c.in_ok-stream_refusal.ensures in
    let whole = empty-long b a.r.0 a.stream.now a.frame.now long in
    let slots = c.empty_slots-empty.ensures in
    let left = c.place-rest.ensures.result_value _ whole slots in
    let many = counted _ _ _ _ left in
    let done = put_done b a.r.0 a.stream.now a.frame.now long (sym none) refl
    (many ∙ sym (ap₂ (λ (n : List ℕ) (m : List Bool). placed_by a.r.0 n m a.stream.now) (plan_there b long) (marks_there b)))
    (put_end filled_at last_slot b _ long ∙ ap (λ (l : List ℕ). take filled_at b ++ l) (rw (sym same) at (c.place-rest.ensures.filled_after _ whole slots))
    ∙ sym (marked-bytes b long fit (coded b a.r.0 a.stream.now a.frame.now long none) _
    ∙ ap₂ (λ (n : List ℕ) (m : List Bool). take filled_at b ++ map mark_byte (marks_after a.r.0 n m a.stream.now)) (plan_there b long) (marks_there b)))
    (c.place-rest.ensures.frame_after _ whole slots
    ∙ sym (ap₂ (λ (n : List ℕ) (m : List Bool). frame_after a.r.0 n m a.stream.now a.frame.now) (plan_there b long) (marks_there b))) in
    rw (sym same) (record {
      value = done.0;
      placed = done.1.0;
      rest = left ∙ ap (rest_of a.stream.now) (sym many ∙ done.1.0);
      state_after = done.1.1.0;
      frame_after = done.1.1.1;
    })
