-- `place` meets its contract: of the slots and of the stream that part is left which was not placed yet. Assumes nothing.
use Prim.Native.Nat.{ℕ, ◌+◌, ◌-◌, ◌*◌, ◌%◌, ◌^◌, ◌≤◌, ◌<◌}
use mathlib.Core.Path.{◌≡◌, refl, sym, ap, ◌∙◌}
use mathlib.Core.Bool.{Bool, true, false, not, ◌&&◌}
use mathlib.Core.Logic.{◌⊎◌, inl, inr, ⊎_elim}
use mathlib.Core.List.{List}
use native.Mathlib.Nat.{one-mul, le_refl}
use native.Mathlib.Omega.{arith}
use borrow.Author.Rules.{rules}
use borrow.Author.Tests.{eqb-true, eqb-false, leb-true, leb-false, not-true}
use borrow.Rule.Slice.PartMut.{mid_len}
use lib.Count.{count_trailing_zeros}
use lib.Dec.{eqb, leb}
use lib.ListN.{length, take, drop, length-drop}
use lib.Pow.{shl_exact}
use lib.Seq.{take_all, drop-drop, length-take-le}
use Rattle.slices.proofs.Any.{both}
use Rattle.slices.proofs.Front.{copied-over}
use Rattle.counters.specs.Counters.{last_slot}
use Rattle.packet.specs.Packets.{packet_length}
use Rattle.composer.proofs.Same.{marks_same}
use Rattle.slot_bits.specs.Bits.{slots_as_bits}
use Rattle.slot_bits.proofs.Bits.{same_slots}
use Rattle.composer_put.proofs.Placing.{Placing, bit_inside, placing_none, slot_inside, placing_more, frame_done, marks_done, rest_done, mark_more}
use Rattle.composer_put.proofs.slots.place.Goals.{In-loop-rest, After-loop-rest}
use Rattle.composer_put.proofs.slots.place.Goals as goal

module _ (c : In-loop-rest) where
  -- what is left of the stream
  abbrev now : List ℕ
  now = drop c.loop-rest.at c.args.stream.now

  -- a slot and a packet are left
  some : c.loop-rest.rest ≡ 0 → ⊥
  some = eqb-false _ _ (not-true _ (both _ _ c.loop-rest-test.true).0)

  room : packet_length ≤ length c.args.stream.now - c.loop-rest.at
  room = leb-true _ _ (both (not (eqb c.loop-rest.rest 0)) _ c.loop-rest-test.true).1

  room_now : packet_length ≤ length now
  room_now = rw length-drop room

  -- the first slot that is left, and its bit
  abbrev slot : ℕ
  slot = count_trailing_zeros 64 c.loop-rest.rest

  inside : (1 ≤ slot) × (slot ≤ last_slot) × (2 ^ slot ≤ c.loop-rest.rest)
  inside = slot_inside _ _ _ _ c.loop-rest.invariant.3.3 some

  -- the frame has it
  in_frame : packet_length * slot + packet_length ≤ length c.loop-rest.frame
  in_frame =
      let few : 2 ^ slot ≤ c.args.slots = omega (arith, inside, c.loop-rest.invariant.2) in
      let has = bit_inside few c.requires.slots_bound.0 in
      omega (arith, c.loop-rest.auto.frame)

  bit : 1 * 2 ^ slot % 2 ^ 64 ≡ 2 ^ slot
  bit = shl_exact 1 slot 64 (omega arith) (omega (arith, inside)) ∙ one-mul (2 ^ slot)

-- no slot is left, or no packet
over : (a b : Bool) → not a && b ≡ false → (a ≡ true) ⊎ (b ≡ false)
over true b e = inl refl
over false b e = inr e

none : (c : After-loop-rest)
    → (c.loop-rest.rest ≡ 0) ⊎ (length (drop c.loop-rest.at c.args.stream.now) < packet_length)
none c =
    ⊎_elim
    (λ e. inl (eqb-true _ _ e))
    (λ e. inr (rw length-drop (leb-false _ _ e)))
    (over (eqb c.loop-rest.rest 0) (leb packet_length (length c.args.stream.now - c.loop-rest.at)) c.loop-rest-test.false)

pub loop-rest-init : goal.loop-rest-init
loop-rest-init c =
    let w = c.requires.empty_len in
    (omega arith, marks_same _ c.requires.filled_value, le_refl _, (w.0, w.1, w.2, placing_none _ _ _ _ w.1 w.2))

pub overflow_sub-filled : goal.overflow_sub-filled
overflow_sub-filled c =
    let next = inside (goal.at.overflow_sub-filled c).In-loop-rest in
    search rules

pub bounds-filled-slot : goal.bounds-filled-slot
bounds-filled-slot c =
    let next = inside (goal.at.bounds-filled-slot c).In-loop-rest in
    search rules

pub slice_bounds-copy-end : goal.slice_bounds-copy-end
slice_bounds-copy-end c =
    let fits : c.start_of-to.result + packet_length ≤ length c.loop-rest.frame = omega (arith, c.start_of-to.ensures, in_frame (goal.at.slice_bounds-copy-end c).In-loop-rest) in
    search rules

pub overflow_sub-rest : goal.overflow_sub-rest
overflow_sub-rest c =
    let g = (goal.at.overflow_sub-rest c).In-loop-rest in
    omega (arith, bit g, inside g)

pub loop-rest-preserved : goal.loop-rest-preserved
loop-rest-preserved c =
    let g = (goal.at.loop-rest-preserved c).In-loop-rest in
    let of = c.loop-rest.invariant.3 in
    let from = packet_length * slot g in
    let fits = in_frame g in
    let left = room g in
    let at = c.start_of-to.result in
    let told = c.start_of-to.ensures in
    let there : at + packet_length - at ≡ packet_length = omega arith in
    let here : c.loop-rest.at + packet_length - c.loop-rest.at ≡ packet_length = omega arith in
    let taken : c.copy.new.dst ≡ take packet_length (now g) =
    c.copy.ensures
    ∙ copied-over _ _
    (mid_len at (at + packet_length) c.loop-rest.frame (omega arith) ∙ there
    ∙ sym (mid_len c.loop-rest.at (c.loop-rest.at + packet_length) c.args.stream.now (omega arith) ∙ here))
    ∙ ap (λ (n : ℕ). take n (drop c.loop-rest.at c.args.stream.now)) here in
    let long = ap length taken ∙ length-take-le packet_length (now g) (room_now g) in
    let lent : from + packet_length - from ≡ packet_length = omega arith in
    rw (c.start_of-to.ensures, bit g, ← (drop-drop packet_length c.loop-rest.at c.args.stream.now)) (
      omega arith,
      mark_more c.loop-rest.filled (slot g - 1) c.loop-rest.invariant.1,
      omega (arith, c.loop-rest.invariant.2),
      (of.0, of.1, of.2, placing_more _ _ _ _ of.3 (some g) (room_now g) (from + packet_length - from) lent c.copy.new.dst taken (omega arith)),
    )

-- for the slots that these are the bits of
module _ (c : After-loop-rest) (empty : List Bool) (l : length empty ≡ last_slot) (e : c.args.slots ≡ slots_as_bits empty) where
  those : Placing empty c.args.stream.now c.args.frame.now c.args.filled.now
      c.loop-rest.frame c.loop-rest.filled (drop c.loop-rest.at c.args.stream.now) c.loop-rest.rest
  those = let of = c.loop-rest.invariant.3 in rw (same_slots empty of.0 (l ∙ sym of.1) (sym e ∙ of.2)) of.3

pub returns : goal.returns
returns c =
    let g = (goal.at.returns c).After-loop-rest in
    let stream = c.args.stream.now in record {
      result_value = λ empty l e. take_all (length stream - c.loop-rest.at) (drop c.loop-rest.at stream) (rw length-drop (omega arith)) ∙ rest_done _ _ _ _ (those g empty l e) (none g);
      frame_after = λ empty l e. frame_done _ _ _ _ (those g empty l e) (none g);
      filled_after = λ empty l e. marks_done _ _ _ _ (those g empty l e) (none g) (c.loop-rest.auto.filled ∙ c.requires.slots_bound.1) c.loop-rest.invariant.1;
    }
