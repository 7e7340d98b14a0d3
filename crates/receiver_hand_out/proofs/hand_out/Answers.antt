-- `hand_out` meets its contract: it is refused, or the packets stand at the front of the buffer. Assumes nothing.
use Prim.Native.Nat.{ℕ}
use mathlib.Core.Path.{◌≡◌, refl, sym, ap, subst, ◌∙◌}
use mathlib.Core.List.{List}
use Rattle.std.specs.Prelude.{Result, Ok, Err}
use native.Mathlib.Omega.{arith}
use borrow.Author.Rules.{rules}
use lib.ListN.{length}
use Rattle.refusals.specs.declared.Refusal.{Refusal}
use Rattle.refusals.specs.Refusals.{answer}
use Rattle.refusals.proofs.Refusals.{is_some_number}
use Rattle.setting.specs.Refusal.{first_of}
use Rattle.setting.proofs.Sizes.{sized}
use Rattle.receiver.specs.Packed.{packed_length, unpacked}
use Rattle.setting_bytes.specs.Settings.{part}
use Rattle.receiver.specs.Store.{HasPackets}
use Rattle.receiver.specs.Bytes.{before_at, receiver_length, receiver_of}
use Rattle.receiver.proofs.LentRefusal.{lent_accepted}
use Rattle.receiver.proofs.Answers.{hand_refused, hands}
use Rattle.receiver.specs.Calls.{lent_refusal}
use Rattle.receiver_hand_out.specs.Handing.{handed}
use Rattle.receiver_hand_out.specs.Ready.{ready_checks}
use Rattle.receiver_hand_out.proofs.Frames.{state_first, refused_before, handed-packets, handed-number, handed_frame, handed_buffer}
use Rattle.receiver_hand_out.proofs.hand_out.Goals as goal
use Rattle.receiver_hand_out.proofs.hand_out.Goals.{After-unwrap-numbers}

-- the refusal's number, by what the paper says of the answer
by_result : (r : Result ℕ Refusal) → answer r ≡ (handed r).refusal
by_result (Ok n) = refl
by_result (Err refusal) = refl

module _ (b : List ℕ) (r : ℕ) (store : List ℕ) (passed : 0 ≡ lent_refusal b (first_of (ready_checks (receiver_of b) r (length store)))) where
  accepted : (length b ≡ receiver_length) × (first_of (ready_checks (receiver_of b) r (length store)) ≡ 0)
  accepted = lent_accepted b _ passed refl

pub returns-in_err-ready_refusal : goal.returns-in_err-ready_refusal
returns-in_err-ready_refusal c =
    let a = c.args in
    let w = receiver_of a.state.now in
    let refusal = c.in_err-ready_refusal.field-0.0 in
    let passed_up : c.from_residual.result ≡ Err refusal = search rules in
    let some = is_some_number refusal in
    let all = hand_refused a.state.now a.r.0 a.store.now a.out.now
    (state_first a.state.now _ _ c.in_err-ready_refusal.ensures some (refused_before w a.r.0 (length a.store.now) (length a.out.now))) some in record {
      value = ap answer passed_up ∙ all.0;
      packets = ap (λ r. (handed r).packets) passed_up ∙ all.1.0;
      out_after = all.1.1;
    }

pub slice_bounds-as_array-end : goal.slice_bounds-as_array-end
slice_bounds-as_array-end c = omega (arith, (accepted c.args.state.now c.args.r.0 c.args.store.now c.in_ok-ready_refusal.ensures).0)

pub unwrap-numbers-requires : goal.unwrap-numbers-requires
unwrap-numbers-requires c =
    let long = (accepted c.args.state.now c.args.r.0 c.args.store.now c.in_ok-ready_refusal.ensures).0 in
    search rules

-- the numbers are those of the header before
numbers : (c : After-unwrap-numbers) → c.unwrap-numbers.result.now ≡ part before_at packed_length c.args.state.now
numbers c = (rw c.unwrap-numbers.ensures at c.as_array.ensures.cases).same

pub hand_out-requires : goal.hand_out-requires
unfolding receiver_of
hand_out-requires c =
    let a = c.args in
    let w = receiver_of a.state.now in
    let g = accepted a.state.now a.r.0 a.store.now c.in_ok-ready_refusal.ensures in
    (subst (λ (l : List ℕ). HasPackets a.r.0 (unpacked l) a.store.now) (sym (numbers (goal.at.hand_out-requires c).After-unwrap-numbers)) (handed-packets w a.r.0 _ g.1 a.store.now refl), omega (arith, (handed-number w a.r.0 (length a.store.now) g.1).1, (sized w.kind).streams))

pub returns : goal.returns
unfolding receiver_of
returns c =
    let a = c.args in
    let w = receiver_of a.state.now in
    let g = accepted a.state.now a.r.0 a.store.now c.in_ok-ready_refusal.ensures in
    let same = ap unpacked (numbers (goal.at.returns c).After-unwrap-numbers) in
    let all = hands a.state.now a.r.0 a.store.now a.out.now g.0
    (handed_frame w a.r.0 a.store.now a.out.now g.1 same c.hand_out.ensures.value)
    (handed_buffer w a.r.0 a.store.now a.out.now g.1 same c.hand_out.ensures.out_after) in record {
      value = by_result c.hand_out.result ∙ all.0;
      packets = all.1.0;
      out_after = all.1.1;
    }
