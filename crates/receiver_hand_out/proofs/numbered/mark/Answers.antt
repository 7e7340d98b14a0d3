-- `mark` meets its contract. Assumes nothing.
use Prim.Native.Nat.{ℕ, ◌*◌, ◌^◌, ◌<◌}
use mathlib.Core.Path.{◌≡◌, ap, ◌∙◌}
use native.Mathlib.Omega.{arith}
use lib.Bits.{bit_xor}
use Rattle.receiver_hand_out.specs.Halves.{halves_of, marked}
use Rattle.receiver_hand_out.proofs.Joined.{rep, where_zero, halves_of-marks}
use Rattle.receiver_hand_out.proofs.Marks.{are_marked}
use Rattle.receiver_hand_out.proofs.numbered.mark.Goals as goal

-- with the number as a word
halves : {n : ℕ} (w r : ℕ) → n ≡ r → w < 2 ^ 64 → r < 16 → halves_of (where_zero (bit_xor w (n * rep 1 16)) (rep 7 16) (rep 8 16)) ≡ marked r (halves_of w)
halves w r e hw hr = ap (λ n. halves_of (where_zero (bit_xor w (n * rep 1 16)) (rep 7 16) (rep 8 16))) e ∙ halves_of-marks w r hw hr

pub invariant_of-result : goal.invariant_of-result
unfolding rep
invariant_of-result c = record { are_marks = are_marked _ _ _ (halves c.args.word c.args.r.0 c.wide.ensures.0 (omega arith) (omega arith)) }

pub returns : goal.returns
unfolding rep
returns c = halves c.args.word c.args.r.0 c.wide.ensures.0 (omega arith) (omega arith)
