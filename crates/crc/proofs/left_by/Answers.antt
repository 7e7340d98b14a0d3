-- `crc::left_by` meets its contract: each eight bytes are as far on as they stand from the end, and the high half is shifted last. Assumes nothing.
use Prim.Native.Nat.{ℕ, ◌%◌, ◌^◌}
use mathlib.Core.Path.{ap, ◌∙◌}
use native.Mathlib.Omega.{arith}
use lib.Bits.{bit_xor, xor_lt}
use Rattle.crc.specs.Words.{reduced}
use Rattle.crc.proofs.Reduced.{held_left}
use Rattle.crc.proofs.left_by.Goals as goal

pub overflow_cast-u : goal.overflow_cast-u
overflow_cast-u c = omega (arith, xor_lt 64 c.long_on.result c.long_on-2.result (omega arith) (omega arith))

pub returns : goal.returns
unfolding reduced
returns c =
    ap (λ (x : ℕ). bit_xor x (bit_xor a b % 2 ^ 32)) c.shifted.ensures
    ∙ held_left c.args.r c.args.s a b c.long_on.ensures c.long_on-2.ensures
  where
    a : ℕ
    a = c.long_on.result

    b : ℕ
    b = c.long_on-2.result
