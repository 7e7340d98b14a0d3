-- `crc::byte_in` meets its contract: the byte meets the register's highest bits, and the two are shifted as one. Assumes nothing.
use Prim.Native.Nat.{ℕ, ◌*◌, ◌%◌, ◌^◌, ◌<◌}
use mathlib.Core.Path.{refl, sym, ap, ◌∙◌}
use native.Mathlib.Omega.{arith}
use native.Mathlib.Nat.{le_refl, mod-eq_of_lt}
use lib.Bits.{bit_xor}
use lib.Pow.{shl_exact}
use Rattle.crc.specs.Crc.{shifts}
use Rattle.crc.proofs.Laws.{field_in}
use Rattle.crc.proofs.byte_in.Goals as goal

pub returns : goal.returns
returns c =
    c.shifted.ensures ∙ ap (λ (x : ℕ). shifts 8 (bit_xor s (x * 2 ^ 24 % 2 ^ 32))) c.from.ensures
    ∙ ap (λ (x : ℕ). shifts 8 (bit_xor s x)) (shl_exact 8 24 32 small (le_refl 32) ∙ ap (λ (x : ℕ). x * 2 ^ 24) (sym (mod-eq_of_lt small)))
    ∙ sym (field_in 8 24 refl s b)
  where
    s : ℕ
    s = c.args.s

    b : ℕ
    b = c.args.b

    small : b < 2 ^ 8
    small = omega arith
