-- `crc::shifted` meets its contract. The loop's invariant: the shifts that are left bring the register to the one that is asked.
-- The measure is how many are left. Assumes nothing.
use Prim.Native.Nat.{ℕ, suc, ◌+◌, ◌-◌, ◌/◌, ◌^◌, ◌<◌}
use mathlib.Core.Path.{◌≡◌, sym, ap, ◌∙◌, subst}
use native.Mathlib.Omega.{arith}
use native.Mathlib.Nat.{le_refl}
use lib.Pow.{shl_exact}
use Rattle.crc.specs.Crc.{poly, shift, shifts}
use Rattle.crc.proofs.Laws.{shift_high, shift_low, shift_lt}
use Rattle.crc.proofs.shifted.Goals as goal
use Rattle.crc.proofs.shifted.Goals.{else-r-eq1, then-r-eq1}

pub loop-preserved : goal.loop-preserved
unfolding poly shifts
loop-preserved c = (
  subst (λ (x : ℕ). x < 2 ^ 32) (sym next) (shift_lt r),
  ap (shifts (n - (i + 1))) next ∙ ap (λ (k : ℕ). shifts k r) (sym less) ∙ c.loop.invariant.1,
)
  where
    n : ℕ
    n = c.args.n

    r : ℕ
    r = c.loop.r

    i : ℕ
    i = c.loop.counter

    less : n - i ≡ suc (n - (i + 1))
    less = omega arith

    low : (r / 2 ^ 31 ≡ 1 → ⊥) → r < 2 ^ 31
    low h = omega arith

    next : c.if-r-eq1.r ≡ shift r
    next =
        elim c.if-r-eq1.branch [ then-r-eq1 w ↦ w.r-is ∙ sym (shift_high r w.if-r-eq1.true) | else-r-eq1 w ↦ let h : r < 2 ^ 31 = low w.if-r-eq1.false in w.r-is ∙ shl_exact 31 1 32 h (le_refl 32) ∙ sym (shift_low r h) ]

pub returns : goal.returns
unfolding shifts
returns c =
    let done : c.args.n - c.loop.counter ≡ 0 = omega arith in
    ap (λ (k : ℕ). shifts k c.loop.r) (sym done) ∙ c.loop.invariant.1
