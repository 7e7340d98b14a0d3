-- `Distance::one` meets its contract: each number in it is computed. Assumes nothing.
use Prim.Native.Nat.{ℕ, ◌^◌, ◌<◌}
use mathlib.Core.Path.{◌≡◌, refl, sym, ap, ◌∙◌}
use native.Mathlib.Omega.{arith}
use native.Mathlib.Nat.{lt_of_lt_of_le}
use lib.Dec.{lit<, lit≤}
use Rattle.crc.specs.Crc.{poly, shift, shifts}
use Rattle.crc.specs.Words.{Ahead}
use Rattle.crc.proofs.Reduced.{reduced_low}
use Rattle.crc.proofs.Distance.one.Goals as goal

-- an arm: the number e, for the distance m
row : {n e : ℕ} (m : ℕ) → n ≡ m → e < 2 ^ 32 → e ≡ shifts m 1 → Ahead n 1 1 e
row {n} {e} m k h same = record { bits = lt_of_lt_of_le h (lit≤ tt); same = reduced_low e h ∙ same ∙ ap (λ (j : ℕ). shifts j 1) (sym k) }

pub returns-in-32 : goal.returns-in-32
unfolding shifts shift poly
returns-in-32 c = row 32 (omega arith) (omega arith) c.from.ensures

pub returns-in-64 : goal.returns-in-64
unfolding shifts shift poly
returns-in-64 c = row 64 (omega arith) (lit< tt) refl

pub returns-in-96 : goal.returns-in-96
unfolding shifts shift poly
returns-in-96 c = row 96 (omega arith) (lit< tt) refl

pub returns-in-128 : goal.returns-in-128
unfolding shifts shift poly
returns-in-128 c = row 128 (omega arith) (lit< tt) refl

pub returns-in_default : goal.returns-in_default
unfolding shifts shift poly
returns-in_default c = row 160 (omega arith) (lit< tt) refl
