-- Identifiers that stand so many bytes apart: each of them, and the two ways in which they stand. Assumes nothing.
use Prim.Native.Nat.{ℕ, zero, suc, ◌+◌, ◌*◌, ◌<◌}
use mathlib.Core.Path.{◌≡◌, refl, sym, ap, ap₂, ◌∙◌}
use mathlib.Core.List.{List}
use native.Mathlib.Omega.{arith}
use native.Mathlib.Nat.{mul-zero, mul-suc, add_comm}
use lib.ListN.{length, get_or, drop}
use lib.Seq.{get_or-drop}
use Rattle.setting_pairs.specs.Identifiers.{ids_apart}

-- how many there are
pub length_apart : (step n : ℕ) (b : List ℕ) → length (ids_apart step n b) ≡ n
unfolding ids_apart
length_apart step zero b = refl
length_apart step (suc n) b = ap suc (length_apart step n (drop step b))

-- that of stream k + 1
pub apart_at : (step n k : ℕ) (b : List ℕ) → k < n
    → get_or (ids_apart step n b) k 0 ≡ get_or b (step * k) 0 * 256 + get_or b (step * k + 1) 0
unfolding ids_apart
apart_at step zero k b h = absurd (omega arith)
apart_at step (suc n) zero b h = rw (mul-zero step) refl
apart_at step (suc n) (suc k) b h =
    apart_at step n k (drop step b) (omega arith)
    ∙ ap₂ (λ (x y : ℕ). x * 256 + y)
    (get_or-drop step b (step * k) 0 ∙ ap (λ (m : ℕ). get_or b m 0) next)
    (get_or-drop step b (step * k + 1) 0 ∙ ap (λ (m : ℕ). get_or b m 0) (omega (arith, next)))
  where
    next : step + step * k ≡ step * suc k
    next = add_comm step (step * k) ∙ sym (mul-suc step k)
