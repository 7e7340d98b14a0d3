-- What lies between a first and a last value, by cases. Assumes nothing.
use Prim.Native.Nat.{ℕ, ◌≤◌, ◌<◌}
use mathlib.Core.Path.{◌≡◌, refl, ap}
use mathlib.Core.Bool.{Bool, true, false, cond}
use native.Mathlib.Omega.{arith}
use borrow.Author.Tests.{le-leb, lt-leb}
use lib.Dec.{leb}
use Rattle.counters.specs.Counters.{within, checked}

module _ (first last n : ℕ) where
  pub under : n < first → within first last n ≡ false
  under h = simp (lt-leb first n h)

  pub past : first ≤ n → last < n → within first last n ≡ false
  past h g = simp (le-leb first n h, lt-leb n last g)

  pub from : first ≤ n → within first last n ≡ leb n last
  from h = simp (le-leb first n h)

  pub between : first ≤ n → n ≤ last → within first last n ≡ true
  between h g = simp (le-leb first n h, le-leb n last g)

-- what a checked constructor says of a number: one that it takes lies inside, and one that it refuses outside
pub checked_in : (first last n : ℕ) {v : ℕ} → ◌≡◌ {A = ℕ × ℕ} (0, v) (checked first last n) → (within first last n ≡ true) × (v ≡ n)
unfolding checked
checked_in first last n {v} e = by (within first last n) e
  where
    by : (b : Bool) → ◌≡◌ {A = ℕ × ℕ} (0, v) (cond b (0, n) (17, 0)) → (b ≡ true) × (v ≡ n)
    by true e = (refl, ap (λ (x : ℕ × ℕ). x.1) e)
    by false e = absurd (omega (arith, ap (λ (x : ℕ × ℕ). x.0) e))

pub checked_out : (first last n : ℕ) {m : ℕ} → ◌≡◌ {A = ℕ × ℕ} (m, 0) (checked first last n) → (m ≡ 0 → ⊥) → (within first last n ≡ false) × (m ≡ 17)
unfolding checked
checked_out first last n {m} e some = by (within first last n) e
  where
    by : (b : Bool) → ◌≡◌ {A = ℕ × ℕ} (m, 0) (cond b (0, n) (17, 0)) → (b ≡ false) × (m ≡ 17)
    by true e = absurd (some (ap (λ (x : ℕ × ℕ). x.0) e))
    by false e = (refl, ap (λ (x : ℕ × ℕ). x.0) e)
