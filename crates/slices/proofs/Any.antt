-- Laws of `any_below`: what a loop that tests every index needs. Assumes nothing.
use Prim.Native.Nat.{ℕ, zero, suc, ◌+◌, ◌<◌}
use mathlib.Core.Path.{◌≡◌, refl, sym, ap, ◌∙◌}
use mathlib.Core.Bool.{Bool, true, false, ◌&&◌, ◌||◌, or-true, or-false, or_assoc, true-or, true≢false, false≢true}
use native.Mathlib.Numerals.{add-one}
use native.Mathlib.Decide.{ℕ_discrete}
use native.Mathlib.Omega.{arith}
use Rattle.slices.specs.Slices.{any_below}

module _ (test : ℕ → Bool) where
  pub any_none : any_below 0 test ≡ false
  unfolding any_below
  any_none = refl

  -- one number more that fails the test
  pub any_more : (n : ℕ) → any_below n test ≡ false → test n ≡ false → any_below (n + 1) test ≡ false
  unfolding any_below
  any_more n a t = rw (add-one, a, t)

  -- of a loop that does not stop: one was found before, or here
  pub any_next : (n : ℕ) → any_below (n + 1) test ≡ any_below n test || test n
  unfolding any_below
  any_next n = rw add-one refl

  -- every number fails it
  pub any_no : (n : ℕ) → ((i : ℕ) → i < n → test i ≡ false) → any_below n test ≡ false
  unfolding any_below
  any_no zero h = refl
  any_no (suc n) h = rw (any_no n (λ i l. h i (omega arith)), h n (omega arith))

  -- a number that passes it
  pub any_found : (n i : ℕ) → i < n → test i ≡ true → any_below n test ≡ true
  unfolding any_below
  any_found zero i h t = absurd (omega arith)
  any_found (suc n) i h t = last (λ l. any_found n i l t) (ℕ_discrete i n)
    where
      last : (i < n → any_below n test ≡ true) → Dec (i ≡ n) → any_below n test || test n ≡ true
      last below (yes e) = ap (λ (b : Bool). any_below n test || b) (ap test (sym e) ∙ t) ∙ or-true (any_below n test)
      last below (no d) = ap (λ (b : Bool). b || test n) (below (omega arith)) ∙ true-or (test n)

  -- where none passes, each fails
  pub any_each : (n : ℕ) → any_below n test ≡ false → (i : ℕ) → i < n → test i ≡ false
  any_each n a i h = fails (test i) refl
    where
      fails : (b : Bool) → test i ≡ b → b ≡ false
      fails false e = refl
      fails true e = absurd (true≢false (sym (any_found n i h e) ∙ a))

-- the test holds of the first number, or of one behind it
pub any_first : (n : ℕ) (test : ℕ → Bool) → any_below (suc n) test ≡ test 0 || any_below n (λ i. test (suc i))
unfolding any_below
any_first zero test = sym (or-false (test 0))
any_first (suc n) test = ap (λ (b : Bool). b || test (suc n)) (any_first n test) ∙ or_assoc (test 0) (any_below n (λ i. test (suc i))) (test (suc n))

-- of two tests that hold together each holds
pub both : (a b : Bool) → a && b ≡ true → (a ≡ true) × (b ≡ true)
both true b e = (refl, e)
both false b e = absurd (false≢true e)

-- of two tests of which none holds neither does
pub neither : (a b : Bool) → a || b ≡ false → (a ≡ false) × (b ≡ false)
neither true b e = absurd (true≢false e)
neither false b e = (refl, e)
