-- The largest element so far, and whether some element is `limit` or more. Assumes nothing.
use Prim.Native.Nat.{ℕ, zero, suc, ◌+◌, ◌≤◌, ◌<◌}
use mathlib.Core.Path.{◌≡◌, refl, sym, ◌∙◌}
use mathlib.Core.Bool.{Bool, true, false, ◌||◌}
use mathlib.Core.List.{List}
use native.Mathlib.Omega.{arith}
use native.Mathlib.Numerals.{add-one}
use borrow.Author.Tests.{le-leb, lt-leb, lt-ltb, le-ltb, leb-true, leb-false}
use lib.Dec.{leb, ltb}
use lib.ListN.{length, get_or}
use Rattle.slices.specs.Slices.{any_below}
use Rattle.slices.proofs.Any.{any_none, any_found}

module _ (xs : List ℕ) (limit : ℕ) where
  abbrev test : ℕ → Bool
  test k = leb limit (get_or xs k 0)

  -- where the limit is 0, any element is
  pub any_at_all : limit ≡ 0 → ltb 0 (length xs) ≡ any_below (length xs) test
  any_at_all e = by_length (length xs) refl
    where
      by_length : (n : ℕ) → length xs ≡ n → ltb 0 n ≡ any_below n test
      by_length zero h = le-ltb 0 0 (omega arith) ∙ sym (any_none test)
      by_length (suc n) h = lt-ltb 0 (suc n) (omega arith) ∙ sym (any_found test (suc n) 0 (omega arith) (le-leb limit (get_or xs 0 0) (omega (arith, e))))

  -- one element more, larger than all before or not
  pub most_grows : (most i : ℕ) → any_below i test ≡ leb limit most → most < get_or xs i 0 → any_below (i + 1) test ≡ leb limit (get_or xs i 0)
  unfolding any_below
  most_grows most i h g = rw (add-one i, h) (either (leb limit most) refl)
    where
      either : (b : Bool) → leb limit most ≡ b → b || leb limit (get_or xs i 0) ≡ leb limit (get_or xs i 0)
      either true e = sym (le-leb limit (get_or xs i 0) (omega (arith, leb-true limit most e)))
      either false e = refl

  pub most_stays : (most i : ℕ) → any_below i test ≡ leb limit most → get_or xs i 0 ≤ most → any_below (i + 1) test ≡ leb limit most
  unfolding any_below
  most_stays most i h g = rw (add-one i, h) (either (leb limit most) refl)
    where
      either : (b : Bool) → leb limit most ≡ b → b || leb limit (get_or xs i 0) ≡ b
      either true e = refl
      either false e = lt-leb limit (get_or xs i 0) (omega (arith, leb-false limit most e))
