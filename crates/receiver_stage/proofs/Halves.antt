-- Whether some half of some bytes is `limit` or more. Assumes nothing.
use Prim.Native.Nat.{ℕ, ◌+◌, ◌/◌, ◌%◌, ◌≤◌, ◌<◌}
use mathlib.Core.Path.{◌≡◌, refl, ap, ◌∙◌}
use mathlib.Core.Bool.{Bool, false, ◌||◌, or-false, or_assoc}
use mathlib.Core.List.{List, [], ◌∷◌, ◌++◌}
use native.Mathlib.Omega.{arith}
use native.Mathlib.Numerals.{add-one}
use borrow.Author.Tests.{leb-false, lt-leb}
use lib.Dec.{leb}
use lib.ListN.{length, get_or, take}
use lib.Seq.{take-suc}
use Rattle.bits.specs.Fields.{cut}
use Rattle.bits.proofs.Halves.{halves, halves_cons}
use Rattle.slices.specs.Slices.{any_below, some_at_least}
use Rattle.slices.proofs.Any.{any_first, any_no, any_each}

module _ (limit : ℕ) where
  -- whether some half of the bytes is `limit` or more
  abbrev pub some_half : List ℕ → Bool
  some_half bs = some_at_least limit (halves bs)

  some_cons : (x : ℕ) (xs : List ℕ) → some_at_least limit (x ∷ xs) ≡ leb limit x || some_at_least limit xs
  unfolding some_at_least
  some_cons x xs = any_first (length xs) (λ i. leb limit (get_or (x ∷ xs) i 0))

  pub half_none : some_half [] ≡ false
  unfolding cut some_at_least any_below
  half_none = refl

  -- one of the first byte's, or one of those behind it
  half_cons : (b : ℕ) (bs : List ℕ) → some_half (b ∷ bs) ≡ leb limit (b / 16 % 16) || (leb limit (b % 16) || some_half bs)
  half_cons b bs =
      ap (some_at_least limit) (halves_cons b bs) ∙ some_cons _ _ ∙ ap (λ (t : Bool). leb limit (b / 16 % 16) || t) (some_cons _ _)

  -- one of the first list's, or one of the second's
  pub half_append : (xs ys : List ℕ) → some_half (xs ++ ys) ≡ some_half xs || some_half ys
  half_append [] ys = rw half_none
  half_append (x ∷ xs) ys = rw (half_cons x (xs ++ ys), half_append xs ys, half_cons x xs) (simp or_assoc)

  -- one byte more
  pub half_next : (bs : List ℕ) (i : ℕ) → i < length bs → get_or bs i 0 < 256
      → some_half (take (i + 1) bs) ≡ (some_half (take i bs) || leb limit (get_or bs i 0 / 16)) || leb limit (get_or bs i 0 % 16)
  half_next bs i h f =
      let b = get_or bs i 0 in
      let whole : b / 16 % 16 ≡ b / 16 = omega arith in
      rw (add-one i, take-suc bs i 0 h, half_append (take i bs) (b ∷ []), half_cons b [], half_none, whole) (simp (or_assoc, or-false))

-- where no half is `low` or more, none is `high` or more
pub half_higher : (high low : ℕ) → low ≤ high → (bs : List ℕ) → some_half low bs ≡ false → some_half high bs ≡ false
unfolding some_at_least
half_higher high low h bs none = any_no _ (length (halves bs)) (λ i l. below (get_or (halves bs) i 0) (any_each _ (length (halves bs)) none i l))
  where
    below : (x : ℕ) → leb low x ≡ false → leb high x ≡ false
    below x e = lt-leb high x (omega (arith, leb-false low x e))
