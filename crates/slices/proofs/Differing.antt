-- Two lists that differ somewhere or nowhere. Assumes nothing.
use Prim.Native.Nat.{ℕ, suc, ◌+◌, ◌<◌}
use mathlib.Core.Path.{◌≡◌, refl, ap, ap₂, sym, ◌∙◌}
use mathlib.Core.Bool.{Bool, true, false, not, ◌||◌}
use mathlib.Core.List.{List, [], ◌∷◌}
use native.Mathlib.Omega.{arith}
use borrow.Author.Tests.{eq-eqb, eqb-true, not-false}
use lib.Dec.{eqb}
use lib.ListN.{length, get_or, replicate, get_or-replicate}
use Rattle.slices.specs.Slices.{any_below, some_differ, unlike}
use Rattle.std.specs.Bool.{Decides}
use Rattle.std.specs.Cmp.Lexicographic.{pointwise}
use Rattle.std.proofs.lemmas.Slice.Eq.{bytes_eq-Decides}
use Rattle.slices.proofs.Any.{any_next, any_no, any_each, neither}

module _ (xs ys : List ℕ) where
  abbrev pub unequal : ℕ → Bool
  unequal k = not (eqb (get_or xs k 0) (get_or ys k 0))

  module _ (l : length xs ≡ length ys) where
    pub by_elements : unlike xs ys ≡ some_differ xs ys
    unfolding unlike
    by_elements = rw (eq-eqb (length xs) (length ys) l) refl

-- of a loop that looks for an element other than v: one was found before place i, or stands there
pub other_next : (xs : List ℕ) (v i : ℕ) → i < length xs → {other : Bool} → any_below i (unequal xs (replicate (length xs) v)) ≡ other
    → any_below (i + 1) (unequal xs (replicate (length xs) v)) ≡ other || not (eqb (get_or xs i 0) v)
other_next xs v i h e =
    let is_v : get_or (replicate (length xs) v) i 0 ≡ v = get_or-replicate (length xs) i v 0 h in
    any_next (unequal xs (replicate (length xs) v)) i ∙ ap₂ (λ (b c : Bool). b || c) e (ap (λ (x : ℕ). not (eqb (get_or xs i 0) x)) is_v)

-- a list does not differ from itself
pub differs_nowhere : (xs : List ℕ) → some_differ xs xs ≡ false
unfolding some_differ
differs_nowhere xs = any_no (unequal xs xs) (length xs) (λ i h. ap not (eq-eqb (get_or xs i 0) (get_or xs i 0) refl))

-- and of the same length no other does differ nowhere
pub same_lists : (xs ys : List ℕ) → length xs ≡ length ys → some_differ xs ys ≡ false → xs ≡ ys
unfolding some_differ
same_lists [] [] l e = refl
same_lists [] (y ∷ ys) l e = absurd (omega arith)
same_lists (x ∷ xs) [] l e = absurd (omega arith)
same_lists (x ∷ xs) (y ∷ ys) l e =
    let each = any_each (unequal (x ∷ xs) (y ∷ ys)) (suc (length xs)) e in
    ap₂ (λ (h : ℕ) (t : List ℕ). h ∷ t) (eqb-true x y (not-false _ (each 0 (omega arith))))
    (same_lists xs ys (omega arith) (any_no (unequal xs ys) (length xs) (λ i h. each (suc i) (omega arith))))

-- lists differ where they are not the same, element by element
pub unlike_is : (xs ys : List ℕ) → unlike xs ys ≡ not (pointwise eqb xs ys)
unfolding unlike
unlike_is xs ys = by_test (pointwise eqb xs ys) refl (unlike xs ys) refl
  where
    same : Decides (pointwise eqb xs ys) (xs ≡ ys)
    same = bytes_eq-Decides xs ys

    by_test : (b : Bool) → pointwise eqb xs ys ≡ b → (u : Bool) → unlike xs ys ≡ u → u ≡ not b
    by_test true e true u = sym u ∙ ap (unlike xs) (sym (same.0 e)) ∙ rw (eq-eqb (length xs) (length xs) refl) (differs_nowhere xs)
    by_test true e false u = refl
    by_test false e true u = refl
    by_test false e false u =
        let parts = neither (not (eqb (length xs) (length ys))) (some_differ xs ys) u in
        sym e ∙ same.1 (same_lists xs ys (eqb-true _ _ (not-false _ parts.0)) parts.1)
