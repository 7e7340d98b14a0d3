-- Two lists differ where `==` says that they are not the same. Assumes nothing.
use Prim.Native.Nat.{ℕ}
use mathlib.Core.Path.{◌≡◌, refl, sym, ap, ◌∙◌}
use mathlib.Core.Bool.{Bool, true, false, not}
use mathlib.Core.List.{List}
use borrow.Author.Tests.{eqb-true, not-false}
use lib.Dec.{eqb}
use lib.ListN.{length}
use Rattle.std.specs.Cmp.Lexicographic.{pointwise}
use Rattle.std.proofs.lemmas.Slice.Eq.{bytes_eq-Decides}
use Rattle.slices.specs.Slices.{unlike}
use Rattle.slices.proofs.Any.{neither}
use Rattle.slices.proofs.Differing.{by_elements, differs_nowhere, same_lists}

module _ (xs ys : List ℕ) where
  same_nowhere : xs ≡ ys → unlike xs ys ≡ false
  same_nowhere e = ap (unlike xs) (sym e) ∙ by_elements xs xs refl ∙ differs_nowhere xs

  nowhere_same : unlike xs ys ≡ false → xs ≡ ys
  unfolding unlike
  nowhere_same e =
      let n = neither _ _ e in
      same_lists xs ys (eqb-true (length xs) (length ys) (not-false _ n.0)) n.1

  pub unlike_is : unlike xs ys ≡ not (pointwise eqb xs ys)
  unlike_is = cases (pointwise eqb xs ys) refl (unlike xs ys) refl
    where
      cases : (e : Bool) → pointwise eqb xs ys ≡ e → (u : Bool) → unlike xs ys ≡ u → u ≡ not e
      cases true p true q = sym q ∙ same_nowhere ((bytes_eq-Decides xs ys).0 p)
      cases true p false q = refl
      cases false p true q = refl
      cases false p false q = sym p ∙ (bytes_eq-Decides xs ys).1 (nowhere_same q)
