-- Marks made slot by slot: what a loop needs that asks each slot. Assumes nothing.
use Prim.Native.Nat.{ℕ, ◌+◌, ◌≤◌, ◌<◌}
use mathlib.Core.Path.{◌≡◌, sym, ap₂, ◌∙◌}
use mathlib.Core.Bool.{Bool, false}
use mathlib.Core.List.{List, ◌∷◌}
use native.Mathlib.Numerals.{add-one}
use native.Mathlib.Omega.{arith}
use lib.ListN.{length, get_or, drop, set, replicate, drop_of_length-le}
use lib.Seq.{drop-cons}
use Rattle.slices.proofs.Toward.{Toward, toward_more, toward_all}
use Rattle.counters.specs.Counters.{last_slot}

-- the first i of them are made
abbrev pub Marking : List Bool → List Bool → ℕ → Type 0
Marking made marks i = Toward made (replicate last_slot false) marks (drop i made) i

module _ (made : List Bool) (long : length made ≡ last_slot) {marks : List Bool} {i : ℕ} (m : Marking made marks i) where
  -- one slot more
  pub marking_more : {b : Bool} → i < last_slot → get_or made i false ≡ b → Marking made (set marks i b) (i + 1)
  marking_more {b} h e =
      toward_more m b (drop-cons made i false (omega arith) ∙ ap₂ (λ (x : Bool) (k : ℕ). x ∷ drop k made) e (sym (add-one i))) h

  -- all of them
  pub marking_all : last_slot ≤ i → marks ≡ made
  marking_all h =
      toward_all m (drop_of_length-le (replicate last_slot false) {i = i} h ∙ sym (drop_of_length-le made {i = i} (omega arith)))
