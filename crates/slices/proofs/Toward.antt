-- A list on its way to another: its front is done, what is to follow the front is known, and the rest is as it was. It is what a
-- loop needs that goes through a list. Assumes nothing.
use Prim.Native.Nat.{ℕ, ◌+◌, ◌≤◌, ◌<◌}
use mathlib.Core.Path.{◌≡◌, refl, sym, ap, subst, ◌∙◌}
use mathlib.Core.List.{List, [], ◌∷◌, ◌++◌, append_assoc}
use native.Mathlib.Omega.{arith}
use lib.ListN.{length, take, drop, set}
use Rattle.slices.proofs.Front.{Front, put, front_none, front-more, front_kept, front-part}

-- d is d₀ with i elements of `whole` over its front, behind which `whole` has `next`
pub record Toward {A : Type 0} (whole d₀ d next : List A) (i : ℕ) : Type 0 where
  pub done : List A
  pub front : Front d₀ done d i
  pub left : done ++ next ≡ whole

module _ {A : Type 0} where
  pub toward_none : (d whole : List A) → Toward whole d d whole 0
  toward_none d whole = record { done = []; front = front_none d; left = refl }

  module _ {whole d₀ d next : List A} {i : ℕ} (t : Toward whole d₀ d next i) where
    -- behind some elements more
    onward : (ys rest : List A) → next ≡ ys ++ rest → (t.done ++ ys) ++ rest ≡ whole
    onward ys rest e = append_assoc t.done ys rest ∙ ap (λ (l : List A). t.done ++ l) (sym e) ∙ t.left

    -- one element is set
    pub toward_more : (v : A) {rest : List A} → next ≡ v ∷ rest → i < length d₀ → Toward whole d₀ (set d i v) rest (i + 1)
    toward_more v {rest} e h =
        record { done = t.done ++ (v ∷ []); front = front-more d₀ t.done d i v t.front h; left = onward (v ∷ []) rest e }

    -- k elements stay as they were
    pub toward_kept : (k : ℕ) {rest : List A} {j : ℕ} → next ≡ take k (drop i d₀) ++ rest → i + k ≡ j → j ≤ length d₀ → Toward whole d₀ d rest j
    toward_kept k {rest} e p h =
        record {
          done = t.done ++ take k (drop i d₀);
          front = subst (Front d₀ (t.done ++ take k (drop i d₀)) d) p (front_kept d₀ t.done d i k t.front (omega arith));
          left = onward (take k (drop i d₀)) rest e;
        }

    -- k elements were lent and came back as ys
    pub toward_part : (ys : List A) (k : ℕ) {rest : List A} {j : ℕ} → next ≡ ys ++ rest → length ys ≡ k → i + k ≡ j
        → Toward whole d₀ (put i k d ys) rest j
    toward_part ys k {rest} e l p =
        record {
          done = t.done ++ ys;
          front = subst (Front d₀ (t.done ++ ys) (put i k d ys)) p (front-part d₀ t.done d ys i k t.front l);
          left = onward ys rest e;
        }

    -- what is to follow is there already
    pub toward_all : drop i d₀ ≡ next → d ≡ whole
    toward_all e = t.front.is ∙ ap (λ (l : List A). t.done ++ l) e ∙ t.left
