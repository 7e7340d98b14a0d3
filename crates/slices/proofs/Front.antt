-- A list whose front is being overwritten, one element a turn: what a loop that fills a slice needs. Assumes nothing.
use Prim.Native.Nat.{ℕ, zero, suc, ◌+◌, ◌-◌, ◌≤◌, ◌<◌}
use mathlib.Core.Path.{◌≡◌, refl, sym, ap, ap₂, ◌∙◌}
use mathlib.Core.List.{List, [], ◌∷◌, ◌++◌, append_assoc, append-nil}
use native.Mathlib.Omega.{arith}
use native.Mathlib.Nat.{zero-add, suc-add}
use native.Mathlib.Numerals.{add-one}
use lib.ListN.{length, take, drop, set, get_or, length-append, length-drop, drop_of_length-le, take-append-drop}
use lib.Seq.{take-nil, sets, sets-eq, drop-cons, set_at, append_snoc, take_at, drop_at, drop-drop, take-length, length-take-le}
use Rattle.slices.specs.Slices.{copied, over}

-- d is d₀ with the i elements of `done` over its front
pub record Front {A : Type 0} (d₀ done d : List A) (i : ℕ) : Type 0 where
  pub is : d ≡ done ++ drop i d₀
  pub long : length done ≡ i

-- a list with ys in the place of its k elements from i on: what is left when a part was lent
abbrev pub put : {A : Type 0} → ℕ → ℕ → List A → List A → List A
put i k l ys = take i l ++ (ys ++ drop k (drop i l))

-- a part without its front
pub drop-take : (k n : ℕ) (l : List ℕ) → drop k (take (k + n) l) ≡ take n (drop k l)
drop-take zero n l = rw (zero-add n) refl
drop-take (suc k) n [] = rw (suc-add k n, take-nil {A = ℕ} n) refl
drop-take (suc k) n (x ∷ l) = rw (suc-add k n) (drop-take k n l)

module _ {A : Type 0} where
  pub front_none : (d : List A) → Front d [] d 0
  front_none d = record { is = refl; long = refl }

  pub front-more : (d₀ done d : List A) (i : ℕ) (v : A) → Front d₀ done d i → i < length d₀ → Front d₀ (done ++ (v ∷ [])) (set d i v) (i + 1)
  front-more d₀ done d i v f h =
      record {
        is =
            ap (λ (l : List A). set l i v) (f.is ∙ ap (λ (l : List A). done ++ l) (drop-cons d₀ i v h))
            ∙ set_at done (get_or d₀ i v) (drop (suc i) d₀) v i f.long ∙ sym (append_snoc done v (drop (suc i) d₀))
            ∙ ap (λ (k : ℕ). done ++ (v ∷ []) ++ drop k d₀) (sym (add-one i));
        long = length-append done (v ∷ []) ∙ ap (λ (k : ℕ). k + 1) f.long;
      }

  -- the next k elements stay as they were
  pub front_kept : (d₀ done d : List A) (i k : ℕ) → Front d₀ done d i → i + k ≤ length d₀ → Front d₀ (done ++ take k (drop i d₀)) d (i + k)
  front_kept d₀ done d i k f h =
      record {
        is =
            f.is
            ∙ ap (λ (l : List A). done ++ l) (sym (take-append-drop k (drop i d₀)) ∙ ap (λ (l : List A). take k (drop i d₀) ++ l) (drop-drop k i d₀))
            ∙ sym (append_assoc done (take k (drop i d₀)) (drop (i + k) d₀));
        long = length-append done (take k (drop i d₀)) ∙ ap₂ ◌+◌ f.long (length-take-le k (drop i d₀) (rw length-drop (omega arith)));
      }

  pub front_length : (d₀ done d : List A) (i : ℕ) → Front d₀ done d i → i ≤ length d₀ → length d ≡ length d₀
  front_length d₀ done d i f h =
      let e : length d ≡ length done + (length d₀ - i) = ap length f.is ∙ length-append done (drop i d₀) ∙ ap (λ (k : ℕ). length done + k) (length-drop i d₀) in
      let l : length done ≡ i = f.long in
      omega arith

  pub front-all : (d₀ done d : List A) (i : ℕ) → Front d₀ done d i → length d₀ ≤ i → d ≡ done
  front-all d₀ done d i f h = f.is ∙ ap (λ (l : List A). done ++ l) (drop_of_length-le d₀ h) ∙ append-nil done

  -- a part behind the front that was lent and came back as ys, k elements from i on
  pub front-part : (d₀ done d ys : List A) (i k : ℕ) → Front d₀ done d i → length ys ≡ k
      → Front d₀ (done ++ ys) (put i k d ys) (i + k)
  front-part d₀ done d ys i k f l =
      record {
        is =
            ap₂ (λ (x y : List A). x ++ (ys ++ y))
            (ap (take i) f.is ∙ take_at done (drop i d₀) i f.long)
            (ap (drop k) (ap (drop i) f.is ∙ drop_at done (drop i d₀) i f.long) ∙ drop-drop k i d₀)
            ∙ sym (append_assoc done ys (drop (i + k) d₀));
        long = length-append done ys ∙ ap₂ ◌+◌ f.long l;
      }

-- every element of a list stored over
pub stored : (vs l : List ℕ) → length l ≡ length vs → sets l 0 vs ≡ vs
stored vs l e =
    let whole : length l ≤ 0 + length vs = omega arith in
    sets-eq vs l 0 (omega arith) ∙ ap (λ (r : List ℕ). vs ++ r) (drop_of_length-le l whole) ∙ append-nil vs

-- what one store after another leaves, up to the last of them
pub stored_behind : (vs l : List ℕ) (at : ℕ) → at + length vs ≤ length l → take (at + length vs) (sets l at vs) ≡ take at l ++ vs
stored_behind vs l at h =
    let n = at + length vs in
    let front : length (take at l ++ vs) ≡ n = length-append (take at l) vs ∙ ap (λ (k : ℕ). k + length vs) (length-take-le at l (omega arith)) in
    ap (take n) (sets-eq vs l at h) ∙ take_at (take at l ++ vs) (drop n l) n front

-- as many elements as there are copied over all of them
pub copied-over : (into from : List ℕ) → length into ≡ length from → copied into from ≡ from
unfolding copied
copied-over into from e = rw (e, take-length from, drop_of_length-le into {i = length from} (omega arith)) (append-nil from)

-- k bytes were lent and came back as p
pub put-over : (at k : ℕ) (bytes : List ℕ) {ys p : List ℕ} → ys ≡ p → length p ≡ k → put at k bytes ys ≡ over at p bytes
unfolding over
put-over at k bytes {ys} {p} y l =
    ap₂ (λ (m q : List ℕ). take at bytes ++ (m ++ q)) y (drop-drop k at bytes ∙ ap (λ (n : ℕ). drop (at + n) bytes) (sym l))
