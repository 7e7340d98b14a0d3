-- The header's numbers, slot by slot. Assumes nothing.
use Prim.Native.Nat.{ℕ, zero, suc, ◌+◌, ◌≤◌, ◌<◌}
use mathlib.Core.Path.{◌≡◌, refl, sym, ap, ap₂, ◌∙◌}
use mathlib.Core.Bool.{cond}
use mathlib.Core.List.{List, [], ◌∷◌, ◌++◌, append_assoc}
use native.Mathlib.Omega.{arith}
use lib.Dec.{eqb}
use native.Mathlib.Numerals.{add-one}
use lib.ListN.{length, get_or, take, drop, set, length-drop, drop_of_length-le, take-append-drop}
use lib.Seq.{drop-cons, drop-drop, take-take, get_or-drop}
use Rattle.std.proofs.lemmas.List.{get_or-append-add}
use Rattle.slices.specs.Slices.{over}
use Rattle.slices.proofs.Front.{Front, put, drop-take}
use Rattle.slices.proofs.Toward.{Toward, toward_more, toward_all}
use Rattle.counters.specs.Counters.{last_slot}
use Rattle.setting_bytes.specs.Settings.{part, numbers_at, private_at, setting_length, setting_from}
use Rattle.setting_bytes.proofs.Parts.{length_part}
use Rattle.setting_bytes.proofs.Same.{part_inside}
use Rattle.composer.specs.Slots.{numbers_of}
use Rattle.composer.specs.States.{marks_of}

-- the number of slot i + 1, by the byte that marks it
pub numbers_of-at : (ns filled : List ℕ) (i : ℕ) → i < length ns → i < length filled
    → get_or (numbers_of ns (marks_of filled)) i 0 ≡ cond (eqb (get_or filled i 0) 1) (get_or ns i 0) 0
unfolding numbers_of
numbers_of-at [] filled i h g = absurd (omega arith)
numbers_of-at (n ∷ ns) [] i h g = absurd (omega arith)
numbers_of-at (n ∷ ns) (f ∷ filled) zero h g = refl
numbers_of-at (n ∷ ns) (f ∷ filled) (suc i) h g = numbers_of-at ns filled i (omega arith) (omega arith)

-- there are as many as slots
pub length_numbers : (ns filled : List ℕ) → length ns ≡ length filled → length (numbers_of ns (marks_of filled)) ≡ length ns
unfolding numbers_of
length_numbers [] filled h = refl
length_numbers (n ∷ ns) [] h = absurd (omega arith)
length_numbers (n ∷ ns) (f ∷ filled) h = ap suc (length_numbers ns filled (omega arith))

-- ---- numbered in turn

-- what the front has not reached is as it was
unreached : {d₀ done d : List ℕ} {i : ℕ} → Front d₀ done d i → get_or d i 0 ≡ get_or d₀ i 0
unreached {d₀} {done} {d} {i} f =
    let at : i ≡ length done + 0 = omega (arith, f.long) in
    let there : i + 0 ≡ i = omega arith in
    ap (λ (l : List ℕ). get_or l i 0) f.is ∙ ap (λ (k : ℕ). get_or (done ++ drop i d₀) k 0) at ∙ get_or-append-add done (drop i d₀) 0 0
    ∙ get_or-drop i d₀ 0 0 ∙ ap (λ (k : ℕ). get_or d₀ k 0) there

module _ (plan marks : List ℕ) where
  abbrev said : List ℕ
  said = numbers_of plan (marks_of marks)

  module _ (as_many : length plan ≡ length marks) {items : List ℕ} {i : ℕ} where
    pub numbers_more : (t : Toward said plan items (drop i said) i) → i < length plan → {v : ℕ} → v ≡ cond (eqb (get_or marks i 0) 1) (get_or items i 0) 0
        → Toward said plan (set items i v) (drop (i + 1) said) (i + 1)
    numbers_more t h {v} e =
        let here : get_or said i 0 ≡ v =
        numbers_of-at plan marks i h (omega arith) ∙ ap (λ (n : ℕ). cond (eqb (get_or marks i 0) 1) n 0) (sym (unreached t.front)) ∙ sym e in
        toward_more t v (drop-cons said i 0 (omega (arith, length_numbers plan marks as_many)) ∙ ap₂ (λ (x k : ℕ). x ∷ drop k said) here (sym (add-one i))) h

    pub numbers_all : Toward said plan items (drop i said) i → length plan ≤ i → items ≡ said
    numbers_all t h =
        toward_all t (drop_of_length-le plan {i = i} h ∙ sym (drop_of_length-le said {i = i} (omega (arith, length_numbers plan marks as_many))))

-- a setting numbered, and the marks behind it
pub numbered : (opened setting marks items : List ℕ) → length opened ≡ setting_length + last_slot → setting ≡ take setting_length opened → marks ≡ drop setting_length opened
    → items ≡ numbers_of (part numbers_at last_slot setting) (marks_of marks)
    → put numbers_at last_slot setting items ++ marks ≡ over numbers_at (numbers_of (part numbers_at last_slot opened) (marks_of (drop setting_length opened))) opened
unfolding over
numbered opened setting marks items long s m e =
    let said = numbers_of (part numbers_at last_slot opened) (marks_of (drop setting_length opened)) in
    let plan : part numbers_at last_slot setting ≡ part numbers_at last_slot opened =
    ap (part numbers_at last_slot) s ∙ part_inside numbers_at last_slot 0 setting_length opened (omega arith) in
    let front : take numbers_at setting ≡ take numbers_at opened = ap (take numbers_at) s ∙ take-take numbers_at setting_length opened (omega arith) in
    let planned = length_part numbers_at last_slot opened (omega (arith, long)) in
    let enough : private_at ≡ numbers_at + length said =
    omega (arith, planned, length_numbers (part numbers_at last_slot opened) (drop setting_length opened) (planned ∙ sym (length-drop setting_length opened ∙ omega (arith, long)))) in
    let rest : drop last_slot (drop numbers_at setting) ++ marks ≡ drop (numbers_at + length said) opened =
    ap₂ ◌++◌ (drop-drop last_slot numbers_at setting ∙ ap (drop private_at) s ∙ drop-take private_at (setting_from private_at) opened)
    (m ∙ sym (drop-drop (setting_from private_at) private_at opened))
    ∙ take-append-drop (setting_from private_at) (drop private_at opened) ∙ ap (λ (k : ℕ). drop k opened) enough in
    append_assoc (take numbers_at setting) (items ++ drop last_slot (drop numbers_at setting)) marks
    ∙ ap₂ ◌++◌ front (append_assoc items (drop last_slot (drop numbers_at setting)) marks ∙ ap₂ ◌++◌ (e ∙ ap₂ (λ (p l : List ℕ). numbers_of p (marks_of l)) plan m) rest)
