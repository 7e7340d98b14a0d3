-- Values of 4 bits, two to a byte: those of some bytes, and values packed so. Assumes nothing.
use Prim.Native.Nat.{ℕ, zero, suc, ◌+◌, ◌*◌, ◌/◌, ◌%◌, ◌<◌}
use mathlib.Core.Path.{◌≡◌, refl, sym, ap, ap₂, ◌∙◌}
use mathlib.Core.List.{List, [], ◌∷◌, ◌++◌}
use native.Mathlib.Omega.{arith}
use native.Mathlib.Numerals.{add-one}
use lib.ListN.{length, take, drop, get_or, set}
use lib.Seq.{take_all, take-suc-set, drop-cons}
use borrow.Author.Tests.{eq-eqb, ne_eqb}
use Rattle.bits.specs.Fields.{bits_of, number, run, cut}
use Rattle.bits.specs.Halves.{halves_into}
use Rattle.bits.proofs.Laws.{bits_of_split, number-bits_of, number_append, length_run, fit_run, run-cut, cut-more, run_drop}

-- ---- the halves of bytes

abbrev pub halves : List ℕ → List ℕ
halves bs = cut 4 (2 * length bs) (run 8 bs)

-- those of the first byte, and those behind it
pub halves_cons : (b : ℕ) (bs : List ℕ) → halves (b ∷ bs) ≡ b / 16 % 16 ∷ b % 16 ∷ halves bs
unfolding cut run bits_of
halves_cons b bs =
    let two : 2 * length (b ∷ bs) ≡ suc (suc (2 * length bs)) = omega arith in
    ap (λ (n : ℕ). cut 4 n (run 8 (b ∷ bs))) two
    ∙ ap (λ (l : List ℕ). cut 4 (suc (suc (2 * length bs))) (l ++ run 8 bs)) (bits_of_split 4 4 b)
    ∙ ap₂ (λ (x y : ℕ). x ∷ y ∷ halves bs) (number-bits_of 4 (b / 16)) (number-bits_of 4 b)

-- those of byte i
pub both_halves : (bs : List ℕ) (i : ℕ) → i < length bs → (get_or (halves bs) (2 * i) 0 ≡ get_or bs i 0 / 16 % 16) × (get_or (halves bs) (2 * i + 1) 0 ≡ get_or bs i 0 % 16)
both_halves [] i h = absurd (omega arith)
both_halves (b ∷ bs) zero h = rw (halves_cons b bs) (refl, refl)
both_halves (b ∷ bs) (suc i) h =
    let first : 2 * suc i ≡ suc (suc (2 * i)) = omega arith in
    let second : 2 * suc i + 1 ≡ suc (suc (2 * i + 1)) = omega arith in
    rw (second, first, halves_cons b bs) (both_halves bs i (omega arith))

-- ---- values packed

-- the first byte of a run is made of its first two values
first_byte : (a b : ℕ) (vs : List ℕ) → number (take 8 (run 4 (a ∷ b ∷ vs))) ≡ a % 16 * 16 + b % 16
unfolding bits_of run
first_byte a b vs = number_append (bits_of 4 a) (bits_of 4 b) ∙ ap₂ (λ (x y : ℕ). x * 16 + y) (number-bits_of 4 a) (number-bits_of 4 b)

-- another number of values leaves the part
pub halves_left : (part vs : List ℕ) → (length vs ≡ 2 * length part → ⊥) → part ≡ halves_into part vs
unfolding halves_into
halves_left part vs h = sym (rw (ne_eqb _ _ h) refl)

-- just two values for each byte
module _ (part vs : List ℕ) (pairs : length vs ≡ 2 * length part) where
  pub halves-packed : halves_into part vs ≡ cut 8 (length part) (run 4 vs)
  unfolding halves_into
  halves-packed = rw (eq-eqb _ _ pairs) refl

  -- the bytes have the values' bits
  pub halves_run : run 8 (halves_into part vs) ≡ run 4 vs
  halves_run =
      let bits : length (run 4 vs) ≡ length part * 8 = length_run 4 vs ∙ omega arith in
      ap (run 8) halves-packed ∙ run-cut 8 (length part) (run 4 vs) (fit_run 4 vs) (omega arith) ∙ take_all (length part * 8) (run 4 vs) (omega arith)

  -- a turn of the loop
  pub half_packed : (k : ℕ) → k < length part → take k part ≡ cut 8 k (run 4 vs)
      → take (k + 1) (set part k (get_or vs (2 * k) 0 % 16 * 16 + get_or vs (2 * k + 1) 0 % 16)) ≡ cut 8 (k + 1) (run 4 vs)
  half_packed k h e =
      let a = get_or vs (2 * k) 0 in
      let b = get_or vs (2 * k + 1) 0 in
      let rest = drop (suc (2 * k + 1)) vs in
      let at : k * 8 ≡ 2 * k * 4 = omega arith in
      let two : drop (2 * k) vs ≡ a ∷ b ∷ rest =
      drop-cons vs (2 * k) 0 (omega arith) ∙ rw (← add-one (2 * k)) (ap (λ (l : List ℕ). a ∷ l) (drop-cons vs (2 * k + 1) 0 (omega arith))) in
      let next : number (take 8 (drop (k * 8) (run 4 vs))) ≡ a % 16 * 16 + b % 16 =
      rw (at, ← run_drop 4 (2 * k) vs, two) (first_byte a b rest) in
      rw (add-one k)
      (take-suc-set part k (a % 16 * 16 + b % 16) h ∙ ap₂ (λ (l : List ℕ) (n : ℕ). l ++ (n ∷ [])) e (sym next) ∙ sym (cut-more 8 k (run 4 vs)))
