-- Marks as bits of one number: which bits are set, how many, and the lowest of them. Assumes nothing.
use Prim.Native.Nat.{ℕ, zero, suc, ◌+◌, ◌*◌, ◌/◌, ◌%◌, ◌^◌, ◌≤◌, ◌<◌}
use mathlib.Core.Path.{◌≡◌, refl, sym, ap, ap₂, ◌∙◌}
use mathlib.Core.Bool.{Bool, true, false, cond}
use mathlib.Core.List.{List, [], ◌∷◌, ◌++◌}
use native.Mathlib.Nat.{pow-suc, mul_comm, zero-div, div-one, div-div-eq-div-mul}
use native.Mathlib.Omega.{arith}
use lib.Count.{ones, ones_step, count_trailing_zeros}
use lib.Dec.{eqb}
use lib.ListN.{length, get_or, replicate}
use Rattle.slot_bits.specs.Bits.{as_bits, slots_as_bits}

-- ---- the lowest bit, and the others

lowest : (b : Bool) (n : ℕ) → ((cond b 1 0 + 2 * n) % 2 ≡ cond b 1 0) × ((cond b 1 0 + 2 * n) / 2 ≡ n)
lowest true n = (omega arith, omega arith)
lowest false n = (omega arith, omega arith)

-- how many are set
pub ones_first : (b : Bool) (bs : List Bool) → ones (as_bits (b ∷ bs)) ≡ cond b 1 0 + ones (as_bits bs)
unfolding as_bits
ones_first b bs =
    ones_step (cond b 1 0 + 2 * as_bits bs) ∙ ap₂ (λ (d n : ℕ). d + ones n) (lowest b (as_bits bs)).0 (lowest b (as_bits bs)).1

pub ones_none : ones (as_bits []) ≡ 0
unfolding as_bits ones
ones_none = refl

-- bit i is mark i
pub bit_at : (bs : List Bool) (i : ℕ) → eqb (as_bits bs / 2 ^ i % 2) 1 ≡ get_or bs i false
unfolding as_bits
bit_at [] i = ap (λ (n : ℕ). eqb (n % 2) 1) (zero-div (2 ^ i))
bit_at (b ∷ bs) zero = rw (div-one (cond b 1 0 + 2 * as_bits bs), (lowest b (as_bits bs)).0) (is b)
  where
    is : (b : Bool) → eqb (cond b 1 0) 1 ≡ b
    is true = refl
    is false = refl
bit_at (b ∷ bs) (suc i) =
    let half : (cond b 1 0 + 2 * as_bits bs) / 2 ^ suc i ≡ as_bits bs / 2 ^ i =
    ap (λ (n : ℕ). (cond b 1 0 + 2 * as_bits bs) / n) (pow-suc 2 i ∙ mul_comm (2 ^ i) 2) ∙ sym (div-div-eq-div-mul (cond b 1 0 + 2 * as_bits bs) 2 (2 ^ i))
    ∙ ap (λ (n : ℕ). n / 2 ^ i) (lowest b (as_bits bs)).1 in
    ap (λ (n : ℕ). eqb (n % 2) 1) half ∙ bit_at bs i

-- ---- the first slot

-- mark t, from 0, is the first that is set, and `later` are those behind it
record First (bs : List Bool) (t : ℕ) : Type 0 where
  later : List Bool
  marks : bs ≡ replicate t false ++ (true ∷ later)
  bits : as_bits bs ≡ 2 ^ t + as_bits (replicate t false ++ (false ∷ later))

first : (k : ℕ) (bs : List Bool) → length bs ≤ k → (as_bits bs ≡ 0 → ⊥) → First bs (count_trailing_zeros k (as_bits bs))
unfolding as_bits count_trailing_zeros
first k [] h some = absurd (some refl)
first zero (b ∷ bs) h some = absurd (omega arith)
first (suc k) (true ∷ bs) h some = rw (lowest true (as_bits bs)).0 (record { later = bs; marks = refl; bits = omega arith })
first (suc k) (false ∷ bs) h some =
    rw ((lowest false (as_bits bs)).0, (lowest false (as_bits bs)).1) (behind (first k bs (omega arith) (λ z. some (omega arith))))
  where
    behind : {t : ℕ} → First bs t → First (false ∷ bs) (suc t)
    behind {t} f =
        record { later = f.later; marks = ap (λ (l : List Bool). false ∷ l) f.marks; bits = omega (arith, f.bits, pow-suc 2 t) }

-- the lowest bit's number is the first marked slot's: so many slots stand before it, and `later` behind it
pub record FirstSlot (marks : List Bool) (slot : ℕ) : Type 0 where
  pub before : ℕ
  pub later : List Bool
  pub number : slot ≡ suc before
  pub slots : marks ≡ replicate before false ++ (true ∷ later)
  pub bits : slots_as_bits marks ≡ 2 ^ suc before + slots_as_bits (replicate before false ++ (false ∷ later))

pub first_slot : (marks : List Bool) → length marks < 64 → (slots_as_bits marks ≡ 0 → ⊥) → FirstSlot marks (count_trailing_zeros 64 (slots_as_bits marks))
unfolding slots_as_bits as_bits count_trailing_zeros
first_slot marks h some =
    let f = first 63 marks (omega arith) (λ z. some (omega arith)) in
    let t = count_trailing_zeros 63 (as_bits marks) in
    rw ((lowest false (as_bits marks)).0, (lowest false (as_bits marks)).1)
    (record { before = t; later = f.later; number = refl; slots = f.marks; bits = omega (arith, f.bits, pow-suc 2 t) })

-- ---- one number for each set of slots

same_marks : (bs cs : List Bool) → length bs ≡ length cs → as_bits bs ≡ as_bits cs → bs ≡ cs
unfolding as_bits
same_marks [] [] l e = refl
same_marks [] (c ∷ cs) l e = absurd (omega arith)
same_marks (b ∷ bs) [] l e = absurd (omega arith)
same_marks (true ∷ bs) (true ∷ cs) l e = ap (λ (r : List Bool). true ∷ r) (same_marks bs cs (omega arith) (omega arith))
same_marks (false ∷ bs) (false ∷ cs) l e = ap (λ (r : List Bool). false ∷ r) (same_marks bs cs (omega arith) (omega arith))
same_marks (true ∷ bs) (false ∷ cs) l e = absurd (omega arith)
same_marks (false ∷ bs) (true ∷ cs) l e = absurd (omega arith)

pub same_slots : (bs cs : List Bool) → length bs ≡ length cs → slots_as_bits bs ≡ slots_as_bits cs → bs ≡ cs
unfolding slots_as_bits as_bits
same_slots bs cs l e = same_marks bs cs l (omega arith)
