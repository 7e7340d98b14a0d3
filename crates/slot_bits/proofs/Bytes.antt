-- Slots' bits added up byte by byte, and the number that they make. Assumes nothing.
use Prim.Native.Nat.{ℕ, zero, suc, ◌+◌, ◌*◌, ◌/◌, ◌%◌, ◌^◌, ◌≤◌, ◌<◌}
use mathlib.Core.Path.{◌≡◌, refl, sym, ap, ap₂, ◌∙◌}
use mathlib.Core.Bool.{Bool, true, false, cond}
use mathlib.Core.List.{List, [], ◌∷◌, ◌++◌}
use native.Mathlib.Nat.{add_assoc, add-zero, zero-add, zero-mul, one-mul, mul-one, add-mul, mul-add, mul_assoc, mul_comm, pow-suc}
use native.Mathlib.Numerals.{add-one}
use native.Mathlib.Omega.{arith}
use lib.ListN.{length, get_or, take, drop, set, replicate, drop_of_length-le}
use lib.Pow.{pow-add}
use lib.Seq.{drop-cons, drop-drop}
use Rattle.slices.proofs.Toward.{Toward, toward_more, toward_all}
use Rattle.counters.specs.Counters.{last_slot}
use Rattle.slot_bits.specs.Bits.{as_bits, slots_as_bits, total, in_bytes}

-- ---- byte by byte

-- n numbers of byte g, from its place j on
of_byte : (g j n : ℕ) (ns : List ℕ) → j + n ≤ 8 → in_bytes (8 * g + j) ns ≡ total (take n ns) * 2 ^ (8 * g) + in_bytes (8 * g + j + n) (drop n ns)
unfolding total in_bytes
of_byte g j zero ns h = sym (ap (λ (k : ℕ). k + in_bytes (8 * g + j + 0) ns) (zero-mul (2 ^ (8 * g))) ∙ zero-add _ ∙ ap (λ (k : ℕ). in_bytes k ns) (add-zero (8 * g + j)))
of_byte g j (suc n) [] h = sym (ap (λ (k : ℕ). k + 0) (zero-mul (2 ^ (8 * g))))
of_byte g j (suc n) (m ∷ ns) h =
    let byte : (8 * g + j) / 8 ≡ g = omega arith in
    let next : 8 * g + j + 1 ≡ 8 * g + (j + 1) = omega arith in
    let last : 8 * g + (j + 1) + n ≡ 8 * g + j + suc n = omega arith in
    ap (λ (k : ℕ). m * 2 ^ (8 * k) + in_bytes (8 * g + j + 1) ns) byte
    ∙ ap (λ (k : ℕ). m * 2 ^ (8 * g) + k)
    (ap (λ (k : ℕ). in_bytes k ns) next ∙ of_byte g (j + 1) n ns (omega arith) ∙ ap (λ (k : ℕ). total (take n ns) * 2 ^ (8 * g) + in_bytes k (drop n ns)) last)
    ∙ sym (add_assoc (m * 2 ^ (8 * g)) (total (take n ns) * 2 ^ (8 * g)) (in_bytes (8 * g + j + suc n) (drop n ns)))
    ∙ sym (ap (λ (k : ℕ). k + in_bytes (8 * g + j + suc n) (drop n ns)) (add-mul m (total (take n ns)) (2 ^ (8 * g))))

-- from byte g on
pub byte_first : (ns : List ℕ) (g : ℕ)
    → in_bytes (8 * g) (drop (8 * g) ns) ≡ total (take 8 (drop (8 * g) ns)) * 2 ^ (8 * g) + in_bytes (8 * (g + 1)) (drop (8 * (g + 1)) ns)
byte_first ns g =
    let next : 8 * g + 8 ≡ 8 * (g + 1) = omega arith in
    ap (λ (k : ℕ). in_bytes k (drop (8 * g) ns)) (sym (add-zero (8 * g)))
    ∙ of_byte g 0 8 (drop (8 * g) ns) (omega arith)
    ∙ ap₂ (λ (k : ℕ) (l : List ℕ). total (take 8 (drop (8 * g) ns)) * 2 ^ (8 * g) + in_bytes (k + 8) l) (add-zero (8 * g)) (drop-drop 8 (8 * g) ns)
    ∙ ap (λ (k : ℕ). total (take 8 (drop (8 * g) ns)) * 2 ^ (8 * g) + in_bytes k (drop k ns)) next

-- ---- the bits of marks

-- the bit of each in its byte; k is the first one's place
unfoldable pub bits_from : ℕ → List Bool → List ℕ
bits_from k [] = []
bits_from k (b ∷ bs) = cond b (2 ^ (k % 8)) 0 ∷ bits_from (k + 1) bs

-- in its byte it is bit k of the number
bit_is : (k : ℕ) (b : Bool) → cond b (2 ^ (k % 8)) 0 * 2 ^ (8 * (k / 8)) ≡ 2 ^ k * cond b 1 0
bit_is k true =
    let whole : k % 8 + 8 * (k / 8) ≡ k = omega arith in
    sym (pow-add 2 (k % 8) (8 * (k / 8))) ∙ ap (λ (n : ℕ). 2 ^ n) whole ∙ sym (mul-one (2 ^ k))
bit_is k false = zero-mul (2 ^ (8 * (k / 8))) ∙ sym (mul_comm (2 ^ k) 0 ∙ zero-mul (2 ^ k))

pub bits_make : (k : ℕ) (bs : List Bool) → in_bytes k (bits_from k bs) ≡ 2 ^ k * as_bits bs
unfolding in_bytes bits_from as_bits
bits_make k [] = sym (mul_comm (2 ^ k) 0 ∙ zero-mul (2 ^ k))
bits_make k (b ∷ bs) =
    ap₂ ◌+◌ (bit_is k b)
    (bits_make (k + 1) bs ∙ ap (λ (n : ℕ). n * as_bits bs) (ap (λ (n : ℕ). 2 ^ n) (add-one k) ∙ pow-suc 2 k) ∙ mul_assoc (2 ^ k) 2 (as_bits bs))
    ∙ sym (mul-add (2 ^ k) (cond b 1 0) (2 * as_bits bs))

-- ---- bytes that are filled slot by slot

-- zeros add nothing
zeros : (k n : ℕ) → in_bytes k (replicate n 0) ≡ 0
unfolding in_bytes
zeros k zero = refl
zeros k (suc n) = ap₂ ◌+◌ (zero-mul (2 ^ (8 * (k / 8)))) (zeros (k + 1) n)

zeros-behind : (k n : ℕ) (ns : List ℕ) → in_bytes k (ns ++ replicate n 0) ≡ in_bytes k ns
unfolding in_bytes
zeros-behind k n [] = zeros k n
zeros-behind k n (m ∷ ns) = ap (λ (x : ℕ). m * 2 ^ (8 * (k / 8)) + x) (zeros-behind (k + 1) n ns)

-- the bytes have four places more than there are slots
abbrev spare : List ℕ
spare = replicate 4 0

-- the bits of the first i slots are there
abbrev pub Filling : List Bool → List ℕ → ℕ → Type 0
Filling marks bits i = Toward (bits_from 0 marks ++ spare) (replicate 56 0) bits (bits_from i (drop i marks) ++ spare) i

module _ (marks : List Bool) (long : length marks ≡ last_slot) {bits : List ℕ} {i : ℕ} (f : Filling marks bits i) where
  -- one slot more
  pub filling_more : {bit : ℕ} → i < last_slot → bit ≡ cond (get_or marks i false) (2 ^ (i % 8)) 0 → Filling marks (set bits i bit) (i + 1)
  unfolding bits_from
  filling_more {bit} h e =
      toward_more f bit
      (ap (λ (l : List Bool). bits_from i l ++ spare) (drop-cons marks i false (omega arith))
      ∙ ap₂ (λ (n k : ℕ). n ∷ (bits_from (i + 1) (drop k marks) ++ spare)) (sym e) (sym (add-one i)))
      (omega arith)

  -- all of them, each one bit higher
  pub filling_all : i ≡ last_slot → 2 * in_bytes 0 bits ≡ slots_as_bits marks
  unfolding slots_as_bits as_bits bits_from
  filling_all e =
      let none : drop i marks ≡ [] = drop_of_length-le marks {i = i} (omega arith) in
      let over : drop i (replicate 56 0) ≡ bits_from i (drop i marks) ++ spare =
      ap (λ (k : ℕ). drop k (replicate 56 0)) e ∙ sym (ap (λ (l : List Bool). bits_from i l ++ spare) none) in
      let all = ap (in_bytes 0) (toward_all f over) ∙ zeros-behind 0 4 (bits_from 0 marks) ∙ bits_make 0 marks ∙ one-mul (as_bits marks) in
      omega (arith, all)
