-- Laws of the CRC. Most rest on one fact: the shift is linear under xor.
-- Assumes nothing.
use Prim.Native.Nat.{ℕ, zero, suc, ◌+◌, ◌*◌, ◌/◌, ◌%◌, ◌^◌, ◌≤◌, ◌<◌}
use mathlib.Core.Path.{◌≡◌, refl, sym, ap, ap₂, ◌∙◌, subst}
use mathlib.Core.List.{List, [], ◌∷◌, ◌++◌}
use native.Mathlib.Omega.{arith}
use native.Mathlib.Nat.{add-mul, add-suc, suc-add, zero-add, lt_of_lt_of_le, pow-le-pow_right, pow-succ', mul_assoc, mod-lt, mod-eq_of_lt, mod-one, div-eq_of_lt, pow-suc, zero-mul, mul-mod_left, mul-one, suc_inj}
use native.Mathlib.Numerals.{one-add}
use lib.Dec.{lit<}
use lib.Bits.{bit_xor, xor_lt, xor_mod, xor_self, xor_shifted, xor_shr, xor_zero_r}
use lib.Pow.{pow-add, pow_pos, mod-mod-pow, mod-pow-add, shl_lt, shr_mod}
use Rattle.bits.specs.Fields.{bits_of, Fit, none, more}
use Rattle.crc.specs.Crc.{poly, shift, bit_in, register_from, shifts}
use Rattle.crc.proofs.Xor.{bit_cases, xor_assoc, xor_injective, xor_shl, xor_swap, xor_times}

-- ---- the shift

pub shift_lt : (s : ℕ) → shift s < 2 ^ 32
unfolding shift poly
shift_lt s = xor_lt 32 (s * 2 % 2 ^ 32) (s / 2 ^ 31 % 2 * poly) (mod-lt (s * 2) (lit< tt)) (let h : s / 2 ^ 31 % 2 < 2 = mod-lt (s / 2 ^ 31) (lit< tt) in omega arith)

-- the bit that falls out
pub top_linear : (s t : ℕ) → bit_xor s t / 2 ^ 31 % 2 ≡ bit_xor (s / 2 ^ 31 % 2) (t / 2 ^ 31 % 2)
top_linear s t = ap (λ (x : ℕ). x % 2) (xor_shr s t 31) ∙ xor_mod (s / 2 ^ 31) (t / 2 ^ 31) 1

pub shift_linear : (s t : ℕ) → shift (bit_xor s t) ≡ bit_xor (shift s) (shift t)
unfolding shift
shift_linear s t =
    ap₂ bit_xor (ap (λ (x : ℕ). x % 2 ^ 32) (xor_shl s t 1) ∙ xor_mod (s * 2) (t * 2) 32)
    (ap (λ (x : ℕ). x * poly) (top_linear s t) ∙ xor_times poly (s / 2 ^ 31 % 2) (t / 2 ^ 31 % 2) (mod-lt (s / 2 ^ 31) (lit< tt)) (mod-lt (t / 2 ^ 31) (lit< tt)))
    ∙ xor_swap (s * 2 % 2 ^ 32) (t * 2 % 2 ^ 32) (s / 2 ^ 31 % 2 * poly) (t / 2 ^ 31 % 2 * poly)

-- nothing falls out at the top
pub shift_low : (s : ℕ) → s < 2 ^ 31 → shift s ≡ s * 2
unfolding shift
shift_low s h =
    ap₂ bit_xor (mod-eq_of_lt (shl_lt 31 1 h)) (ap (λ (x : ℕ). x % 2 * poly) (div-eq_of_lt h) ∙ zero-mul poly) ∙ xor_zero_r (s * 2)

-- a one falls out
pub shift_high : (s : ℕ) → s / 2 ^ 31 ≡ 1 → shift s ≡ bit_xor (s * 2 % 2 ^ 32) poly
unfolding shift poly
shift_high s e = ap (λ (b : ℕ). bit_xor (s * 2 % 2 ^ 32) (b % 2 * poly)) e

-- the polynomial is odd, so nothing but zero shifts to zero
pub shift_zero : (s : ℕ) → s < 2 ^ 32 → shift s ≡ 0 → s ≡ 0
unfolding shift poly
shift_zero s h e =
    bit_cases (λ (b : ℕ). s / 2 ^ 31 % 2 ≡ b → s ≡ 0)
    (λ z. let top : s / 2 ^ 31 ≡ 0 = sym (shr_mod 1 31 h) ∙ z in let low : s < 2 ^ 31 = omega arith in let twice : s * 2 ≡ 0 = sym (shift_low s low) ∙ e in omega arith)
    (λ z. let odd : 1 ≡ 0 = ap (λ (b : ℕ). b * poly % 2) (sym z) ∙ ap (λ (x : ℕ). x % 2) same ∙ mod-mod-pow (s * 2) 31 1 ∙ mul-mod_left s 2 in omega arith)
    (s / 2 ^ 31 % 2) (mod-lt (s / 2 ^ 31) (lit< tt)) refl
  where
    same : s / 2 ^ 31 % 2 * poly ≡ s * 2 % 2 ^ 32
    same = xor_injective (s * 2 % 2 ^ 32) (e ∙ sym (xor_self (s * 2 % 2 ^ 32)))

pub shift_injective : (s t : ℕ) → s < 2 ^ 32 → t < 2 ^ 32 → shift s ≡ shift t → s ≡ t
shift_injective s t hs ht e =
    sym (xor_injective s (shift_zero (bit_xor s t) (xor_lt 32 s t hs ht)
    (shift_linear s t ∙ ap (λ (x : ℕ). bit_xor x (shift t)) e ∙ xor_self (shift t)) ∙ sym (xor_self s)))

pub shifts_injective : (n s t : ℕ) → s < 2 ^ 32 → t < 2 ^ 32 → shifts n s ≡ shifts n t → s ≡ t
unfolding shifts
shifts_injective zero s t hs ht e = e
shifts_injective (suc n) s t hs ht e =
    shift_injective s t hs ht (shifts_injective n (shift s) (shift t) (shift_lt s) (shift_lt t) e)

pub shifts_zero : (n : ℕ) → shifts n 0 ≡ 0
unfolding shifts shift poly
shifts_zero zero = refl
shifts_zero (suc n) = shifts_zero n

-- ---- several shifts

pub shifts_add : (a b s : ℕ) → shifts (a + b) s ≡ shifts b (shifts a s)
unfolding shifts
shifts_add zero b s = rw zero-add
shifts_add (suc a) b s = ap (λ (n : ℕ). shifts n s) (suc-add a b) ∙ shifts_add a b (shift s)

pub shifts_linear : (n s t : ℕ) → shifts n (bit_xor s t) ≡ bit_xor (shifts n s) (shifts n t)
unfolding shifts
shifts_linear zero s t = refl
shifts_linear (suc n) s t = ap (shifts n) (shift_linear s t) ∙ shifts_linear n (shift s) (shift t)

-- nothing falls out at the top
pub shifts_low : (w n v : ℕ) → w + n ≤ 32 → v < 2 ^ w → shifts n v ≡ v * 2 ^ n
unfolding shifts
shifts_low w zero v e h = sym (mul-one v)
shifts_low w (suc n) v e h =
    ap (shifts n) (shift_low v (lt_of_lt_of_le h (pow-le-pow_right (lit< tt) {i = w} {j = 31} (omega arith))))
    ∙ shifts_low (w + 1) n (v * 2) (omega arith) (shl_lt w 1 h)
    ∙ mul_assoc v 2 (2 ^ n) ∙ ap (λ (x : ℕ). v * x) (sym (pow-succ' 2 n))

-- ---- the register

pub register_from_append : (s : ℕ) (a b : List ℕ) → register_from s (a ++ b) ≡ register_from (register_from s a) b
unfolding register_from
register_from_append s [] b = refl
register_from_append s (x ∷ xs) b = register_from_append (bit_in s x) xs b

pub register_from_lt : (s : ℕ) (bs : List ℕ) → s < 2 ^ 32 → Fit 1 bs → register_from s bs < 2 ^ 32
unfolding register_from bit_in
register_from_lt s [] h none = h
register_from_lt s (b ∷ bs) h (more l f) = register_from_lt (bit_in s b) bs (shift_lt (bit_xor s (b * 2 ^ 31))) f

-- ---- a field of bits at once

-- the highest of a field's bits, and the others
pub field_top : (w k v : ℕ) → w + k ≡ 31 → v % 2 ^ suc w * 2 ^ k ≡ v / 2 ^ w % 2 * 2 ^ 31 + v % 2 ^ w * 2 ^ k
field_top w k v e =
    ap (λ (n : ℕ). v % 2 ^ n * 2 ^ k) (sym (one-add w)) ∙ ap (λ (x : ℕ). x * 2 ^ k) (mod-pow-add v 1 w)
    ∙ add-mul (v / 2 ^ w % 2 * 2 ^ w) (v % 2 ^ w) (2 ^ k)
    ∙ ap (λ (x : ℕ). x + v % 2 ^ w * 2 ^ k) (mul_assoc (v / 2 ^ w % 2) (2 ^ w) (2 ^ k) ∙ ap (λ (x : ℕ). v / 2 ^ w % 2 * x) (sym (pow-add 2 w k) ∙ ap (λ (n : ℕ). 2 ^ n) e))

-- a field enters whole, at the top of the register, before the shifts
pub field_in : (w k : ℕ) → w + k ≡ 32 → (s v : ℕ) → register_from s (bits_of w v) ≡ shifts w (bit_xor s (v % 2 ^ w * 2 ^ k))
unfolding register_from bits_of shifts bit_in
field_in zero k e s v = sym (ap (λ (x : ℕ). bit_xor s (x * 2 ^ k)) (mod-one v) ∙ ap (bit_xor s) (zero-mul (2 ^ k)) ∙ xor_zero_r s)
field_in (suc w) k e s v =
    field_in w (suc k) (add-suc w k ∙ sym (suc-add w k) ∙ e) (bit_in s b) v
    ∙ ap (shifts w) (ap (bit_xor (bit_in s b)) (sym later) ∙ sym (shift_linear (bit_xor s (b * 2 ^ 31)) (r * 2 ^ k))
    ∙ ap shift (xor_assoc s (b * 2 ^ 31) (r * 2 ^ k) ∙ ap (bit_xor s) (xor_shifted b 31 (r * 2 ^ k) low ∙ sym (field_top w k v rest))))
  where
    b : ℕ
    b = v / 2 ^ w % 2

    r : ℕ
    r = v % 2 ^ w

    rest : w + k ≡ 31
    rest = suc_inj (sym (suc-add w k) ∙ e)

    low : r * 2 ^ k < 2 ^ 31
    low = subst (λ (n : ℕ). r * 2 ^ k < 2 ^ n) rest (shl_lt w k (mod-lt v (pow_pos w)))

    later : shift (r * 2 ^ k) ≡ r * 2 ^ suc k
    later = shift_low (r * 2 ^ k) low ∙ mul_assoc r (2 ^ k) 2 ∙ ap (λ (x : ℕ). r * x) (sym (pow-suc 2 k))

pub word_in : (s v : ℕ) → v < 2 ^ 32 → register_from s (bits_of 32 v) ≡ shifts 32 (bit_xor s v)
word_in s v h = field_in 32 0 refl s v ∙ ap (λ (x : ℕ). shifts 32 (bit_xor s x)) (mul-one (v % 2 ^ 32) ∙ mod-eq_of_lt h)

-- the register's own bits behind a message bring it to zero
pub own_bits : (s : ℕ) → s < 2 ^ 32 → register_from s (bits_of 32 s) ≡ 0
own_bits s h = word_in s s h ∙ ap (shifts 32) (xor_self s) ∙ shifts_zero 32

-- and no other 32 bits do
pub own_bits_only : (s v : ℕ) → s < 2 ^ 32 → v < 2 ^ 32 → register_from s (bits_of 32 v) ≡ 0 → v ≡ s
own_bits_only s v hs hv e =
    xor_injective s (shifts_injective 32 (bit_xor s v) (bit_xor s s) (xor_lt 32 s v hs hv) (xor_lt 32 s s hs hs)
    (sym (word_in s v hv) ∙ e ∙ sym (own_bits s hs) ∙ word_in s s hs))
