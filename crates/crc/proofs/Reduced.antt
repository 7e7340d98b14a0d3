-- Laws of numbers of 64 bits that stand for registers. Assumes nothing.
use Prim.Native.Nat.{ℕ, zero, suc, ◌+◌, ◌*◌, ◌/◌, ◌%◌, ◌^◌, ◌≤◌, ◌<◌}
use mathlib.Core.Path.{◌≡◌, refl, sym, ap, ap₂, ◌∙◌, subst}
use native.Mathlib.Omega.{arith}
use native.Mathlib.Nat.{add_assoc, add_comm, div-eq_of_lt, lt_of_lt_of_le, mod-eq_of_lt, mod-lt, mul_assoc, mul-mod_left, mul-one, pow-le-pow_right, pow-succ'}
use lib.Bits.{bit_xor, xor_comm, xor_lt, xor_mod, xor_shifted, xor_shr, xor_zero_l, xor_zero_r}
use lib.Dec.{lit<}
use lib.Pow.{mod-pow-add, pow_pos, shl_exact, shl_lt, shl-shr, shr_lt, shr_mod, shr-shr, split}
use Rattle.bits.specs.Fields.{bits_of}
use Rattle.bits.proofs.Laws.{bits_of_split}
use Rattle.crc.specs.Crc.{poly, register_from, shift, shifts}
use Rattle.crc.specs.Words.{Ahead, held, reduced}
use Rattle.crc.proofs.Laws.{field_in, register_from_append, shift_linear, shift_low, shifts_add, shifts_linear, shifts_low, shifts_zero}
use Rattle.crc.proofs.Xor.{bit_cases, xor_assoc, xor_shl, xor_swap}

-- ---- 64 bits as a register

pub reduced_linear : (x y : ℕ) → reduced (bit_xor x y) ≡ bit_xor (reduced x) (reduced y)
unfolding reduced
reduced_linear x y =
    ap₂ bit_xor (ap (shifts 32) (xor_shr x y 32) ∙ shifts_linear 32 (x / 2 ^ 32) (y / 2 ^ 32)) (xor_mod x y 32)
    ∙ xor_swap (shifts 32 (x / 2 ^ 32)) (shifts 32 (y / 2 ^ 32)) (x % 2 ^ 32) (y % 2 ^ 32)

pub reduced_low : (x : ℕ) → x < 2 ^ 32 → reduced x ≡ x
unfolding reduced
reduced_low x h = ap₂ bit_xor (ap (shifts 32) (div-eq_of_lt h) ∙ shifts_zero 32) (mod-eq_of_lt h) ∙ xor_zero_l x

pub reduced_high : (x : ℕ) → reduced (x * 2 ^ 32) ≡ shifts 32 x
unfolding reduced
reduced_high x = ap₂ bit_xor (ap (shifts 32) (shl-shr x 32)) (mul-mod_left x (2 ^ 32)) ∙ xor_zero_r (shifts 32 x)

shifts_swap : (m n s : ℕ) → shifts m (shifts n s) ≡ shifts n (shifts m s)
shifts_swap m n s = sym (shifts_add n m s) ∙ ap (λ (k : ℕ). shifts k s) (add_comm n m) ∙ shifts_add m n s

one_out : shifts 32 1 ≡ 1 * poly
unfolding shifts shift poly
one_out = refl

-- the bit that falls out of a register is the lowest of those above it
low_twice : (x : ℕ) → x < 2 ^ 32 → reduced (x * 2) ≡ shift x
unfolding reduced shift
low_twice x h =
    ap (λ (b : ℕ). bit_xor (shifts 32 b) (x * 2 % 2 ^ 32)) out
    ∙ ap (λ (y : ℕ). bit_xor y (x * 2 % 2 ^ 32)) (top (x / 2 ^ 31 % 2) (mod-lt (x / 2 ^ 31) (lit< tt)))
    ∙ xor_comm (x / 2 ^ 31 % 2 * poly) (x * 2 % 2 ^ 32)
  where
    out : x * 2 / 2 ^ 32 ≡ x / 2 ^ 31 % 2
    out = omega arith

    top : (b : ℕ) → b < 2 → shifts 32 b ≡ b * poly
    top = bit_cases (λ (b : ℕ). shifts 32 b ≡ b * poly) (shifts_zero 32) one_out

reduced_twice : (x : ℕ) → x < 2 ^ 63 → reduced (x * 2) ≡ shift (reduced x)
unfolding reduced shifts
reduced_twice x h =
    ap (λ (y : ℕ). reduced (y * 2)) (sym (xor_shifted hi 32 lo small ∙ split x 32))
    ∙ ap reduced (xor_shl (hi * 2 ^ 32) lo 1) ∙ reduced_linear (hi * 2 ^ 32 * 2) (lo * 2)
    ∙ ap₂ bit_xor (ap reduced swap ∙ reduced_high (hi * 2) ∙ ap (shifts 32) (sym (shift_low hi (shr_lt 31 32 h))) ∙ shifts_swap 32 1 hi) (low_twice lo small)
    ∙ sym (shift_linear (shifts 32 hi) lo)
  where
    hi : ℕ
    hi = x / 2 ^ 32

    lo : ℕ
    lo = x % 2 ^ 32

    small : lo < 2 ^ 32
    small = mod-lt x (lit< tt)

    swap : hi * 2 ^ 32 * 2 ≡ hi * 2 * 2 ^ 32
    swap = omega arith

-- a number moved up is a register shifted, while it fits
reduced_up : (j n x : ℕ) → j + n ≤ 64 → x < 2 ^ j → reduced (x * 2 ^ n) ≡ shifts n (reduced x)
unfolding shifts
reduced_up j zero x e h = ap reduced (mul-one x)
reduced_up j (suc n) x e h =
    ap reduced (ap (λ (y : ℕ). x * y) (pow-succ' 2 n) ∙ sym (mul_assoc x 2 (2 ^ n)))
    ∙ reduced_up (j + 1) n (x * 2) (omega arith) (shl_lt j 1 h)
    ∙ ap (shifts n) (reduced_twice x (lt_of_lt_of_le h (pow-le-pow_right (lit< tt) {i = j} {j = 63} (omega arith))))

-- ---- n shifts on

pub one_ahead : {n v e : ℕ} → v % 2 ≡ 1 → Ahead n 1 1 e → Ahead n 1 v e
one_ahead {n} z a = record { bits = a.bits; same = a.same ∙ ap (shifts n) (sym z) }

pub zero_ahead : {n k v : ℕ} → v % 2 ^ k ≡ 0 → Ahead n k v 0
zero_ahead {n} {k} {v} z = record { bits = pow_pos (32 + k); same = reduced_low 0 (lit< tt) ∙ sym (ap (shifts n) z ∙ shifts_zero n) }

-- w bits more, those of x from place j on
pub more_ahead : {n k r e : ℕ} (w j x : ℕ) → k + w ≤ 32 → Ahead n k (x / 2 ^ (j + w)) r → Ahead n w (x / 2 ^ j) e
    → Ahead n (k + w) (x / 2 ^ j) (bit_xor (r * 2 ^ w % 2 ^ 64) e)
more_ahead {n} {k} {r} {e} w j x l a b = record {
  bits =
      xor_lt (32 + (k + w)) (r * 2 ^ w % 2 ^ 64) e
      (subst (λ (y : ℕ). y < 2 ^ (32 + (k + w))) (sym exact) (subst (λ (m : ℕ). r * 2 ^ w < 2 ^ m) (add_assoc 32 k w) (shl_lt (32 + k) w a.bits)))
      (lt_of_lt_of_le b.bits (pow-le-pow_right (lit< tt) {i = 32 + w} {j = 32 + (k + w)} (omega arith)));
  same =
      reduced_linear (r * 2 ^ w % 2 ^ 64) e
      ∙ ap₂ bit_xor (ap reduced exact ∙ reduced_up (32 + k) w r (omega arith) a.bits ∙ ap (shifts w) (a.same ∙ ap (λ (y : ℕ). shifts n (y % 2 ^ k)) (sym (shr-shr x j w)))
      ∙ shifts_swap w n q ∙ ap (shifts n) (shifts_low k w q l (mod-lt (v / 2 ^ w) (pow_pos k)))) b.same
      ∙ sym (shifts_linear n (q * 2 ^ w) (v % 2 ^ w)) ∙ ap (shifts n) (xor_shifted q w (v % 2 ^ w) (mod-lt v (pow_pos w)) ∙ sym (mod-pow-add v k w));
}
  where
    v : ℕ
    v = x / 2 ^ j

    q : ℕ
    q = v / 2 ^ w % 2 ^ k

    exact : r * 2 ^ w % 2 ^ 64 ≡ r * 2 ^ w
    exact = shl_exact (32 + k) w 64 a.bits (omega arith)

-- the halves of 64 bits go on as one
pub halves_ahead : (n r : ℕ) {a b : ℕ} → r < 2 ^ 64 → Ahead (n + 32) 32 (r / 2 ^ 32) a → Ahead n 32 r b → reduced (bit_xor a b) ≡ shifts n (reduced r)
unfolding reduced
halves_ahead n r {a} {b} h ha hb =
    reduced_linear a b ∙ ap₂ bit_xor (ha.same ∙ ap (shifts (n + 32)) (shr_mod 32 32 h) ∙ shifts_add n 32 (r / 2 ^ 32) ∙ shifts_swap 32 n (r / 2 ^ 32)) hb.same
    ∙ sym (shifts_linear n (shifts 32 (r / 2 ^ 32)) (r % 2 ^ 32))

-- ---- eight bytes at once

-- 64 bits meet a register half by half
halves_meet : (s w : ℕ) → bit_xor (shifts 32 (bit_xor s (w / 2 ^ 32))) (w % 2 ^ 32) ≡ bit_xor (shifts 32 s) (reduced w)
unfolding reduced
halves_meet s w = ap (λ (x : ℕ). bit_xor x (w % 2 ^ 32)) (shifts_linear 32 s (w / 2 ^ 32)) ∙ xor_assoc (shifts 32 s) (shifts 32 (w / 2 ^ 32)) (w % 2 ^ 32)

long_in : (s w : ℕ) → w < 2 ^ 64 → register_from s (bits_of 64 w) ≡ shifts 32 (bit_xor (shifts 32 s) (reduced w))
long_in s w h =
    ap (register_from s) (bits_of_split 32 32 w) ∙ register_from_append s (bits_of 32 (w / 2 ^ 32)) (bits_of 32 w)
    ∙ half (register_from s (bits_of 32 (w / 2 ^ 32))) w
    ∙ ap (λ (x : ℕ). shifts 32 (bit_xor x (w % 2 ^ 32))) (half s (w / 2 ^ 32) ∙ ap (λ (x : ℕ). shifts 32 (bit_xor s x)) (shr_mod 32 32 h))
    ∙ ap (shifts 32) (halves_meet s w)
  where
    half : (t v : ℕ) → register_from t (bits_of 32 v) ≡ shifts 32 (bit_xor t (v % 2 ^ 32))
    half t v = field_in 32 0 refl t v ∙ ap (λ (x : ℕ). shifts 32 (bit_xor t x)) (mul-one (v % 2 ^ 32))

-- the first sixteen bytes: the register meets the highest bits of the first eight
pub held_first : (s v w : ℕ) → v < 2 ^ 64 → w < 2 ^ 64 → held (bit_xor v (s * 2 ^ 32)) w ≡ register_from (register_from s (bits_of 64 v)) (bits_of 64 w)
unfolding held
held_first s v w hv hw =
    sym (long_in (register_from s (bits_of 64 v)) w hw
    ∙ ap (λ (x : ℕ). shifts 32 (bit_xor x (reduced w))) (ap (shifts 32) (long_in s v hv) ∙ sym (shifts_add 32 32 (bit_xor (shifts 32 s) (reduced v)))
    ∙ ap (shifts 64) (ap (λ (x : ℕ). bit_xor x (reduced v)) (sym (reduced_high s)) ∙ xor_comm (reduced (s * 2 ^ 32)) (reduced v) ∙ sym (reduced_linear v (s * 2 ^ 32)))))

-- eight bytes more: the first eight of the sixteen before go 128 shifts on, over the other eight to where the new ones stand
pub held_turn : (r s w e : ℕ) → w < 2 ^ 64 → reduced e ≡ shifts 128 (reduced r) → held s (bit_xor e w) ≡ register_from (held r s) (bits_of 64 w)
unfolding held
held_turn r s w e hw on =
    ap (shifts 32) (ap (bit_xor S) (reduced_linear e w ∙ ap (λ (x : ℕ). bit_xor x (reduced w)) on)
    ∙ sym (xor_assoc S R (reduced w)) ∙ ap (λ (x : ℕ). bit_xor x (reduced w)) (xor_comm S R ∙ kept))
    ∙ sym (long_in (held r s) w hw)
  where
    R : ℕ
    R = shifts 128 (reduced r)

    S : ℕ
    S = shifts 64 (reduced s)

    kept : bit_xor R S ≡ shifts 32 (held r s)
    kept =
        ap (λ (x : ℕ). bit_xor x S) (shifts_add 64 64 (reduced r)) ∙ sym (shifts_linear 64 (shifts 64 (reduced r)) (reduced s))
        ∙ shifts_add 32 32 (bit_xor (shifts 64 (reduced r)) (reduced s))

-- the register of the sixteen bytes: each eight go as far on as they stand from the end
pub held_left : (r s a b : ℕ) → reduced a ≡ shifts 96 (reduced r) → reduced b ≡ shifts 32 (reduced s) → reduced (bit_xor a b) ≡ held r s
unfolding held
held_left r s a b ha hb =
    reduced_linear a b ∙ ap₂ bit_xor (ha ∙ shifts_add 64 32 (reduced r)) hb ∙ sym (shifts_linear 32 (shifts 64 (reduced r)) (reduced s))
