-- Laws of xor that speak of no CRC: it is a group whose every element is its own inverse, and shifts to the left pass through it.
-- Assumes nothing.
use Prim.Native.Nat.{ℕ, zero, suc, ◌+◌, ◌*◌, ◌/◌, ◌%◌, ◌^◌, ◌<◌}
use mathlib.Core.Path.{◌≡◌, refl, sym, ap, ap₂, ◌∙◌}
use native.Mathlib.Omega.{arith}
use native.Mathlib.Nat.{add-zero, zero-mul, one-mul, mod-lt}
use lib.Arith.{bin_ind}
use lib.Dec.{lit<}
use lib.Bits.{bit_xor, xor_block, xor_comm, xor_mod, xor_self, xor_shr, xor_zero_r}
use lib.Pow.{pow_pos, split}

pub bit_cases : (P : ℕ → Type 0) → P 0 → P 1 → (b : ℕ) → b < 2 → P b
bit_cases P p q zero h = p
bit_cases P p q (suc zero) h = q
bit_cases P p q (suc (suc b)) h = absurd (omega arith)

assoc_bits : (x y z : ℕ) → x < 2 → y < 2 → z < 2 → bit_xor (bit_xor x y) z ≡ bit_xor x (bit_xor y z)
assoc_bits x y z hx hy hz =
    bit_cases (λ (a : ℕ). bit_xor (bit_xor a y) z ≡ bit_xor a (bit_xor y z)) refl
    (bit_cases (λ (b : ℕ). bit_xor (bit_xor 1 b) z ≡ bit_xor 1 (bit_xor b z)) refl
    (bit_cases (λ (c : ℕ). bit_xor (bit_xor 1 1) c ≡ bit_xor 1 (bit_xor 1 c)) refl refl z hz) y hy) x hx

half : (a b : ℕ) → bit_xor a b / 2 ≡ bit_xor (a / 2) (b / 2)
half a b = xor_shr a b 1

odd : (a b : ℕ) → bit_xor a b % 2 ≡ bit_xor (a % 2) (b % 2)
odd a b = xor_mod a b 1

pub xor_assoc : (a b c : ℕ) → bit_xor (bit_xor a b) c ≡ bit_xor a (bit_xor b c)
xor_assoc a =
    bin_ind (λ (n : ℕ). (b c : ℕ) → bit_xor (bit_xor n b) c ≡ bit_xor n (bit_xor b c)) (λ b c. refl)
    (λ n ih b c. sym (split (bit_xor (bit_xor n b) c) 1)
    ∙ ap₂ (λ (x y : ℕ). x * 2 + y)
    (half (bit_xor n b) c ∙ ap (λ (x : ℕ). bit_xor x (c / 2)) (half n b) ∙ ih (b / 2) (c / 2) ∙ sym (half n (bit_xor b c) ∙ ap (bit_xor (n / 2)) (half b c)))
    (odd (bit_xor n b) c ∙ ap (λ (x : ℕ). bit_xor x (c % 2)) (odd n b)
    ∙ assoc_bits (n % 2) (b % 2) (c % 2) (mod-lt n (lit< tt)) (mod-lt b (lit< tt)) (mod-lt c (lit< tt))
    ∙ sym (odd n (bit_xor b c) ∙ ap (bit_xor (n % 2)) (odd b c)))
    ∙ split (bit_xor n (bit_xor b c)) 1) a

pub xor_cancel : (a b : ℕ) → bit_xor a (bit_xor a b) ≡ b
xor_cancel a b = sym (xor_assoc a a b) ∙ ap (λ (x : ℕ). bit_xor x b) (xor_self a)

pub xor_injective : (a : ℕ) {b c : ℕ} → bit_xor a b ≡ bit_xor a c → b ≡ c
xor_injective a {b} {c} e = sym (xor_cancel a b) ∙ ap (bit_xor a) e ∙ xor_cancel a c

-- the two inner of four change places
pub xor_swap : (a b c d : ℕ) → bit_xor (bit_xor a b) (bit_xor c d) ≡ bit_xor (bit_xor a c) (bit_xor b d)
xor_swap a b c d =
    xor_assoc a b (bit_xor c d)
    ∙ ap (bit_xor a) (sym (xor_assoc b c d) ∙ ap (λ (x : ℕ). bit_xor x d) (xor_comm b c) ∙ xor_assoc c b d)
    ∙ sym (xor_assoc a c (bit_xor b d))

pub xor_shl : (a b k : ℕ) → bit_xor a b * 2 ^ k ≡ bit_xor (a * 2 ^ k) (b * 2 ^ k)
xor_shl a b k =
    sym (add-zero (bit_xor a b * 2 ^ k)) ∙ sym (xor_block k a b 0 0 (pow_pos k) (pow_pos k))
    ∙ ap₂ bit_xor (add-zero (a * 2 ^ k)) (add-zero (b * 2 ^ k))

-- a bit times p is p or nothing
pub xor_times : (p a b : ℕ) → a < 2 → b < 2 → bit_xor a b * p ≡ bit_xor (a * p) (b * p)
xor_times p a b ha hb =
    bit_cases (λ (x : ℕ). bit_xor x b * p ≡ bit_xor (x * p) (b * p)) (rw zero-mul)
    (bit_cases (λ (y : ℕ). bit_xor 1 y * p ≡ bit_xor (1 * p) (y * p))
    (rw (zero-mul, one-mul) (sym (xor_zero_r p)))
    (zero-mul p ∙ sym (xor_self (1 * p))) b hb) a ha
