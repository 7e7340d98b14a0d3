-- Fields of a few bits as whole bytes: what byte-wise code needs of the bit-wise definition. Assumes nothing.
use Prim.Native.Nat.{ℕ, ◌+◌, ◌*◌, ◌/◌, ◌%◌, ◌^◌}
use mathlib.Core.Path.{◌≡◌, sym, ap, ap₂, ◌∙◌}
use mathlib.Core.List.{List, ◌++◌, append_assoc}
use native.Mathlib.Nat.{mod-lt, zero-add}
use lib.Pow.{pow_pos}
use Rattle.bits.specs.Fields.{bits_of}
use Rattle.bits.proofs.Laws.{bits_of_split, bits_of_join, bits_of_mod}

-- numbers that agree in their lowest byte are the same byte
pub byte : (a b : ℕ) → a % 256 ≡ b % 256 → bits_of 8 a ≡ bits_of 8 b
byte a b e = sym (bits_of_mod 8 0 a) ∙ ap (bits_of 8) e ∙ bits_of_mod 8 0 b

-- sixteen bits are two bytes
pub two_bytes : (x a b : ℕ) → a % 256 ≡ x / 256 % 256 → b % 256 ≡ x % 256 → bits_of 16 x ≡ bits_of 8 a ++ bits_of 8 b
two_bytes x a b p q =
    bits_of_split 8 8 x ∙ ap₂ (λ (l r : List ℕ). l ++ r) (sym (byte a (x / 256) p)) (sym (byte b x q))

-- two fields side by side are one field, in which the second shows its low bits
pub beside : (v w hi lo : ℕ) → bits_of v hi ++ bits_of w lo ≡ bits_of (v + w) (hi * 2 ^ w + lo % 2 ^ w)
beside v w hi lo =
    ap (λ (l : List ℕ). bits_of v hi ++ l) (sym (bits_of_mod w 0 lo) ∙ ap (λ (n : ℕ). bits_of w (lo % 2 ^ n)) (zero-add w))
    ∙ bits_of_join v w hi (mod-lt lo (pow_pos w))

-- two fields before others
pub joined : (v w hi lo : ℕ) {rest rest' : List ℕ} → rest ≡ rest'
    → bits_of v hi ++ (bits_of w lo ++ rest) ≡ bits_of (v + w) (hi * 2 ^ w + lo % 2 ^ w) ++ rest'
joined v w hi lo {rest} e =
    sym (append_assoc (bits_of v hi) (bits_of w lo) rest) ∙ ap₂ (λ (l r : List ℕ). l ++ r) (beside v w hi lo) e

-- two bytes before others
pub split : (x a b : ℕ) → a % 256 ≡ x / 256 % 256 → b % 256 ≡ x % 256 → (rest : List ℕ)
    → bits_of 16 x ++ rest ≡ bits_of 8 a ++ (bits_of 8 b ++ rest)
split x a b p q rest =
    ap (λ (l : List ℕ). l ++ rest) (two_bytes x a b p q) ∙ append_assoc (bits_of 8 a) (bits_of 8 b) rest
