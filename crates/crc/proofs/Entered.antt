-- Laws of bits that go n shifts on one behind the other. Assumes nothing.
use Prim.Native.Nat.{ℕ, ◌+◌, ◌-◌, ◌*◌, ◌/◌, ◌%◌, ◌^◌, ◌≤◌, ◌<◌}
use mathlib.Core.Path.{◌≡◌, refl, sym, ap, ap₂, ◌∙◌, subst}
use native.Mathlib.Omega.{arith}
use native.Mathlib.Nat.{add_assoc, div-eq_of_lt, div-one, lt_of_lt_of_le, mod-lt, mod-one, mul_assoc, pow-le-pow_right, sub_self}
use lib.Bits.{bit_xor, xor_shr, xor_zero_l, xor_zero_r}
use lib.Dec.{lit<, lit≤}
use lib.Pow.{field, pow-add, shl-shr, shr-shr}
use Rattle.crc.specs.Words.{Ahead}
use Rattle.crc.proofs.Reduced.{more_ahead, one_ahead, zero_ahead}

-- ---- the lowest w bits of x, the highest of them first

-- the first i have gone on, to r
pub record Gone (n w x i r : ℕ) : Type 0 where
  pub within : i ≤ w
  pub gone : Ahead n i (x / 2 ^ (w - i)) r

pub none_gone : {n : ℕ} (w x : ℕ) → Gone n w x 0 0
none_gone w x = record { within = omega arith; gone = zero_ahead (mod-one (x / 2 ^ (w - 0))) }

pub more_gone : {n w x i r e y : ℕ} (b : ℕ) → w ≤ 32 → i + b ≤ w → Gone n w x i r → Ahead n b (x / 2 ^ (w - (i + b))) e → y ≡ bit_xor (r * 2 ^ b % 2 ^ 64) e
    → Gone n w x (i + b) y
more_gone {n} {w} {x} {i} {r} b h l g a same = record {
  within = l;
  gone = subst (Ahead n (i + b) (x / 2 ^ (w - (i + b)))) (sym same) (more_ahead b (w - (i + b)) x (omega arith) (subst (λ (j : ℕ). Ahead n i (x / 2 ^ j) r) before g.gone) a);
}
  where
    before : w - i ≡ w - (i + b) + b
    before = omega arith

pub when_all_gone : {n w x i r : ℕ} → w ≤ i → Gone n w x i r → Ahead n w x r
when_all_gone {n} {w} {x} {i} {r} done g =
    subst (λ (v : ℕ). Ahead n w v r) (ap (λ (j : ℕ). x / 2 ^ j) (sub_self w) ∙ div-one x) (subst (λ (j : ℕ). Ahead n j (x / 2 ^ (w - j)) r) all g.gone)
  where
    all : i ≡ w
    all = omega arith

-- ---- a byte, bit by bit

-- the first i bits have gone on, to r; d has the others at its top
pub record Entered (n x i r d : ℕ) : Type 0 where
  pub bits : Gone n 8 x i r
  pub others : d ≡ x * 2 ^ (56 + i) % 2 ^ 64

pub none_entered : {n : ℕ} (x : ℕ) → Entered n x 0 0 (x * 2 ^ 56 % 2 ^ 64)
none_entered x = record { bits = none_gone 8 x; others = refl }

module _ {n x i r d : ℕ} (h : Entered n x i r d) (l : i < 8) where
  -- the bit at the top of d
  top : bit_xor r d / 2 ^ 63 ≡ x / 2 ^ (7 - i) % 2
  top =
      xor_shr r d 63 ∙ ap₂ bit_xor (div-eq_of_lt small) (ap (λ (y : ℕ). y / 2 ^ 63) h.others ∙ field (x * 2 ^ (56 + i)) 1 63)
      ∙ xor_zero_l (x * 2 ^ (56 + i) / 2 ^ 63 % 2)
      ∙ ap (λ (y : ℕ). y % 2) (ap (λ (m : ℕ). x * 2 ^ (56 + i) / 2 ^ m) place ∙ sym (shr-shr (x * 2 ^ (56 + i)) (56 + i) (7 - i)) ∙ ap (λ (y : ℕ). y / 2 ^ (7 - i)) (shl-shr x (56 + i)))
    where
      small : r < 2 ^ 63
      small = lt_of_lt_of_le h.bits.gone.bits (pow-le-pow_right (lit< tt) {i = 32 + i} {j = 63} (omega arith))

      place : 63 ≡ 56 + i + (7 - i)
      place = omega arith

  -- it enters
  enters : {e y : ℕ} → y ≡ bit_xor (r * 2 % 2 ^ 64) e → Ahead n 1 (x / 2 ^ (7 - i)) e → Entered n x (i + 1) y (d * 2 % 2 ^ 64)
  enters {e} {y} same a = record {
    bits = more_gone 1 (lit≤ tt) (omega arith) h.bits (subst (λ (j : ℕ). Ahead n 1 (x / 2 ^ j) e) next a) same;
    others =
        ap (λ (y : ℕ). y * 2 % 2 ^ 64) h.others ∙ twice (x * 2 ^ (56 + i))
        ∙ ap (λ (y : ℕ). y % 2 ^ 64) (mul_assoc x (2 ^ (56 + i)) 2 ∙ ap (λ (y : ℕ). x * y) (sym (pow-add 2 (56 + i) 1) ∙ ap (λ (m : ℕ). 2 ^ m) (add_assoc 56 i 1)));
  }
    where
      next : 7 - i ≡ 8 - (i + 1)
      next = omega arith

      twice : (m : ℕ) → m % 2 ^ 64 * 2 % 2 ^ 64 ≡ m * 2 % 2 ^ 64
      twice m = omega arith

  pub one_enters : {e y : ℕ} → Ahead n 1 1 e → bit_xor r d / 2 ^ 63 ≡ 1 → y ≡ bit_xor (r * 2 % 2 ^ 64) e → Entered n x (i + 1) y (d * 2 % 2 ^ 64)
  one_enters a b same = enters same (one_ahead (sym top ∙ b) a)

  pub zero_enters : {y : ℕ} → (bit_xor r d / 2 ^ 63 ≡ 1 → ⊥) → y ≡ r * 2 % 2 ^ 64 → Entered n x (i + 1) y (d * 2 % 2 ^ 64)
  zero_enters b same = enters (same ∙ sym (xor_zero_r (r * 2 % 2 ^ 64))) (zero_ahead low)
    where
      low : x / 2 ^ (7 - i) % 2 ≡ 0
      low = omega (arith, top, mod-lt (x / 2 ^ (7 - i)) {m = 2} (lit< tt))
