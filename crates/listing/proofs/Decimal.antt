-- The fewest digits that hold a number are its text in decimal. Assumes nothing.
use Prim.Native.Nat.{ℕ, zero, suc, ◌+◌, ◌-◌, ◌/◌, ◌%◌, ◌^◌, ◌≤◌, ◌<◌}
use mathlib.Core.Path.{◌≡◌}
use native.Mathlib.Omega.{arith}
use native.Mathlib.Decide.{dec_le}
use native.Mathlib.Nat.{pow-suc, pow-le-pow_right, le-div_iff_mul-le, div-lt_iff_lt-mul}
use borrow.Author.Tests.{lt-ltb, le-ltb}
use Rattle.io.specs.Digits.{last_digits, hex_digit_ascii, IsDigitCount}
use Rattle.listing.specs.Text.{digits_within, decimal}

-- a number of 64 bits has at most twenty digits
pub at_most_twenty : (k n : ℕ) → n < 2 ^ 64 → IsDigitCount 10 1 n k → k ≤ 20
at_most_twenty k n h f = few (dec_le k 20)
  where
    few : Dec (k ≤ 20) → k ≤ 20
    few (yes l) = l
    few (no g) =
        let high : 10 ^ 20 ≤ 10 ^ (k - 1) = pow-le-pow_right {n = 10} (omega arith) {i = 20} {j = k - 1} (omega arith) in
        let low : 10 ^ (k - 1) ≤ n = f.2 (omega arith) in
        absurd (omega arith)

-- a digit of base ten
glyph_ten : (n : ℕ) → hex_digit_ascii (n % 10) ≡ 48 + n % 10
glyph_ten n = simp (lt-ltb (n % 10) 10 (omega arith))

-- a number of several digits
at_least : (k n : ℕ) → IsDigitCount 10 1 n (suc (suc k)) → 10 ^ suc k ≤ n
at_least k n f =
    let less : suc (suc k) - 1 ≡ suc k = omega arith in
    rw less at (f.2 (omega arith))

-- without its last digit a number has one digit less
fewer : (k n : ℕ) → IsDigitCount 10 1 n (suc (suc k)) → IsDigitCount 10 1 (n / 10) (suc k)
fewer k n f =
    let low : 10 ^ suc k ≤ n = at_least k n f in
    let less : suc k - 1 ≡ k = omega arith in (
      omega arith,
      (div-lt_iff_lt-mul {k = 10} {x = n} {y = 10 ^ suc k} (omega arith)).1 (rw pow-suc at f.1),
      λ _. rw less ((le-div_iff_mul-le {k = 10} {x = 10 ^ k} {y = n} (omega arith)).1 (rw pow-suc at low)),
    )

within : (most k n : ℕ) → k < most → IsDigitCount 10 1 n (suc k) → last_digits 10 (suc k) n ≡ digits_within most n
unfolding digits_within
within zero k n h f = absurd (omega arith)
within (suc most) zero n h f = let small : n < 10 ^ 1 = f.1 in rw (lt-ltb n 10 small, glyph_ten n)
within (suc most) (suc k) n h f =
    let high : 10 ^ 1 ≤ 10 ^ suc k = pow-le-pow_right {n = 10} (omega arith) {i = 1} {j = suc k} (omega arith) in
    let low : 10 ^ suc k ≤ n = at_least k n f in
    let large : 10 ≤ n = omega arith in
    rw (le-ltb n 10 large, glyph_ten n, within most k (n / 10) (omega arith) (fewer k n f))

pub is_decimal : (k n : ℕ) → k ≤ 20 → IsDigitCount 10 1 n k → last_digits 10 k n ≡ decimal n
unfolding decimal
is_decimal zero n h f = absurd (omega arith)
is_decimal (suc k) n h f = within 20 k n (omega arith) f
