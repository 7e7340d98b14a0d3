-- Text as bytes: numbers in decimal and in hexadecimal, fields, and text put into a buffer.
use Rattle.std.specs.Prelude.{ℕ, zero, suc, ◌+◌, ◌/◌, ◌%◌, ◌≡◌, cond, List, [], ◌∷◌, ◌++◌, ltb, length, take, drop}
use Rattle.io.specs.Digits.{last_digits}

abbrev pub space : ℕ
space = 32

abbrev pub line_feed : ℕ
line_feed = 10

-- the digits of n without leading zeros, if it has no more than `most` digits
unfoldable pub digits_within : ℕ → ℕ → List ℕ
digits_within zero n = []
digits_within (suc most) n = cond (ltb n 10) [] (digits_within most (n / 10)) ++ ((48 + n % 10) ∷ [])

-- n in decimal. A number of 64 bits has at most twenty digits
unfoldable pub decimal : ℕ → List ℕ
decimal n = digits_within 20 n

-- n in hexadecimal: eight digits, the highest first, `a` to `f` in lower case
unfoldable pub hexadecimal : ℕ → List ℕ
hexadecimal n = last_digits 16 8 n

-- a field and the byte behind it
unfoldable pub field : List ℕ → ℕ → List ℕ
field text end = text ++ (end ∷ [])

-- a text was put into a buffer at a place: every other byte stays, and `next` is the place behind the text
pub record Puts (buffer : List ℕ) (at : ℕ) (text : List ℕ) (after : List ℕ) (next : ℕ) : Type 0 where
  pub is : after ≡ take at buffer ++ (text ++ drop (at + length text) buffer)
  pub behind : next ≡ at + length text
