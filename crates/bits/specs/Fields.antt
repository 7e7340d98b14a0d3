-- Packed fields, highest bit first. A bit is 0 or 1; a byte is a field of 8 bits.
use Rattle.std.specs.Prelude.{ℕ, zero, suc, ◌+◌, ◌*◌, ◌/◌, ◌%◌, ◌^◌, ◌<◌, List, [], ◌∷◌, ◌++◌, length, take, drop}

-- the w low bits of v, the highest of them first
unfoldable pub bits_of : ℕ → ℕ → List ℕ
bits_of zero v = []
bits_of (suc w) v = v / 2 ^ w % 2 ∷ bits_of w v

-- the number that bits make, the first of them the highest
unfoldable pub number : List ℕ → ℕ
number [] = 0
number (b ∷ bs) = b * 2 ^ length bs + number bs

-- a run of values of w bits each, as bits
unfoldable pub run : ℕ → List ℕ → List ℕ
run w [] = []
run w (v ∷ vs) = bits_of w v ++ run w vs

-- the first n values of w bits each, cut from bits
unfoldable pub cut : ℕ → ℕ → List ℕ → List ℕ
cut w zero bs = []
cut w (suc n) bs = number (take w bs) ∷ cut w n (drop w bs)

-- each value fits in w bits. `Fit 1` is of bits, `Fit 8` of bytes
pub data Fit (w : ℕ) : List ℕ → Type 0 where
  none : Fit w []
  more : {v : ℕ} {vs : List ℕ} → v < 2 ^ w → Fit w vs → Fit w (v ∷ vs)
