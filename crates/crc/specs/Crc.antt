-- The CRC of H.222.0, bit by bit: register all ones at the start, highest bit first, nothing inverted at the end.
use Rattle.std.specs.Prelude.{ℕ, zero, suc, ◌+◌, ◌-◌, ◌*◌, ◌/◌, ◌%◌, ◌^◌, List, [], ◌∷◌}
use Rattle.std.specs.Int.Bits.{bit_xor}
use Rattle.bits.specs.Fields.{run}

-- x^32+x^26+x^23+x^22+x^16+x^12+x^11+x^10+x^8+x^7+x^5+x^4+x^2+x+1, its highest term being the one that falls out of the register
unfoldable pub poly : ℕ
poly =
    2 ^ 26 + 2 ^ 23 + 2 ^ 22 + 2 ^ 16 + 2 ^ 12 + 2 ^ 11 + 2 ^ 10 + 2 ^ 8 + 2 ^ 7 + 2 ^ 5 + 2 ^ 4 + 2 ^ 2 + 2 + 1

-- the register one place up; where a one falls out at the top, the polynomial is added
unfoldable pub shift : ℕ → ℕ
unfolding poly
shift s = bit_xor (s * 2 % 2 ^ 32) (s / 2 ^ 31 % 2 * poly)

-- the register after one bit, which is added at the top
unfoldable pub bit_in : ℕ → ℕ → ℕ
unfolding shift
bit_in s b = shift (bit_xor s (b * 2 ^ 31))

-- the register s after some bits
unfoldable pub register_from : ℕ → List ℕ → ℕ
unfolding bit_in
register_from s [] = s
register_from s (b ∷ bs) = register_from (bit_in s b) bs

-- the register that bytes leave
unfoldable pub register_of : List ℕ → ℕ
unfolding register_from
register_of bytes = register_from (2 ^ 32 - 1) (run 8 bytes)

-- the register n places up
unfoldable pub shifts : ℕ → ℕ → ℕ
unfolding shift
shifts zero s = s
shifts (suc n) s = shifts n (shift s)
