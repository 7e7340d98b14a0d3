-- What the functions promise each other that enter eight bytes at once into a register.
use Rattle.std.specs.Prelude.{ℕ, ◌+◌, ◌/◌, ◌%◌, ◌^◌, ◌≤◌, ◌<◌, ◌≡◌}
use Rattle.std.specs.Int.Bits.{bit_xor}
use Rattle.crc.specs.Crc.{shifts}

-- 64 bits as a register of 32: the high half goes 32 shifts on and is added to the low half
unfoldable pub reduced : ℕ → ℕ
reduced x = bit_xor (shifts 32 (x / 2 ^ 32)) (x % 2 ^ 32)

-- e is the lowest k bits of v after n shifts, before the bits above the low 32 are taken back into the register
pub record Ahead (n k v e : ℕ) : Type 0 where
  pub bits : e < 2 ^ (32 + k)
  pub same : reduced e ≡ shifts n (v % 2 ^ k)

-- n is one of the distances, 32, 64, 96, 128 and 160 shifts, for which there is a table
abbrev pub Tabled : ℕ → Type 0
Tabled n = (32 ≤ n) × (n ≤ 160) × (n % 32 ≡ 0)

-- the register that the bits of r and then of s leave, 64 each, from zero on
unfoldable pub held : ℕ → ℕ → ℕ
held r s = shifts 32 (bit_xor (shifts 64 (reduced r)) (reduced s))
