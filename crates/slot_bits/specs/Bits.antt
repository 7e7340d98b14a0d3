-- Slots as bits of one number.
use Rattle.std.specs.Prelude.{ℕ, ◌+◌, ◌*◌, ◌/◌, ◌^◌, Bool, false, cond, List, [], ◌∷◌}

-- marks as bits of one number, the first mark as the lowest bit
unfoldable pub as_bits : List Bool → ℕ
as_bits [] = 0
as_bits (b ∷ bs) = cond b 1 0 + 2 * as_bits bs

-- the marks of slots 1, 2 and so on as one number: slot i in bit i. `false` stands for slot 0, the header
unfoldable pub slots_as_bits : List Bool → ℕ
slots_as_bits marks = as_bits (false ∷ marks)

-- ---- how the code computes it

-- numbers added up
unfoldable pub total : List ℕ → ℕ
total [] = 0
total (n ∷ ns) = n + total ns

-- numbers added up; those at places 0 to 7 count in byte 0, the next eight in byte 1, and so on. k is the place of the first
unfoldable pub in_bytes : ℕ → List ℕ → ℕ
in_bytes k [] = 0
in_bytes k (n ∷ ns) = n * 2 ^ (8 * (k / 8)) + in_bytes (k + 1) ns
