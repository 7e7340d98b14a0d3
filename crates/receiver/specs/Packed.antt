-- The slots' relative numbers as a header has them: four bits each, the first slot's in the high half of the first byte.
use Rattle.std.specs.Prelude.{ℕ, ◌*◌, ◌/◌, List}
use Rattle.bits.specs.Fields.{run, cut}
use Rattle.counters.specs.Counters.{last_slot}

-- how many bytes the numbers of slots 1 to 52 take
abbrev pub packed_length : ℕ
packed_length = last_slot * 4 / 8

-- the numbers in bytes
unfoldable pub packed : List ℕ → List ℕ
packed numbers = cut 8 packed_length (run 4 numbers)

-- the numbers that bytes hold
unfoldable pub unpacked : List ℕ → List ℕ
unpacked bytes = cut 4 last_slot (run 8 bytes)
