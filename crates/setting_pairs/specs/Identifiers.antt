-- The identifiers of the streams, read where they stand: in a setting one behind the other, in a header with those of the other kind between.
use Rattle.std.specs.Prelude.{ℕ, zero, suc, ◌+◌, ◌-◌, ◌*◌, Bool, List, [], ◌∷◌, leb, get_or, drop}
use Rattle.counters.specs.Counters.{last_stream}

-- the identifiers of n streams, two bytes each, the high one first, with `step` bytes from one to the next
unfoldable pub ids_apart : ℕ → ℕ → List ℕ → List ℕ
ids_apart step zero bytes = []
ids_apart step (suc n) bytes = (get_or bytes 0 0 * 256 + get_or bytes 1 0) ∷ ids_apart step n (drop step bytes)

-- how many bytes those of all fifteen streams take
abbrev pub ids_length : ℕ → ℕ
ids_length step = step * (last_stream - 1) + 2

-- whether so many bytes hold them
abbrev pub holds_ids : ℕ → ℕ → Bool
holds_ids step n = leb (ids_length step) n
