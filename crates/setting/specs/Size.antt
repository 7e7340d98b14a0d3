-- The size of a header and of its frame, one for each kind.
use Rattle.std.specs.Prelude.{ℕ, zero, suc, List, [], ◌∷◌}
use Rattle.counters.specs.Counters.{last_slot, last_short_slot, last_stream, last_short_stream}
use Rattle.setting.specs.declared.Kind.{Kind}
use Rattle.setting.specs.declared.Size.{Size}

-- how many slots carry packets, how many streams the header knows, the bits of a slot's number, and the bytes of private data
unfoldable pub size_of : Kind → Size
size_of Kind.Plain = record { slots = last_slot; streams = last_stream; number_bits = 4; private_bytes = 85 }
size_of Kind.Extended = record { slots = last_slot; streams = last_stream; number_bits = 4; private_bytes = 0 }
size_of Kind.Short = record { slots = last_short_slot; streams = last_short_stream; number_bits = 3; private_bytes = 131 }

abbrev pub slots_of : Kind → ℕ
slots_of kind = (size_of kind).slots

abbrev pub streams_of : Kind → ℕ
streams_of kind = (size_of kind).streams

-- n values: those of the list, and zeros if it has fewer. A setting's arrays are as long as the largest size needs
unfoldable pub resized : ℕ → List ℕ → List ℕ
resized zero vs = []
resized (suc n) [] = 0 ∷ resized n []
resized (suc n) (v ∷ vs) = v ∷ resized n vs
