-- What a setting has to obey.
use Rattle.std.specs.Prelude.{ℕ, ◌+◌, ◌-◌, ◌%◌, ◌^◌, Bool, not, ◌&&◌, List, [], ◌∷◌, ◌++◌, leb, eqb, length, get_or, drop}
use Rattle.slices.specs.Slices.{any_below, some_at_least}
use Rattle.setting.specs.declared.Kind.{Kind}
use Rattle.setting.specs.declared.Size.{Size}
use Rattle.setting.specs.declared.Setting.{Setting}
use Rattle.counters.specs.Counters.{last_stream, first_position, last_carrier, within, available}
use Rattle.setting.specs.Size.{size_of, streams_of}
use Rattle.setting.specs.Refusal.{Check}

-- one thing for a plain or a short header, another for an extended one
abbrev pub by_kind : {A : Type 0} → Kind → A → A → A
by_kind Kind.Plain p e = p
by_kind Kind.Extended p e = e
by_kind Kind.Short p e = p

-- whether a header of the kind may have the frame type
abbrev pub type_allowed : Kind → ℕ → Bool
type_allowed Kind.Plain t = eqb t 1
type_allowed Kind.Extended t = within 1 2 t
type_allowed Kind.Short t = eqb t 3

-- whether a header PID may be used
abbrev pub pid_allowed : ℕ → Bool
pid_allowed pid = within 16 8190 pid

-- whether a list has more than zeros behind its first n values
abbrev pub some_behind : ℕ → List ℕ → Bool
some_behind n vs = some_at_least (2 ^ 0) (drop n vs)

-- 17: what the size does not reach is a field of no bits, and holds zeros alone. Here: streams behind the last one
abbrev pub behind_checks : ℕ → ℕ → List ℕ → List ℕ → List ℕ → List Check
behind_checks streams availability ts os statuses =
    (17, not (eqb (availability % 2 ^ (last_stream - streams)) 0))
    ∷ (17, some_behind streams ts)
    ∷ (17, some_behind streams os)
    ∷ (17, some_behind streams statuses)
    ∷ []

-- 17: a slot's number too large for its bits, and one behind the last slot
abbrev pub number_checks : Size → List ℕ → List Check
number_checks z numbers = (17, some_at_least (2 ^ z.number_bits) numbers) ∷ (17, some_behind z.slots numbers) ∷ []

-- 17: what only an extended header has
abbrev pub bonding_absent : Kind → List ℕ → ℕ → ℕ → ℕ → ℕ → ℕ → List Check
bonding_absent kind auxiliaries group carriers sequence frames position =
    by_kind kind
    ((17, some_at_least (2 ^ 0) auxiliaries)
    ∷ (17, leb (2 ^ 0) group)
    ∷ (17, leb (2 ^ 0) carriers)
    ∷ (17, leb (2 ^ 0) sequence)
    ∷ (17, leb (2 ^ 0) frames)
    ∷ (17, leb (2 ^ 0) position)
    ∷ [])
    []

-- 17: a part that the kind does not have: private data behind its last byte, and what only an extended header has
unfoldable pub absent_checks : Kind → List ℕ → List ℕ → ℕ → ℕ → ℕ → ℕ → ℕ → List Check
absent_checks kind privates auxiliaries group carriers sequence frames position =
    (17, some_behind (size_of kind).private_bytes privates) ∷ bonding_absent kind auxiliaries group carriers sequence frames position

-- those of a setting
abbrev pub absent_of : Kind → Setting → List Check
absent_of kind s =
    absent_checks kind s.private_data s.auxiliary s.group_id s.number_of_carriers s.carrier_sequence s.number_of_frames s.frame_position.0

-- 17: slot and control information too large for its bits, in a setting and in what a header announced
abbrev pub information_checks : ℕ → ℕ → ℕ → List ℕ → ℕ → List Check
information_checks slotType frameType availability statuses emergency =
    (17, leb (2 ^ 1) slotType)
    ∷ (17, leb (2 ^ 4) frameType)
    ∷ (17, leb (2 ^ last_stream) availability)
    ∷ (17, some_at_least (2 ^ 2) statuses)
    ∷ (17, leb (2 ^ 1) emergency)
    ∷ []

-- 17: a field too large for its bits
unfoldable pub width_checks : Kind → Setting → List Check
width_checks kind s =
    (17, leb (2 ^ 4) s.continuity_counter)
    ∷ (17, leb (2 ^ 3) s.version_number)
    ∷ (information_checks s.slot_allocation_type s.frame_type s.availability s.receive_status s.emergency_indicator
    ++ (behind_checks (streams_of kind) s.availability s.ts_id s.original_network_id s.receive_status
    ++ (number_checks (size_of kind) s.relative_ts_number ++ absent_of kind s)))

-- whether the slot's number is that of an unavailable stream
abbrev pub unavailable : ℕ → ℕ → Bool
unavailable availability n = not (eqb n 0) && not (available availability n)

-- whether some slot has the number of an unavailable stream
unfoldable pub some_unavailable : ℕ → List ℕ → Bool
some_unavailable availability numbers = any_below (length numbers) (λ i. unavailable availability (get_or numbers i 0))

-- whether streams i + 1 and j + 1 have equal identifier pairs and are both available
abbrev pub same_pair : ℕ → List ℕ → List ℕ → ℕ → ℕ → Bool
same_pair availability ts os i j =
    eqb (get_or ts i 0) (get_or ts j 0)
    && (eqb (get_or os i 0) (get_or os j 0) && (available availability (i + 1) && available availability (j + 1)))

-- whether two available streams have equal identifier pairs
unfoldable pub pair_twice : ℕ → List ℕ → List ℕ → Bool
pair_twice availability ts os = any_below (length ts) (λ j. any_below j (λ i. same_pair availability ts os i j))

-- 11: the bonding fields of an extended header
unfoldable pub bonding_checks : Kind → ℕ → ℕ → ℕ → ℕ → List Check
bonding_checks kind carriers sequence frames position =
    by_kind kind []
    ((11, not (within 1 last_carrier carriers))
    ∷ (11, not (within 1 carriers sequence))
    ∷ (11, not (within 3 4 frames))
    ∷ (11, not (within first_position frames position))
    ∷ [])

-- those of a setting
abbrev pub bonding_of : Kind → Setting → List Check
bonding_of kind s = bonding_checks kind s.number_of_carriers s.carrier_sequence s.number_of_frames s.frame_position.0

-- 8 to 11: what a header that is written or read has to obey
unfoldable pub rule_checks : Kind → Setting → List Check
rule_checks kind s =
    (8, not (type_allowed kind s.frame_type))
    ∷ (9, some_unavailable s.availability s.relative_ts_number)
    ∷ (10, pair_twice s.availability s.ts_id s.original_network_id)
    ∷ bonding_of kind s
