-- The header's layout: 01's table, row under row, over the size. The bytes that comments name are those of 52 slots and 15 streams.
use Rattle.std.specs.Prelude.{ℕ, suc, ◌+◌, ◌*◌, ◌/◌, cond, List, [], ◌∷◌, ◌++◌, map}
use Rattle.std.proofs.Math.Bool.{decide}
use Rattle.setting.specs.declared.Kind.{Kind}
use Rattle.setting.specs.declared.Size.{Size}
use Rattle.setting.specs.Size.{size_of}
use Rattle.setting.specs.Setting.{auxiliary_bytes}
use Rattle.header_layout.specs.Rows.{Row}

-- sync_byte
abbrev pub sync_byte : ℕ
sync_byte = 0x47

-- TSMF_sync
abbrev pub tsmf_sync : ℕ
tsmf_sync = 0x1A86

-- how many of an extended header's private bytes are reserved, at their end
abbrev pub reserved_bytes : ℕ
reserved_bytes = 53

-- how many bytes auxiliary information, bonding fields and reserved bytes are
abbrev pub extended_bytes : ℕ
extended_bytes = auxiliary_bytes + 4 + reserved_bytes

-- what a row can hold. `zeros` and `payload` are the packet header's bits 000 and 0001, `streams` is the availability of the streams
pub data Field : Type 0 where
  reserved : Field
  sync_byte_field zeros header-pid payload counter : Field
  tsmf_sync_field version slot_type frame_type_field streams : Field
  identifiers statuses emergency numbers : Field
  privates auxiliary group carriers sequence frames position : Field
  deriving Discrete as Field-discrete

-- a line of the table: what its row holds, and the row itself: the bits of a value, and how many values
abbrev pub Line : Type 0
Line = Field × Row

-- packet_header, TSMF_sync, version_number and the types of slot_information: bytes 0 to 6, the same for every size
unfoldable pub start_table : List Line
start_table =
    (sync_byte_field, (8, 1)) ∷ (zeros, (3, 1)) ∷ (header-pid, (13, 1)) ∷ (payload, (4, 1)) ∷ (counter, (4, 1))
    ∷ (reserved, (3, 1)) ∷ (tsmf_sync_field, (13, 1))
    ∷ (version, (3, 1)) ∷ (slot_type, (1, 1)) ∷ (frame_type_field, (4, 1)) ∷ []

-- the rest of slot_information, bytes 7 to 8: the availability of each stream, stream 1 in the highest bit
unfoldable pub stream_table : Size → List Line
stream_table z = (streams, (z.streams, 1)) ∷ (reserved, (1, 1)) ∷ []

-- identifiers_information, bytes 9 to 68: TS_id and original_network_id of each stream
unfoldable pub identifier_table : Size → List Line
identifier_table z = (identifiers, (16, 2 * z.streams)) ∷ []

-- control_information, bytes 69 to 72: receive_status of each stream; emergency_indicator is the last bit
unfoldable pub control_table : Size → List Line
control_table z = (statuses, (2, z.streams)) ∷ (reserved, (1, 1)) ∷ (emergency, (1, 1)) ∷ []

-- relative_TS_information, bytes 73 to 98: relative_TS_number of each slot
unfoldable pub number_table : Size → List Line
number_table z = (numbers, (z.number_bits, z.slots)) ∷ []

-- private_data, bytes 99 to 183, which in an extended header are auxiliary information and the bonding fields
unfoldable pub private_table : Kind → List Line
private_table Kind.Plain = (privates, (8, (size_of Kind.Plain).private_bytes)) ∷ []
private_table Kind.Short = (privates, (8, (size_of Kind.Short).private_bytes)) ∷ []
private_table Kind.Extended =
    (auxiliary, (8, auxiliary_bytes)) ∷ (group, (8, 1)) ∷ (carriers, (8, 1)) ∷ (sequence, (8, 1)) ∷ (frames, (4, 1)) ∷ (position, (4, 1))
    ∷ (reserved, (8, reserved_bytes)) ∷ []

-- the whole table of a size but for the CRC, which stands behind it in 32 bits
unfoldable pub table_of : Size → List Line → List Line
table_of z private = start_table ++ (stream_table z ++ (identifier_table z ++ (control_table z ++ (number_table z ++ private))))

unfoldable pub table : Kind → List Line
table kind = table_of (size_of kind) (private_table kind)

-- its rows, numbered from 0
abbrev pub rows_of : List Line → List Row
rows_of = map (λ (l : Line). l.1)

abbrev pub layout : Kind → List Row
layout kind = rows_of (table kind)

-- the number of the first row that holds the field
unfoldable pub row_with : Field → List Line → ℕ
row_with f [] = 0
row_with f (l ∷ ls) = cond (decide (Field-discrete f l.0)) 0 (suc (row_with f ls))

-- the numbers of the reserved rows, where the first line's row has the number k
unfoldable pub reserved_from : ℕ → List Line → List ℕ
reserved_from k [] = []
reserved_from k (l ∷ ls) = cond (decide (Field-discrete reserved l.0)) (k ∷ reserved_from (suc k) ls) (reserved_from (suc k) ls)

-- the numbers of all reserved rows
abbrev pub reserved_rows : Kind → List ℕ
reserved_rows kind = reserved_from 0 (table kind)

-- ---- the bytes at which the parts behind the start begin, each behind the part before it

abbrev pub streams_start : ℕ
streams_start = 7

abbrev pub identifiers_start : Size → ℕ
identifiers_start z = streams_start + (z.streams + 1) / 8

abbrev pub control_start : Size → ℕ
control_start z = identifiers_start z + 4 * z.streams

-- a status has two bits, and so have the two bits behind the statuses together
abbrev pub numbers_start : Size → ℕ
numbers_start z = control_start z + (z.streams + 1) / 4

abbrev pub private_start : Size → ℕ
private_start z = numbers_start z + z.slots * z.number_bits / 8
