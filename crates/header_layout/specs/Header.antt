-- What stands in the rows of a header, the header made of them, and what a packet says when it is read as a header.
use Rattle.std.specs.Prelude.{ℕ, ◌-◌, ◌*◌, ◌/◌, ◌^◌, not, ◌&&◌, List, [], ◌∷◌, ◌++◌, map, eqb, get_or, drop, replicate}
use Rattle.bits.specs.Fields.{bits_of, run, cut}
use Rattle.crc.specs.Crc.{register_from, register_of}
use Rattle.slices.specs.Slices.{some_differ}
use Rattle.setting.specs.declared.Kind.{Kind}
use Rattle.setting.specs.declared.Size.{Size}
use Rattle.setting.specs.declared.Setting.{Setting}
use Rattle.setting.specs.Setting.{private_bytes, auxiliary_bytes}
use Rattle.setting.specs.Size.{size_of, resized}
use Rattle.counters.specs.Counters.{last_slot, last_stream}
use Rattle.setting.specs.Refusal.{Check}
use Rattle.setting.specs.Rules.{by_kind, pid_allowed}
use Rattle.header_layout.specs.Rows.{Row, pack, row_at}
use Rattle.header_layout.specs.Layout.{sync_byte, tsmf_sync, Field, Line, start_table, table, rows_of, layout, row_with, reserved_rows}

-- a header is 188 bytes
abbrev pub header_length : ℕ
header_length = 188

-- a row of one value
abbrev pub one : ℕ → List ℕ
one v = v ∷ []

-- the two identifiers of each stream, one stream behind the other; and out of these again the first of each stream, and the second
unfoldable pub paired : List ℕ → List ℕ → List ℕ
paired [] os = []
paired (t ∷ ts) [] = []
paired (t ∷ ts) (o ∷ os) = t ∷ o ∷ paired ts os

unfoldable pub firsts : List ℕ → List ℕ
firsts [] = []
firsts (t ∷ []) = []
firsts (t ∷ o ∷ ids) = t ∷ firsts ids

unfoldable pub seconds : List ℕ → List ℕ
seconds [] = []
seconds (t ∷ []) = []
seconds (t ∷ o ∷ ids) = o ∷ seconds ids

-- the values of a row whose bits are all ones
abbrev pub all_ones : Row → List ℕ
all_ones r = replicate r.1 (2 ^ r.0 - 1)

-- how many streams a setting has room for beyond those of a size. The availability's lowest bits are theirs
abbrev pub streams_beyond : Size → ℕ
streams_beyond z = last_stream - z.streams

-- what stands in a line's row of a setting's header of this size. Reserved bits are ones
unfoldable pub held : Size → ℕ → Setting → Line → List ℕ
held z pid s (Field.reserved, r) = all_ones r
held z pid s (Field.sync_byte_field, r) = one sync_byte
held z pid s (Field.zeros, r) = one 0
held z pid s (Field.header-pid, r) = one pid
held z pid s (Field.payload, r) = one 1
held z pid s (Field.counter, r) = one s.continuity_counter
held z pid s (Field.tsmf_sync_field, r) = one tsmf_sync
held z pid s (Field.version, r) = one s.version_number
held z pid s (Field.slot_type, r) = one s.slot_allocation_type
held z pid s (Field.frame_type_field, r) = one s.frame_type
held z pid s (Field.streams, r) = one (s.availability / 2 ^ streams_beyond z)
held z pid s (Field.identifiers, r) = paired (resized z.streams s.ts_id) (resized z.streams s.original_network_id)
held z pid s (Field.statuses, r) = resized z.streams s.receive_status
held z pid s (Field.emergency, r) = one s.emergency_indicator
held z pid s (Field.numbers, r) = resized z.slots s.relative_ts_number
held z pid s (Field.privates, r) = resized z.private_bytes s.private_data
held z pid s (Field.auxiliary, r) = s.auxiliary
held z pid s (Field.group, r) = one s.group_id
held z pid s (Field.carriers, r) = one s.number_of_carriers
held z pid s (Field.sequence, r) = one s.carrier_sequence
held z pid s (Field.frames, r) = one s.number_of_frames
held z pid s (Field.position, r) = one s.frame_position.0

-- the bits of some lines of the table, one row behind the other
unfoldable pub line_bits : Size → ℕ → Setting → List Line → List ℕ
line_bits z pid s lines = pack (rows_of lines) (map (held z pid s) lines)

-- what stands in each row
abbrev pub content : Kind → ℕ → Setting → List (List ℕ)
content kind pid s = map (held (size_of kind) pid s) (table kind)

-- the header's bits before the CRC
unfoldable pub body : Kind → ℕ → Setting → List ℕ
body kind pid s = line_bits (size_of kind) pid s (table kind)

-- the header's 188 bytes. The CRC is what the register holds after the bytes from byte 4 on
unfoldable pub header : Kind → ℕ → Setting → List ℕ
header kind pid s =
    cut 8 header_length (body kind pid s ++ bits_of 32 (register_from (2 ^ 32 - 1) (drop 32 (body kind pid s))))

-- a packet read as a header: the values in row k
abbrev pub row : Kind → List ℕ → ℕ → List ℕ
row kind p k = row_at (layout kind) k (run 8 p)

-- the values in the row that holds a field
abbrev pub values : Kind → List ℕ → Field → List ℕ
values kind p f = row kind p (row_with f (table kind))

-- the one value in the row that holds a field
abbrev pub value : Kind → List ℕ → Field → ℕ
value kind p f = get_or (values kind p f) 0 0

-- what a packet says, read as a header. What its kind does not have is zeros
unfoldable pub reading : Kind → List ℕ → Setting
reading kind p =
    record {
      continuity_counter = value kind p Field.counter;
      version_number = value kind p Field.version;
      slot_allocation_type = value kind p Field.slot_type;
      frame_type = value kind p Field.frame_type_field;
      availability = value kind p Field.streams * 2 ^ streams_beyond (size_of kind);
      ts_id = resized last_stream (firsts (values kind p Field.identifiers));
      original_network_id = resized last_stream (seconds (values kind p Field.identifiers));
      receive_status = resized last_stream (values kind p Field.statuses);
      emergency_indicator = value kind p Field.emergency;
      relative_ts_number = resized last_slot (values kind p Field.numbers);
      private_data = resized private_bytes (by_kind kind (values kind p Field.privates) []);
      auxiliary = by_kind kind (replicate auxiliary_bytes 0) (values kind p Field.auxiliary);
      group_id = by_kind kind 0 (value kind p Field.group);
      number_of_carriers = by_kind kind 0 (value kind p Field.carriers);
      carrier_sequence = by_kind kind 0 (value kind p Field.sequence);
      number_of_frames = by_kind kind 0 (value kind p Field.frames);
      frame_position = record { 0 = by_kind kind 0 (value kind p Field.position) };
    }

-- what every call checks of its PID and of its packet or buffer
abbrev pub call_checks : ℕ → ℕ → List Check
call_checks pid lent = (1, not (eqb lent header_length)) ∷ (2, not (pid_allowed pid)) ∷ []

-- the one value of a row that all kinds have in the same place
abbrev pub start_value : List ℕ → Field → ℕ
start_value p f = get_or (row_at (rows_of start_table) (row_with f start_table) (run 8 p)) 0 0

-- the remainder: what the packet's bytes 4 to 187 leave in the register, 0 where the CRC is right
abbrev pub remainder_of : List ℕ → ℕ
remainder_of p = register_of (drop 4 p)

-- 3 to 7: what the packet itself shows
unfoldable pub packet_checks : ℕ → List ℕ → List Check
packet_checks pid p =
    (3, not (eqb (start_value p Field.sync_byte_field) sync_byte))
    ∷ (4, not (eqb (start_value p Field.header-pid) pid))
    ∷ (5, not (eqb (start_value p Field.zeros) 0 && eqb (start_value p Field.payload) 1))
    ∷ (6, not (eqb (start_value p Field.tsmf_sync_field) tsmf_sync))
    ∷ (7, not (eqb (remainder_of p) 0))
    ∷ []

-- 20, of row k: whether one of its bits is 0
abbrev pub zero_check : Kind → List ℕ → ℕ → Check
zero_check kind p k = (20, some_differ (row kind p k) (all_ones (get_or (layout kind) k (0, 0))))

-- 20, of each reserved row
unfoldable pub reserved_checks : Kind → List ℕ → List Check
reserved_checks kind p = map (zero_check kind p) (reserved_rows kind)
