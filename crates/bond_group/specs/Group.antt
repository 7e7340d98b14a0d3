-- A group: the super frames of carriers 1 to c in one buffer, one behind another. What its headers say, and its bonded slots in order.
use Rattle.std.specs.Prelude.{ℕ, zero, suc, ◌-◌, ◌*◌, ◌/◌, ◌%◌, Bool, cond, not, ◌&&◌, List, eqb, length, get_or}
use Rattle.setting.specs.declared.Kind.{Kind}
use Rattle.setting.specs.declared.Setting.{Setting}
use Rattle.counters.specs.Counters.{last_slot, last_stream, available}
use Rattle.header_layout.specs.Header.{reading}
use Rattle.packet.specs.Packets.{frame_length, slot}
use Rattle.bond_group.specs.declared.Bond.{Bond}
use Rattle.bond_places.specs.Order.{frame_packets, place_of, Place, comes_before, picked, sorted}

-- how many frames a group holds, and how many packets
abbrev pub frames_in : List ℕ → ℕ
frames_in group = length group / frame_length last_slot

abbrev pub packets_in : List ℕ → ℕ
packets_in group = frame_packets * frames_in group

-- what the header of frame j says; j counts from 0
unfoldable pub said : List ℕ → ℕ → Setting
said group j = reading Kind.Extended (slot (frame_packets * j) group)

-- ---- the stream in one frame

-- whether r is the stream's relative number: stream r is available and has its TS_id and original_network_id
unfoldable pub names : Bond → Setting → ℕ → Bool
names b s r =
    available s.availability r
    && (eqb (get_or s.ts_id (r - 1) 0) b.ts_id && eqb (get_or s.original_network_id (r - 1) 0) b.original_network_id)

-- its relative number, if it is one of 1 to n, or else 0. By rule 10 at most one of the fifteen is
unfoldable pub number_up_to : Bond → Setting → ℕ → ℕ
number_up_to b s zero = 0
number_up_to b s (suc n) = cond (names b s (suc n)) (suc n) (number_up_to b s n)

unfoldable pub number_of : Bond → Setting → ℕ
number_of b s = number_up_to b s last_stream

-- whether a header carries the stream
unfoldable pub carries : Bond → Setting → Bool
carries b s = not (eqb (number_of b s) 0)

-- whether slot i has number r. Slot 0 has no number, and 0 is no number
abbrev pub has_number : List ℕ → ℕ → ℕ → Bool
has_number numbers r i = not (eqb i 0) && (not (eqb r 0) && eqb (get_or numbers (i - 1) 0) r)

-- whether slot i of a frame with this header is bonded: its number is the stream's
unfoldable pub bonded_slot : Bond → Setting → ℕ → Bool
bonded_slot b s i = has_number s.relative_ts_number (number_of b s) i

-- ---- the stream in the group

-- packet m of the group is slot m % 53 of frame m / 53: whether it is bonded, and its place
unfoldable pub bonded : Bond → List ℕ → ℕ → Bool
bonded b group m = bonded_slot b (said group (m / frame_packets)) (m % frame_packets)

unfoldable pub place_in : List ℕ → ℕ → Place
place_in group m =
    record {
      carrier = (said group (m / frame_packets)).carrier_sequence;
      frames = (said group (m / frame_packets)).number_of_frames;
      at = place_of (said group (m / frame_packets)).frame_position.0 (m % frame_packets);
    }

abbrev pub earlier : List ℕ → ℕ → ℕ → Bool
earlier group m n = comes_before (place_in group m) (place_in group n)

-- the bonded packets of a group, in order
unfoldable pub order : Bond → List ℕ → List ℕ
order b group = sorted (earlier group) (picked (bonded b group) 0 (packets_in group))
