-- A setting's layout in bytes, field behind field in the setting's own order, and what bytes say as a setting.
use Rattle.std.specs.Prelude.{ℕ, ◌+◌, ◌-◌, ◌*◌, cond, List, [], ◌∷◌, ◌++◌, eqb, length, get_or, take, drop}
use Rattle.counters.specs.Counters.{last_slot, last_stream}
use Rattle.setting.specs.declared.Setting.{Setting}
use Rattle.setting.specs.Setting.{private_bytes, auxiliary_bytes, blank}
use Rattle.setting.specs.declared.Announced.{Announced}
use Rattle.setting.specs.Announcing.{announced}
use Rattle.setting_bytes.specs.Words.{word_bytes, word_at, words_of}

-- n bytes from place k on
abbrev pub part : ℕ → ℕ → List ℕ → List ℕ
part k n bytes = take n (drop k bytes)

-- ---- what decides on the version: its places, each behind the one before it

abbrev pub slot_type_at : ℕ
slot_type_at = 0

abbrev pub frame_type_at : ℕ
frame_type_at = slot_type_at + 1

-- the availability and the identifiers have two bytes each
abbrev pub availability_at : ℕ
availability_at = frame_type_at + 1

abbrev pub ts_id_at : ℕ
ts_id_at = availability_at + 2

abbrev pub network_id_at : ℕ
network_id_at = ts_id_at + 2 * last_stream

abbrev pub statuses_at : ℕ
statuses_at = network_id_at + 2 * last_stream

abbrev pub emergency_at : ℕ
emergency_at = statuses_at + last_stream

-- how many bytes it has: 80
abbrev pub announced_length : ℕ
announced_length = emergency_at + 1

unfoldable pub announced_bytes : Announced → List ℕ
announced_bytes a =
    (a.slot_allocation_type ∷ a.frame_type ∷ word_bytes (a.availability ∷ []))
    ++ (word_bytes a.ts_id
    ++ (word_bytes a.original_network_id
    ++ (a.receive_status
    ++ (a.emergency_indicator ∷ []))))

-- of any other length: what zeros say
unfoldable pub announced_of : List ℕ → Announced
announced_of b =
    cond (eqb (length b) announced_length)
    (record {
      slot_allocation_type = get_or b slot_type_at 0;
      frame_type = get_or b frame_type_at 0;
      availability = word_at availability_at b;
      ts_id = words_of (part ts_id_at (2 * last_stream) b);
      original_network_id = words_of (part network_id_at (2 * last_stream) b);
      receive_status = part statuses_at last_stream b;
      emergency_indicator = get_or b emergency_at 0;
    })
    (announced blank)

-- ---- a setting: its places, each behind the one before it

abbrev pub counter_at : ℕ
counter_at = 0

abbrev pub version_at : ℕ
version_at = counter_at + 1

abbrev pub announced_at : ℕ
announced_at = version_at + 1

abbrev pub numbers_at : ℕ
numbers_at = announced_at + announced_length

abbrev pub private_at : ℕ
private_at = numbers_at + last_slot

abbrev pub auxiliary_at : ℕ
auxiliary_at = private_at + private_bytes

abbrev pub group_at : ℕ
group_at = auxiliary_at + auxiliary_bytes

abbrev pub carriers_at : ℕ
carriers_at = group_at + 1

abbrev pub sequence_at : ℕ
sequence_at = carriers_at + 1

abbrev pub frames_at : ℕ
frames_at = sequence_at + 1

abbrev pub position_at : ℕ
position_at = frames_at + 1

-- how many bytes it has: 298
abbrev pub setting_length : ℕ
setting_length = position_at + 1

-- how many of them stand from place k on
abbrev pub setting_from : ℕ → ℕ
setting_from k = setting_length - k

unfoldable pub setting_bytes : Setting → List ℕ
setting_bytes s =
    (s.continuity_counter ∷ s.version_number ∷ [])
    ++ (announced_bytes (announced s)
    ++ (s.relative_ts_number
    ++ (s.private_data
    ++ (s.auxiliary
    ++ (s.group_id ∷ s.number_of_carriers ∷ s.carrier_sequence ∷ s.number_of_frames ∷ s.frame_position.0 ∷ [])))))

-- of any other length: zeros
unfoldable pub setting_of : List ℕ → Setting
setting_of b =
    cond (eqb (length b) setting_length)
    (record {
      continuity_counter = get_or b counter_at 0;
      version_number = get_or b version_at 0;
      slot_allocation_type = (announced_of (part announced_at announced_length b)).slot_allocation_type;
      frame_type = (announced_of (part announced_at announced_length b)).frame_type;
      availability = (announced_of (part announced_at announced_length b)).availability;
      ts_id = (announced_of (part announced_at announced_length b)).ts_id;
      original_network_id = (announced_of (part announced_at announced_length b)).original_network_id;
      receive_status = (announced_of (part announced_at announced_length b)).receive_status;
      emergency_indicator = (announced_of (part announced_at announced_length b)).emergency_indicator;
      relative_ts_number = part numbers_at last_slot b;
      private_data = part private_at private_bytes b;
      auxiliary = part auxiliary_at auxiliary_bytes b;
      group_id = get_or b group_at 0;
      number_of_carriers = get_or b carriers_at 0;
      carrier_sequence = get_or b sequence_at 0;
      number_of_frames = get_or b frames_at 0;
      frame_position = record { 0 = get_or b position_at 0 };
    })
    blank
