-- What 252 bytes say as a setting, each field with the place of its bytes. Assumes nothing.
use Prim.Native.Nat.{ℕ, ◌+◌, ◌*◌, ◌<◌}
use mathlib.Core.Path.{◌≡◌, refl, ◌∙◌}
use mathlib.Core.List.{List}
use native.Mathlib.Omega.{arith}
use borrow.Author.Tests.{eq-eqb}
use lib.ListN.{length, get_or, drop}
use lib.Seq.{get_or-take, get_or-drop}
use Rattle.counters.specs.Counters.{last_slot, last_stream}
use Rattle.setting.specs.declared.Setting.{Setting}
use Rattle.setting.specs.Setting.{private_bytes, auxiliary_bytes}
use Rattle.setting_bytes.specs.Words.{word_at, words_of}
use Rattle.setting_bytes.specs.Settings.{part, slot_type_at, frame_type_at, availability_at, ts_id_at, network_id_at, statuses_at, emergency_at, announced_length, announced_of}
use Rattle.setting_bytes.specs.Settings.{counter_at, version_at, announced_at, numbers_at, private_at, auxiliary_at, group_at, carriers_at, sequence_at, frames_at, position_at}
use Rattle.setting_bytes.specs.Settings.{setting_length, setting_of}
use Rattle.setting_bytes.proofs.Parts.{length_part}
use Rattle.setting_bytes.proofs.Same.{part_inside}

-- a byte of a part
byte_of_part : (j k m : ℕ) (b : List ℕ) → k < m → get_or (part j m b) k 0 ≡ get_or b (j + k) 0
byte_of_part j k m b h = get_or-take m (drop j b) k 0 h ∙ get_or-drop j b k 0

-- where a place of what is announced is found in a setting
abbrev pub in_setting : ℕ → ℕ
in_setting k = announced_at + k

-- each field from its own bytes
abbrev pub setting_in : List ℕ → Setting
setting_in b =
    record {
      continuity_counter = get_or b counter_at 0;
      version_number = get_or b version_at 0;
      slot_allocation_type = get_or b (in_setting slot_type_at) 0;
      frame_type = get_or b (in_setting frame_type_at) 0;
      availability = word_at (in_setting availability_at) b;
      ts_id = words_of (part (in_setting ts_id_at) (2 * last_stream) b);
      original_network_id = words_of (part (in_setting network_id_at) (2 * last_stream) b);
      receive_status = part (in_setting statuses_at) last_stream b;
      emergency_indicator = get_or b (in_setting emergency_at) 0;
      relative_ts_number = part numbers_at last_slot b;
      private_data = part private_at private_bytes b;
      auxiliary = part auxiliary_at auxiliary_bytes b;
      group_id = get_or b group_at 0;
      number_of_carriers = get_or b carriers_at 0;
      carrier_sequence = get_or b sequence_at 0;
      number_of_frames = get_or b frames_at 0;
      frame_position = record { 0 = get_or b position_at 0 };
    }

pub setting_of-in : (b : List ℕ) → length b ≡ setting_length → setting_of b ≡ setting_in b
unfolding setting_of announced_of
setting_of-in b whole =
    rw (
      eq-eqb (length b) setting_length whole,
      eq-eqb (length (part announced_at announced_length b)) announced_length (length_part announced_at announced_length b (omega arith)),
      byte_of_part announced_at slot_type_at announced_length b (omega arith),
      byte_of_part announced_at frame_type_at announced_length b (omega arith),
      byte_of_part announced_at availability_at announced_length b (omega arith),
      byte_of_part announced_at (availability_at + 1) announced_length b (omega arith),
      part_inside ts_id_at (2 * last_stream) announced_at announced_length b (omega arith),
      part_inside network_id_at (2 * last_stream) announced_at announced_length b (omega arith),
      part_inside statuses_at last_stream announced_at announced_length b (omega arith),
      byte_of_part announced_at emergency_at announced_length b (omega arith),
    ) refl
