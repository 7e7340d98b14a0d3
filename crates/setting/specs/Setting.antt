-- A setting's parts: how long its lists are, what its types say of it, and the blank one.
use Rattle.std.specs.Prelude.{ℕ, ◌<◌, ◌^◌, ◌≡◌, List, length, replicate}
use Rattle.bits.specs.Fields.{Fit}
use Rattle.setting.specs.declared.Setting.{Setting}
use Rattle.counters.specs.Counters.{last_slot, last_stream}

-- for how many bytes of private data there is room: as many as a short header has
abbrev pub private_bytes : ℕ
private_bytes = 131

-- how many bytes of auxiliary information an extended header has
abbrev pub auxiliary_bytes : ℕ
auxiliary_bytes = 28

-- a list of n values of w bits each: what an array of the code can hold
abbrev pub Array : ℕ → ℕ → List ℕ → Type 0
Array n w vs = (length vs ≡ n) × Fit w vs

-- what the code's types say of a setting, and nothing more
pub record OfItsTypes (s : Setting) : Type 0 where
  pub ts_ids : Array last_stream 16 s.ts_id
  pub network_id : Array last_stream 16 s.original_network_id
  pub statuses : Array last_stream 8 s.receive_status
  pub numbers : Array last_slot 8 s.relative_ts_number
  pub privates : Array private_bytes 8 s.private_data
  pub auxiliaries : Array auxiliary_bytes 8 s.auxiliary
  pub group : s.group_id < 2 ^ 8

-- zeros in every part
unfoldable pub blank : Setting
blank =
    record {
      continuity_counter = 0;
      version_number = 0;
      slot_allocation_type = 0;
      frame_type = 0;
      availability = 0;
      ts_id = replicate last_stream 0;
      original_network_id = replicate last_stream 0;
      receive_status = replicate last_stream 0;
      emergency_indicator = 0;
      relative_ts_number = replicate last_slot 0;
      private_data = replicate private_bytes 0;
      auxiliary = replicate auxiliary_bytes 0;
      group_id = 0;
      number_of_carriers = 0;
      carrier_sequence = 0;
      number_of_frames = 0;
      frame_position = record { 0 = 0 };
    }
