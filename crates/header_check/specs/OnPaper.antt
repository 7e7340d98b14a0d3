-- The paper's numbers and values for each case of what a check of a header answers.
use Rattle.std.specs.Prelude.{ℕ, Result, Ok, Err}
use Rattle.counters.specs.declared.FramePosition.{FramePosition}
use Rattle.refusals.specs.Refusals.{number}
use Rattle.header_check.specs.declared.Refused.{Refused}
use Rattle.header_check.specs.declared.Said.{Said}

-- a refusal: its number, or 0 where nothing is refused, and the remainder
pub record Refusal : Type 0 where
  pub number : ℕ
  pub remainder : ℕ

-- the refusal of a result
abbrev pub refusal_in : {T : Type 0} → Result T Refused → Refusal
refusal_in (Ok v) = record { number = 0; remainder = 0 }
refusal_in (Err why) = record { number = number why.refusal; remainder = why.remainder }

-- a refusal, and the parts of a header that receiving and gathering use: zeros where it is refused
pub record Checked : Type 0 where
  pub refusal : Refusal
  pub continuity_counter : ℕ
  pub availability : ℕ
  pub group_id : ℕ
  pub number_of_carriers : ℕ
  pub carrier_sequence : ℕ
  pub number_of_frames : ℕ
  pub frame_position : FramePosition

-- those of a result
abbrev pub on_paper : Result Said Refused → Checked
on_paper (Ok said) =
    record {
      refusal = record { number = 0; remainder = 0 };
      continuity_counter = said.continuity_counter;
      availability = said.availability;
      group_id = said.group_id;
      number_of_carriers = said.number_of_carriers;
      carrier_sequence = said.carrier_sequence;
      number_of_frames = said.number_of_frames;
      frame_position = said.frame_position;
    }
on_paper (Err why) =
    record {
      refusal = record { number = number why.refusal; remainder = why.remainder };
      continuity_counter = 0;
      availability = 0;
      group_id = 0;
      number_of_carriers = 0;
      carrier_sequence = 0;
      number_of_frames = 0;
      frame_position = record { 0 = 0 };
    }
