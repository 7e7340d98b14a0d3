-- The plan of a group: what its headers say of the carriers and of the stream.
use Rattle.std.specs.Prelude.{ℕ, zero, suc, ◌+◌, ◌-◌, Bool, true, false, cond, ◌||◌, List, [], ◌∷◌, eqb, set, replicate, Result, Ok, Err, Option, Some, None}
use Rattle.std.specs.Int.Count.{ones}
use Rattle.slot_bits.specs.Bits.{slots_as_bits}
use Rattle.counters.specs.Counters.{first_slot, last_slot, last_carrier}
use Rattle.setting.specs.declared.Setting.{Setting}
use Rattle.setting.specs.Refusal.{first_of}
use Rattle.refusals.specs.Refusals.{number}
use Rattle.header_check.specs.declared.Refused.{Refused}
use Rattle.header_check.specs.OnPaper.{Refusal}
use Rattle.bond_group.specs.declared.Bond.{Bond}
use Rattle.bond_places.specs.Walk.{most_frames}
use Rattle.bond_group.specs.Group.{frames_in, said, carries, bonded_slot}
use Rattle.bond_group.specs.Standing.{group_checks, plan_checks, group_refusal}

-- what the headers say of the group and the stream: each carrier's number of frames; the bonded slots of each frame, slot i in bit i;
-- whether one of them carries the stream; and how many bonded slots there are
pub record Plan : Type 0 where
  pub frames : List ℕ
  pub slots : List ℕ
  pub is_carried : Bool
  pub packets : ℕ

-- refusal 0 and the plan, or the refusal and an empty plan
pub record Planned : Type 0 where
  pub refusal : Refusal
  pub plan : Plan

-- what a call answers of that: refusal 0, whether one of the headers carries the stream, and how many bonded slots there are; or the refusal and zeros
pub record Headers : Type 0 where
  pub refusal : Refusal
  pub is_carried : Bool
  pub packets : ℕ

-- those of a result
abbrev pub headers_in : Result (Option ℕ) Refused → Headers
headers_in (Ok (Some packets)) = record { refusal = record { number = 0; remainder = 0 }; is_carried = true; packets = packets }
headers_in (Ok None) = record { refusal = record { number = 0; remainder = 0 }; is_carried = false; packets = 0 }
headers_in (Err why) = record { refusal = record { number = number why.refusal; remainder = why.remainder }; is_carried = false; packets = 0 }

-- those of a plan
abbrev pub headers_of : Planned → Headers
headers_of p = record { refusal = p.refusal; is_carried = p.plan.is_carried; packets = p.plan.packets }

-- for n slots from i on: whether each passes the test
unfoldable pub passing : (ℕ → Bool) → ℕ → ℕ → List Bool
passing test i zero = []
passing test i (suc n) = test i ∷ passing test (i + 1) n

-- the bonded slots of a frame with this header as one number, slot i in bit i
unfoldable pub marks : Bond → Setting → ℕ
marks b s = slots_as_bits (passing (bonded_slot b s) first_slot last_slot)

-- the plan before the first header is read
unfoldable pub nothing_seen : Plan
nothing_seen =
    record { frames = replicate last_carrier 0; slots = replicate most_frames 0; is_carried = false; packets = 0 }

-- a refusal and an empty plan
abbrev pub no_plan : Refusal → Planned
no_plan refusal = record { refusal = refusal; plan = nothing_seen }

-- the plan with the header of frame j added
unfoldable pub seen : Bond → Plan → ℕ → Setting → Plan
seen b plan j s =
    record {
      frames = set plan.frames (s.carrier_sequence - 1) s.number_of_frames;
      slots = set plan.slots j (marks b s);
      is_carried = plan.is_carried || carries b s;
      packets = plan.packets + ones (marks b s);
    }

unfoldable pub plan_after : Bond → List ℕ → ℕ → Plan
plan_after b group zero = nothing_seen
plan_after b group (suc j) = seen b (plan_after b group j) j (said group j)

-- with refusal 0 the plan of the whole group, with any other number an empty plan
abbrev pub plan_beside : ℕ → Bond → List ℕ → Planned
plan_beside n b group =
    record { refusal = group_refusal b group n; plan = cond (eqb n 0) (plan_after b group (frames_in group)) nothing_seen }

-- what the headers of a group lead to, and what a call answers that reads them
unfoldable pub planned_by : Bond → List ℕ → Planned
planned_by b group = plan_beside (first_of (group_checks b group)) b group

unfoldable pub planned_of : Bond → List ℕ → Planned
planned_of b group = plan_beside (first_of (plan_checks b group)) b group
