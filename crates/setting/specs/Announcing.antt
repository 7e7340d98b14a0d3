-- What of a header decides on the next header's version.
use Rattle.std.specs.Prelude.{Bool, not, ◌||◌, List, ◌++◌, eqb}
use Rattle.slices.specs.Slices.{some_differ}
use Rattle.setting.specs.declared.Setting.{Setting}
use Rattle.setting.specs.Refusal.{Check}
use Rattle.setting.specs.declared.Kind.{Kind}
use Rattle.setting.specs.Size.{streams_of}
use Rattle.setting.specs.Rules.{information_checks, behind_checks}
use Rattle.setting.specs.declared.Announced.{Announced}

-- slot information, identifiers and control information: what raises the version where it differs
unfoldable pub announced : Setting → Announced
announced s =
    record {
      slot_allocation_type = s.slot_allocation_type;
      frame_type = s.frame_type;
      availability = s.availability;
      ts_id = s.ts_id;
      original_network_id = s.original_network_id;
      receive_status = s.receive_status;
      emergency_indicator = s.emergency_indicator;
    }

-- whether two headers announce different things
unfoldable pub differ : Announced → Announced → Bool
differ a b =
    not (eqb a.slot_allocation_type b.slot_allocation_type)
    || (not (eqb a.frame_type b.frame_type)
    || (not (eqb a.availability b.availability)
    || (some_differ a.ts_id b.ts_id
    || (some_differ a.original_network_id b.original_network_id
    || (some_differ a.receive_status b.receive_status
    || not (eqb a.emergency_indicator b.emergency_indicator))))))

-- 17: the numbers of the last closed header
unfoldable pub announced_checks : Kind → Announced → List Check
announced_checks kind a =
    information_checks a.slot_allocation_type a.frame_type a.availability a.receive_status a.emergency_indicator
    ++ behind_checks (streams_of kind) a.availability a.ts_id a.original_network_id a.receive_status
