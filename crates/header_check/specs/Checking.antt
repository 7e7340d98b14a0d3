-- What checking a packet as a header answers.
use Rattle.std.specs.Prelude.{ℕ, cond, ◌&&◌, List, ◌++◌, eqb, length}
use Rattle.counters.specs.Counters.{last_slot}
use Rattle.setting.specs.declared.Kind.{Kind}
use Rattle.setting.specs.declared.Setting.{Setting}
use Rattle.setting.specs.Setting.{blank}
use Rattle.setting.specs.Refusal.{Check, first_of}
use Rattle.setting.specs.Rules.{rule_checks}
use Rattle.header_layout.specs.Header.{header_length, reading, call_checks, remainder_of, packet_checks, reserved_checks}
use Rattle.header_check.specs.OnPaper.{Refusal}
use Rattle.header_check.specs.OnPaper.{Checked}

-- 3 to 7, then 20, then 8 to 11: what is checked of a packet of 188 bytes
unfoldable pub read_checks : Kind → ℕ → List ℕ → List Check
read_checks kind pid p = packet_checks pid p ++ (reserved_checks kind p ++ rule_checks kind (reading kind p))

-- the number of a read's refusal, or 0
unfoldable pub read_refusal : Kind → ℕ → List ℕ → ℕ
read_refusal kind pid p = first_of (call_checks pid (length p) ++ read_checks kind pid p)

-- a number with no remainder beside it
abbrev pub bare : ℕ → Refusal
bare n = record { number = n; remainder = 0 }

-- the refusal of a packet by this number: beside 7 stands the packet's remainder, beside any other number 0
unfoldable pub refusal_by : ℕ → List ℕ → Refusal
refusal_by n p = record { number = n; remainder = cond (eqb n 7) (remainder_of p) 0 }

-- a refusal, and the parts of a setting that receiving and gathering use
unfoldable pub parts_of : Refusal → Setting → Checked
parts_of refusal s =
    record {
      refusal = refusal;
      continuity_counter = s.continuity_counter;
      availability = s.availability;
      group_id = s.group_id;
      number_of_carriers = s.number_of_carriers;
      carrier_sequence = s.carrier_sequence;
      number_of_frames = s.number_of_frames;
      frame_position = s.frame_position;
    }

-- with refusal 0 the parts that the packet says, with any other number zeros
unfoldable pub parts_beside : ℕ → Kind → List ℕ → Checked
parts_beside n kind p = parts_of (refusal_by n p) (cond (eqb n 0) (reading kind p) blank)

-- what a check answers
unfoldable pub checked_of : Kind → ℕ → List ℕ → Checked
checked_of kind pid p = parts_beside (read_refusal kind pid p) kind p

-- 52 bytes after the slots' numbers of a packet were read into them. Bytes and packets of any other length stay
unfoldable pub numbers_into : Kind → List ℕ → List ℕ → List ℕ
numbers_into kind p lent = cond (eqb (length lent) last_slot && eqb (length p) header_length) (reading kind p).relative_ts_number lent
