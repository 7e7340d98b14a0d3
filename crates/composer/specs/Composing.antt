-- The composer: what each call answers, and what it leaves.
use Rattle.std.specs.Prelude.{ℕ, ◌+◌, ◌%◌, ◌^◌, Bool, true, false, cond, not, ◌&&◌, List, [], ◌∷◌, ◌++◌, leb, eqb, length, drop, replicate}
use Rattle.setting.specs.declared.Kind.{Kind}
use Rattle.setting.specs.declared.Setting.{Setting}
use Rattle.setting.specs.declared.Announced.{Announced}
use Rattle.counters.specs.Counters.{first_stream, last_slot, within, available}
use Rattle.setting.specs.Size.{slots_of, streams_of}
use Rattle.setting.specs.Refusal.{Check, first_of, leaves}
use Rattle.setting.specs.Rules.{pid_allowed, width_checks, rule_checks}
use Rattle.setting.specs.Setting.{blank}
use Rattle.header_layout.specs.Header.{header}
use Rattle.setting.specs.Announcing.{announced, differ, announced_checks}
use Rattle.packet.specs.Packets.{packet_length, frame_length}
use Rattle.composer.specs.Slots.{cleared, marks_after, placed_by, some_unfit, frame_after, some_unplanned, numbers_of}

-- ---- the state, and what a call answers

-- counter, version and what was announced are the last closed header's. Setting and filled slots are the open frame's
pub record Composer : Type 0 where
  pub pid : ℕ
  pub kind : Kind
  pub counter : ℕ
  pub version : ℕ
  pub last : Announced
  pub is_open : Bool
  pub setting : Setting
  pub filled : List Bool

-- refusal 0 and the new state, or the refusal's number and the state as it was
pub record Answer : Type 0 where
  pub refusal : ℕ
  pub state : Composer

-- also how many packets were placed, 0 on a refusal
pub record Placed : Type 0 where
  pub refusal : ℕ
  pub placed : ℕ
  pub state : Composer

-- a run's state before its first begin. No header was closed yet. It is as if the last one had counter 15 and version 7 and announced a
-- frame type that no header has, so that the first header gets counter 0 and version 0
unfoldable pub fresh : Kind → ℕ → Composer
fresh kind pid =
    record {
      pid = pid;
      kind = kind;
      counter = 15;
      version = 7;
      last = announced blank;
      is_open = false;
      setting = blank;
      filled = replicate last_slot false;
    }

-- the state after a frame was begun
unfoldable pub opened : Composer → Setting → Composer
opened c s =
    record {
      pid = c.pid;
      kind = c.kind;
      counter = c.counter;
      version = c.version;
      last = c.last;
      is_open = true;
      setting = s;
      filled = replicate last_slot false;
    }

-- the state with other filled marks
unfoldable pub marked : Composer → List Bool → Composer
marked c marks =
    record {
      pid = c.pid;
      kind = c.kind;
      counter = c.counter;
      version = c.version;
      last = c.last;
      is_open = c.is_open;
      setting = c.setting;
      filled = marks;
    }

-- the counter of the header that follows one with this counter
abbrev pub counter_behind : ℕ → ℕ
counter_behind counter = (counter + 1) % 16

-- the version of the header that follows one of this version that announced this: raised exactly when slot information, identifiers or
-- control information differ
abbrev pub version_behind : ℕ → Announced → Setting → ℕ
version_behind version last s = cond (differ (announced s) last) ((version + 1) % 8) version

-- counter and version of the header that a close writes
unfoldable pub next_counter : Composer → ℕ
next_counter c = counter_behind c.counter

unfoldable pub next_version : Composer → ℕ
next_version c = version_behind c.version c.last c.setting

-- a setting as the header says it: with the run's counter and version, and with these numbers for the slots
unfoldable pub saying : ℕ → ℕ → List ℕ → Setting → Setting
saying counter version numbers s =
    record {
      continuity_counter = counter;
      version_number = version;
      slot_allocation_type = s.slot_allocation_type;
      frame_type = s.frame_type;
      availability = s.availability;
      ts_id = s.ts_id;
      original_network_id = s.original_network_id;
      receive_status = s.receive_status;
      emergency_indicator = s.emergency_indicator;
      relative_ts_number = numbers;
      private_data = s.private_data;
      auxiliary = s.auxiliary;
      group_id = s.group_id;
      number_of_carriers = s.number_of_carriers;
      carrier_sequence = s.carrier_sequence;
      number_of_frames = s.number_of_frames;
      frame_position = s.frame_position;
    }

-- what the open frame's header says
unfoldable pub closing : Composer → Setting
closing c = saying (next_counter c) (next_version c) (numbers_of c.setting.relative_ts_number c.filled) c.setting

-- the state after a header with this counter and version was written
unfoldable pub closed_with : Composer → ℕ → ℕ → Composer
closed_with c counter version =
    record {
      pid = c.pid;
      kind = c.kind;
      counter = counter;
      version = version;
      last = announced c.setting;
      is_open = false;
      setting = blank;
      filled = replicate last_slot false;
    }

unfoldable pub closed : Composer → Composer
closed c = closed_with c (next_counter c) (next_version c)

-- ---- the checks, in the table's order

-- checks that count only if a condition holds
unfoldable pub asked : Bool → List Check → List Check
asked b [] = []
asked b (c ∷ cs) = (c.0, b && c.1) ∷ asked b cs

-- two lists of checks with the same numbers, merged: for each number the check of the first list, then that of the second
unfoldable pub in_turn : List Check → List Check → List Check
in_turn [] ds = ds
in_turn (c ∷ cs) [] = c ∷ cs
in_turn (c ∷ cs) (d ∷ ds) = c ∷ d ∷ in_turn cs ds

-- 2 and 17: a state's PID and numbers, and, while a frame is open, the fields of its setting
unfoldable pub state_checks : Composer → List Check
state_checks c =
    (2, not (pid_allowed c.pid))
    ∷ (17, leb (2 ^ 4) c.counter)
    ∷ (17, leb (2 ^ 3) c.version)
    ∷ (announced_checks c.kind c.last ++ asked c.is_open (width_checks c.kind c.setting))

-- 8 to 11: while a frame is open, the rules of its setting
unfoldable pub open_rule_checks : Composer → List Check
open_rule_checks c = asked c.is_open (rule_checks c.kind c.setting)

-- 17, after those: a filled mark on a slot that is planned for no stream
unfoldable pub mark_checks : Composer → List Check
mark_checks c = (17, c.is_open && some_unplanned c.setting.relative_ts_number c.filled) ∷ []

-- 1: a frame's buffer of another length than the run's kind has
abbrev pub length_check : Composer → ℕ → Check
length_check c lent = (1, not (eqb lent (frame_length (slots_of c.kind))))

unfoldable pub begin_refusal : Composer → Setting → ℕ → ℕ
begin_refusal c s lent =
    first_of (length_check c lent
    ∷ (state_checks c ++ (width_checks c.kind s ++ (in_turn (open_rule_checks c) (rule_checks c.kind s) ++ mark_checks c))))

-- 16, and the checks of an open frame
unfoldable pub open_checks : Composer → List Check
open_checks c = (16, not c.is_open) ∷ (open_rule_checks c ++ mark_checks c)

-- 13 and 12: a stream that is to be placed, and its packets
unfoldable pub stream_checks : Composer → ℕ → List ℕ → List Check
stream_checks c r stream =
    (13, not (available c.setting.availability r))
    ∷ (12, some_unfit c.pid r c.setting.relative_ts_number c.filled stream)
    ∷ []

unfoldable pub put_refusal : Composer → ℕ → List ℕ → ℕ → ℕ
put_refusal c r stream lent =
    first_of (length_check c lent
    ∷ (1, not (eqb (length stream % packet_length) 0))
    ∷ (state_checks c ++ ((17, not (within first_stream (streams_of c.kind) r)) ∷ (open_checks c ++ stream_checks c r stream))))

unfoldable pub close_refusal : Composer → ℕ → ℕ
close_refusal c lent = first_of (length_check c lent ∷ (state_checks c ++ open_checks c))

-- ---- the calls

-- what a call answers that makes a new state: refusal 0 and the new state, or the refusal's number and the old one
unfoldable pub answer : ℕ → Composer → Composer → Answer
answer refusal new old = record { refusal = refusal; state = cond (eqb refusal 0) new old }

-- a refused start gives the fresh plain state of PID 0
unfoldable pub start_of : Kind → ℕ → Answer
start_of kind pid = answer (first_of ((2, not (pid_allowed pid)) ∷ [])) (fresh kind pid) (fresh Kind.Plain 0)

unfoldable pub begin_of : Composer → Setting → ℕ → Answer
begin_of c s lent = answer (begin_refusal c s lent) (opened c s) c

unfoldable pub begun_frame : Composer → Setting → List ℕ → List ℕ
begun_frame c s frame = leaves (begin_refusal c s (length frame)) (cleared (slots_of c.kind) frame) frame

unfoldable pub put_of : Composer → ℕ → List ℕ → ℕ → Placed
put_of c r stream lent =
    record {
      refusal = put_refusal c r stream lent;
      placed = cond (eqb (put_refusal c r stream lent) 0) (placed_by r c.setting.relative_ts_number c.filled stream) 0;
      state =
          cond (eqb (put_refusal c r stream lent) 0) (marked c (marks_after r c.setting.relative_ts_number c.filled stream)) c;
    }

unfoldable pub put_frame : Composer → ℕ → List ℕ → List ℕ → List ℕ
put_frame c r stream frame =
    leaves (put_refusal c r stream (length frame)) (frame_after r c.setting.relative_ts_number c.filled stream frame) frame

unfoldable pub close_of : Composer → ℕ → Answer
close_of c lent = answer (close_refusal c lent) (closed c) c

-- only the header is written
unfoldable pub closed_frame : Composer → List ℕ → List ℕ
closed_frame c frame =
    leaves (close_refusal c (length frame)) (header c.kind c.pid (closing c) ++ drop packet_length frame) frame
