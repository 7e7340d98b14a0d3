-- A receiver's state as 58 bytes, and the state that bytes code.
use Rattle.std.specs.Prelude.{ℕ, ◌+◌, ◌^◌, ◌<◌, Bool, cond, not, ◌&&◌, ◌||◌, List, [], ◌∷◌, ◌++◌, leb, eqb, get_or}
use Rattle.setting_bytes.specs.Words.{word_bytes, word_at}
use Rattle.setting_bytes.specs.Kinds.{is_kind, kind_of, kind_number}
use Rattle.setting_bytes.specs.Settings.{part}
use Rattle.counters.specs.Counters.{last_slot}
use Rattle.setting.specs.Setting.{Array}
use Rattle.receiver.specs.declared.Event.{Event}
use Rattle.receiver.specs.declared.Stage.{Stage}
use Rattle.receiver.specs.Packed.{packed_length, packed, unpacked}
use Rattle.receiver.specs.Receiving.{Receiver}

-- ---- the places, each behind the one before it

-- the PID, in two bytes, and the kind
abbrev pub pid_at : ℕ
pid_at = 0

abbrev pub kind_at : ℕ
kind_at = pid_at + 2

-- where the receiver stands: the stage, the open frame's counter, and how many packets of it are stored
abbrev pub stage_at : ℕ
stage_at = kind_at + 1

abbrev pub counter_at : ℕ
counter_at = stage_at + 1

abbrev pub stored_at : ℕ
stored_at = counter_at + 1

-- the slots' numbers by the open frame's header, and by the header before it
abbrev pub numbers_at : ℕ
numbers_at = stored_at + 1

abbrev pub before_at : ℕ
before_at = numbers_at + packed_length

-- how many bytes a state has
abbrev pub receiver_length : ℕ
receiver_length = before_at + packed_length

-- ---- the stage

-- 0 waiting, 1 open, 2 ready; the open frame's counter; how many packets of it are stored
unfoldable pub stage_bytes : Stage → List ℕ
stage_bytes Stage.Waiting = 0 ∷ 0 ∷ 0 ∷ []
stage_bytes (Stage.Open from k) = 1 ∷ from ∷ k ∷ []
stage_bytes (Stage.Ready from) = 2 ∷ from ∷ 0 ∷ []

-- a stage that every call refuses with 17, since no header has this counter. Bytes that code no stage are read as this one
abbrev pub no_stage : Stage
no_stage = Stage.Open 255 0

unfoldable pub stage_of : ℕ → ℕ → ℕ → Stage
stage_of tag from k =
    cond (eqb tag 0 && (eqb from 0 && eqb k 0)) Stage.Waiting
    (cond (eqb tag 1) (Stage.Open from k)
    (cond (eqb tag 2 && eqb k 0) (Stage.Ready from) no_stage))

-- the stage in a state's bytes. If the kind's byte is no kind, it is `no_stage`
abbrev pub stage_in : List ℕ → Stage
stage_in b = cond (is_kind (get_or b kind_at 0)) (stage_of (get_or b stage_at 0) (get_or b counter_at 0) (get_or b stored_at 0)) no_stage

-- ---- the state

-- PID, kind, stage, the slots' numbers by the open frame's header and by the one before, packed as in headers
unfoldable pub receiver_bytes : Receiver → List ℕ
receiver_bytes c =
    (word_bytes (c.pid ∷ []) ++ (kind_number c.kind ∷ [])) ++ (stage_bytes c.stage ++ (packed c.numbers ++ packed c.before))

unfoldable pub receiver_of : List ℕ → Receiver
receiver_of b =
    record {
      pid = word_at pid_at b;
      kind = kind_of (get_or b kind_at 0);
      stage = stage_in b;
      numbers = unpacked (part numbers_at packed_length b);
      before = unpacked (part before_at packed_length b);
    }

-- a receiver that bytes can code: a PID of 16 bits, and a number of 4 bits for each slot
pub record Codable (c : Receiver) : Type 0 where
  pub pid : c.pid < 2 ^ 16
  pub numbers : Array last_slot 4 c.numbers
  pub before : Array last_slot 4 c.before

-- whether three bytes code a stage: the first is 0 to 2; waiting has counter 0 and nothing stored; ready has nothing stored
abbrev pub is_stage : ℕ → ℕ → ℕ → Bool
is_stage tag from k = leb tag 2 && ((not (eqb tag 0) || (eqb from 0 && eqb k 0)) && (not (eqb tag 2) || eqb k 0))

-- whether bytes code a state: the kind's byte is a kind, and the stage's bytes code a stage
unfoldable pub is_coded : List ℕ → Bool
is_coded b = is_kind (get_or b kind_at 0) && is_stage (get_or b stage_at 0) (get_or b counter_at 0) (get_or b stored_at 0)

-- an event on paper: its number, and the remainder beside it
pub record Told : Type 0 where
  pub event : ℕ
  pub remainder : ℕ

-- what a packet did, as a call answers it: the event's number, and the remainder, which is 0 beside any event but 'broken'
unfoldable pub told : Event → Told
told Event.Nothing = record { event = 0; remainder = 0 }
told Event.Opened = record { event = 1; remainder = 0 }
told Event.Stored = record { event = 2; remainder = 0 }
told Event.Ready = record { event = 3; remainder = 0 }
told Event.Short = record { event = 4; remainder = 0 }
told Event.Jump = record { event = 5; remainder = 0 }
told Event.Long = record { event = 6; remainder = 0 }
told (Event.Broken r) = record { event = 7; remainder = r }

-- the event's number alone
abbrev pub event_number : Event → ℕ
event_number e = (told e).event
