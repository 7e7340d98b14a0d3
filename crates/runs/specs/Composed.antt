-- What is promised of the frames that a run closes, whatever its calls. The proofs stand apart.
use Rattle.std.specs.Prelude.{ℕ, ◌*◌, ◌≤◌, ◌≡◌, true, false, cond, List, [], map, eqb, length, take}
use Rattle.setting.specs.declared.Kind.{Kind}
use Rattle.setting.specs.declared.Setting.{Setting}
use Rattle.counters.specs.Counters.{first_stream, first_slot}
use Rattle.setting.specs.Size.{slots_of, resized}
use Rattle.setting.specs.Rules.{pid_allowed}
use Rattle.header_check.specs.Checking.{bare}
use Rattle.header_read.specs.Reader.{read_of}
use Rattle.packet.specs.Packets.{packet_length, frame_length, slot, unfit}
use Rattle.receiver.specs.Store.{numbered, slots_for}
use Rattle.setting_bytes.specs.Kinds.{kind_of}
use Rattle.setting_bytes.specs.Settings.{setting_length, setting_of}
use Rattle.runs.specs.Runs.{Call, begin, put, close, Each, OfTypes, started, frames_of}
use Rattle.runs.specs.Firmware.{FirmwareCall, begins, puts, closes}
use Rattle.runs.specs.Demands.{RunOfCalls, frames_closed}
use Rattle.runs.specs.Work.{Work, no_work, works_of, slots_filled, headed, frame_of}

-- ---- from bytes to values

-- the call over values that a call of firmware's comes to. A setting of another length is refused, as a buffer without bytes is
abbrev pub valued : FirmwareCall → Call
valued (begins setting frame) = begin (cond (eqb (length setting) setting_length) frame []) (setting_of setting)
valued (puts stream r) = put stream r
valued closes = close

-- the frames that firmware's calls close are those that the calls over values close: so what follows is said of them
abbrev pub FramesAlike : Type 0
FramesAlike =
    (pid kind : ℕ) (run : RunOfCalls pid kind)
    → map (λ f. f.frame) (frames_closed run) ≡ frames_of (started (kind_of kind) pid) (map valued run.calls)

-- ---- the frames

-- the works of a run's closed frames, each with what its header says: the first has counter 0 and version 0
abbrev pub headed_by : Kind → ℕ → List Call → List (Setting × Work)
headed_by kind pid calls = headed (works_of (started kind pid) no_work calls)

-- 'what a closed frame holds': the frames that any calls close are, one for one, those that their works describe
abbrev pub FramesHold : Type 0
FramesHold =
    (kind : Kind) (pid : ℕ) (calls : List Call) → pid_allowed pid ≡ true → Each OfTypes calls
    → frames_of (started kind pid) calls ≡ map (frame_of kind pid) (headed_by kind pid calls)

-- each closed frame's header is one that the reader accepts, and says what its work describes
abbrev pub HeadersRead : Type 0
HeadersRead =
    (kind : Kind) (pid : ℕ) (calls : List Call) → pid_allowed pid ≡ true → Each OfTypes calls
    → map (λ f. read_of kind pid (slot 0 f)) (frames_of (started kind pid) calls)
    ≡ map (λ h. record { refusal = bare 0; setting = h.0 }) (headed_by kind pid calls)

-- 'the placed packets of each stream, in order, are the front of what was lent for it': as many as it has slots, or all
abbrev pub FrontsPlaced : Type 0
FrontsPlaced =
    (kind : Kind) (pid : ℕ) (calls : List Call) → pid_allowed pid ≡ true → Each OfTypes calls
    → Each
    (λ h. (r : ℕ) → first_stream ≤ r
    → numbered r h.0.relative_ts_number (slots_filled (resized (slots_of kind) h.1.setting.relative_ts_number) h.1.lent)
    ≡ take (packet_length * slots_for r h.1.setting.relative_ts_number) (h.1.lent r))
    (headed_by kind pid calls)

-- a closed frame is a packet for its header and one for each slot, and none but the first lacks 0x47 or bears the header PID
abbrev pub PacketsFit : Type 0
PacketsFit =
    (kind : Kind) (pid : ℕ) (calls : List Call) → pid_allowed pid ≡ true → Each OfTypes calls
    → Each
    (λ f. (length f ≡ frame_length (slots_of kind)) × ((i : ℕ) → first_slot ≤ i → i ≤ slots_of kind → unfit pid (slot i f) ≡ false))
    (frames_of (started kind pid) calls)
