-- What is not refused: on every state that calls can reach, as statements. The proofs stand apart.
use Rattle.std.specs.Prelude.{ℕ, ◌%◌, ◌≤◌, ◌≡◌, true, false, List, length}
use Rattle.bits.specs.Fields.{Fit}
use Rattle.counters.specs.Counters.{first_stream, available}
use Rattle.setting.specs.Size.{slots_of, streams_of}
use Rattle.header_layout.specs.Meets.{MeetsRules}
use Rattle.packet.specs.Packets.{packet_length, frame_length, some_unfit_in}
use Rattle.setting_bytes.specs.Kinds.{kind_of}
use Rattle.setting_bytes.specs.Settings.{setting_length, setting_of}
use Rattle.composer.specs.States.{composer_of}
use Rattle.composer.specs.Calls.{begin_refused, put_refused, close_refused}
use Rattle.receiver.specs.Store.{store_length}
use Rattle.receiver.specs.Table.{is_ready}
use Rattle.receiver.specs.Bytes.{receiver_of}
use Rattle.receiver.specs.Calls.{start_refused as receiver_refused, receive_refused, hand_out_refused}
use Rattle.runs.specs.Firmware.{started_as, after_calls, Demultiplexer, tuned_to, heard_all, ready_bytes}
use Rattle.runs.specs.Demands.{RunOfCalls}

-- ---- at the multiplexer

-- the state that a run's calls left
abbrev pub reached : {pid kind : ℕ} → RunOfCalls pid kind → List ℕ
reached {pid} {kind} run = (after_calls (started_as run.state pid kind) run.calls).state

-- begin with a frame of its length and a setting that meets the rules
abbrev pub BeginsAccepted : Type 0
BeginsAccepted =
    (pid kind : ℕ) (run : RunOfCalls pid kind) (setting frame : List ℕ)
    → Fit 8 setting → length setting ≡ setting_length → MeetsRules (kind_of kind) pid (setting_of setting) → length frame ≡ frame_length (slots_of (kind_of kind))
    → begin_refused (reached run) setting frame ≡ 0

-- put of fit packets for an available stream, while a frame is open
abbrev pub PutsAccepted : Type 0
PutsAccepted =
    (pid kind : ℕ) (run : RunOfCalls pid kind) (r : ℕ) (stream frame : List ℕ)
    → (composer_of (reached run)).is_open ≡ true
    → first_stream ≤ r → r ≤ streams_of (kind_of kind) → available (composer_of (reached run)).setting.availability r ≡ true
    → length stream % packet_length ≡ 0 → some_unfit_in pid stream ≡ false → length frame ≡ frame_length (slots_of (kind_of kind))
    → put_refused (reached run) r stream frame ≡ 0

-- close of an open frame
abbrev pub ClosesAccepted : Type 0
ClosesAccepted =
    (pid kind : ℕ) (run : RunOfCalls pid kind) (frame : List ℕ)
    → (composer_of (reached run)).is_open ≡ true → length frame ≡ frame_length (slots_of (kind_of kind))
    → close_refused (reached run) frame ≡ 0

-- ---- at the receiver

-- a receiver that was started, and was given any packets with a store of its length
pub record Reached (pid kind : ℕ) : Type 0 where
  pub state : List ℕ
  pub accepted : receiver_refused state pid kind ≡ 0
  pub store : List ℕ
  pub store_long : length store ≡ store_length (slots_of (kind_of kind))
  pub packets : List (List ℕ)

abbrev pub reached_by : {pid kind : ℕ} → Reached pid kind → Demultiplexer
reached_by {pid} {kind} c = heard_all (tuned_to c.state pid kind c.store) c.packets

-- receive of any 188 bytes
abbrev pub ReceivesAccepted : Type 0
ReceivesAccepted =
    (pid kind : ℕ) (c : Reached pid kind) (p : List ℕ) → length p ≡ packet_length
    → receive_refused (reached_by c).state p (reached_by c).store ≡ 0

-- hand out with room, for a stream number, while a frame is ready
abbrev pub HandOutsAccepted : Type 0
HandOutsAccepted =
    (pid kind : ℕ) (c : Reached pid kind) (r : ℕ) (out : List ℕ)
    → first_stream ≤ r → r ≤ streams_of (kind_of kind) → is_ready (receiver_of (reached_by c).state).stage ≡ true
    → ready_bytes r (reached_by c) ≤ length out
    → hand_out_refused (reached_by c).state r (reached_by c).store out ≡ 0
