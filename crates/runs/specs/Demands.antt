-- Demands 2 and 3 over frames, as statements over what the calls of the C header answer and leave, from the start on. The proofs stand
-- apart.
use Rattle.std.specs.Prelude.{ℕ, ◌*◌, ◌≤◌, ◌≡◌, true, false, List, [], ◌∷◌, ◌++◌, map, length, replicate}
use Rattle.setting_bytes.specs.Kinds.{kind_of}
use Rattle.counters.specs.Counters.{first_stream}
use Rattle.setting.specs.Size.{slots_of, streams_of}
use Rattle.packet.specs.Packets.{packet_length}
use Rattle.composer.specs.Calls.{start_refused}
use Rattle.receiver.specs.Store.{store_length}
use Rattle.receiver.specs.Calls.{start_refused as receiver_refused}
use Rattle.runs.specs.Runs.{Each}
use Rattle.runs.specs.Firmware.{FirmwareCall, OfBytes, started_as, Closed, closed_frames, tuned_to, given_out, WithRoom}
use Rattle.runs.specs.Losses.{kept, Sent, MayHappen, InARowAtMost, arriving, wanted}

-- A run: the composer was started with this PID and this kind, and any calls followed
pub record RunOfCalls (pid kind : ℕ) : Type 0 where
  pub state : List ℕ
  pub accepted : start_refused state pid kind ≡ 0
  pub calls : List FirmwareCall
  pub lent : Each OfBytes calls

-- the frames that it closed
abbrev pub frames_closed : {pid kind : ℕ} → RunOfCalls pid kind → List Closed
frames_closed {pid} {kind} run = closed_frames (started_as run.state pid kind) run.calls

-- ---- demand 3, clause by clause

-- 'Take one run of consecutive frames from our multiplexer, with one header PID and one kind of header.'
pub record OneRun (pid kind : ℕ) (frames : List (List ℕ)) : Type 0 where
  pub run : RunOfCalls pid kind
  pub earlier : List (List ℕ)
  pub later : List (List ℕ)
  pub consecutive : map (λ f. f.frame) (frames_closed run) ≡ earlier ++ (frames ++ later)

-- 'Lose whole packets anywhere and spoil any headers so that the reader refuses them, but never more than fifteen headers in a row lost
-- or spoiled.' The fifteen is a parameter
pub record LostOrSpoiled (limit pid kind : ℕ) (sent : List Sent) : Type 0 where
  pub may_happen : Each (MayHappen (kind_of kind) pid) sent
  pub in_a_row : InARowAtMost limit sent

-- 'A fresh receiver set to both, and asked once, with room, for each stream number at every ready frame,'
pub record FreshAndAsked (pid kind r : ℕ) (packets : List (List ℕ)) : Type 0 where
  pub state : List ℕ
  pub accepted : receiver_refused state pid kind ≡ 0
  pub store : List ℕ
  pub store_long : length store ≡ store_length (slots_of (kind_of kind))
  pub from : first_stream ≤ r
  pub to : r ≤ streams_of (kind_of kind)
  pub buffers : ℕ → List ℕ
  pub room : WithRoom r buffers (tuned_to state pid kind store) packets

-- what it then hands out
abbrev pub hands_out : {pid kind r : ℕ} {packets : List (List ℕ)} → FreshAndAsked pid kind r packets → List ℕ
hands_out {pid} {kind} {r} {packets} a = given_out r a.buffers (tuned_to a.state pid kind a.store) packets

-- buffers for all packets of a frame always have room, whichever stream is asked for. (No stream has the number 0: that of slots which carry
-- nothing, and of what stands behind the last slot)
abbrev pub AlwaysRoom : Type 0
AlwaysRoom =
    (pid kind r : ℕ) (state store : List ℕ) (buffers : ℕ → List ℕ) (packets : List (List ℕ))
    → receiver_refused state pid kind ≡ 0 → length store ≡ store_length (slots_of (kind_of kind)) → first_stream ≤ r
    → ((n : ℕ) → store_length (slots_of (kind_of kind)) ≤ length (buffers n))
    → WithRoom r buffers (tuned_to state pid kind store) packets

-- 'then hands out, under each number, exactly the packets of those frames that arrived entire and unspoiled with the next frame's good
-- header directly behind them, in order, and nothing besides.'
abbrev pub NothingMixed : ℕ → Type 0
NothingMixed limit =
    (pid kind r : ℕ) (sent : List Sent)
    → OneRun pid kind (map (λ s. s.frame) sent)
    → LostOrSpoiled limit pid kind sent
    → (a : FreshAndAsked pid kind r (arriving sent))
    → hands_out a ≡ wanted (kind_of kind) pid r sent

abbrev pub DemandThree : Type 0
DemandThree = NothingMixed 15

-- the fifteen is needed: with sixteen the promise fails
abbrev pub SixteenFail : Type 0
SixteenFail = NothingMixed 16 → ⊥

-- ---- demand 2: 'Placed packets, received without loss and with their run's next header behind the frame, come out packet for packet'

-- a frame of which everything arrives, and one of which the header alone is awaited
abbrev pub whole : ℕ → List ℕ → Sent
whole kind frame = record { frame = frame; fate = kept; arrived = replicate (slots_of (kind_of kind)) true }

abbrev pub header_alone : ℕ → List ℕ → Sent
header_alone kind frame = record { frame = frame; fate = kept; arrived = replicate (slots_of (kind_of kind)) false }

-- of any frame of any run, under each number, what its puts placed; and it is as many packets as they answered, summed
abbrev pub PacketForPacket : Type 0
PacketForPacket =
    (pid kind r : ℕ) (run : RunOfCalls pid kind) (earlier later : List Closed) (f next : Closed)
    → frames_closed run ≡ earlier ++ (f ∷ next ∷ later)
    → (a : FreshAndAsked pid kind r (arriving (whole kind f.frame ∷ header_alone kind next.frame ∷ [])))
    → (hands_out a ≡ f.placed r) × (length (hands_out a) ≡ packet_length * f.count r)

-- what was placed under number r in all frames but the last, one behind the other
unfoldable pub placed_in : ℕ → List Closed → List ℕ
placed_in r [] = []
placed_in r (f ∷ []) = []
placed_in r (f ∷ next ∷ fs) = f.placed r ++ placed_in r (next ∷ fs)

-- and so it is frame after frame: a whole run, received without loss, gives under each number what was placed in all its frames but the
-- last, which no header vouches for
abbrev pub RunForRun : Type 0
RunForRun =
    (pid kind r : ℕ) (run : RunOfCalls pid kind)
    → (a : FreshAndAsked pid kind r (arriving (map (λ f. whole kind f.frame) (frames_closed run))))
    → hands_out a ≡ placed_in r (frames_closed run)
