-- A bonded stream over the runs of several carriers, super frame after super frame: what firmware does between the calls.
use Rattle.std.specs.Prelude.{ℕ, zero, suc, ◌*◌, ◌≡◌, Bool, cond, ◌||◌, eqb, length, get_or, take, drop}
use mathlib.Core.List.{List, [], ◌∷◌, ◌++◌, map, flatten}
use Rattle.counters.specs.Counters.{last_slot}
use Rattle.setting.specs.declared.Kind.{Kind}
use Rattle.setting.specs.Size.{slots_of}
use Rattle.setting_bytes.specs.Kinds.{kind_number}
use Rattle.packet.specs.Packets.{frame_length}
use Rattle.receiver.specs.declared.Event.{Event}
use Rattle.receiver.specs.Store.{store_length}
use Rattle.receiver.specs.Bytes.{event_number}
use Rattle.receiver.specs.Calls.{start_refused, receive_event}
use Rattle.runs.specs.Losses.{Sent, arriving}
use Rattle.runs.specs.Firmware.{Demultiplexer, tuned_to, heard, says_ready}
use Rattle.runs.specs.Demands.{RunOfCalls, frames_closed, whole, header_alone}

-- the kind of header that bonded carriers have, as calls take it
abbrev pub extended : ℕ
extended = kind_number Kind.Extended

-- ---- at the multiplexer

-- a carrier: the calls of its run, and of the frames that they closed its super frames, one after another, the frame behind them, and those
-- before and after. What the slots of the bonded stream carry in them, null packets or others, does not matter: they were filled so that
-- the headers give them its number, and the spread writes over them. At its other end a receiver, with its state and its store
pub record Carrier (pid : ℕ) : Type 0 where
  pub run : RunOfCalls pid extended
  pub earlier : List (List ℕ)
  pub supers : List (List (List ℕ))
  pub next : List ℕ
  pub later : List (List ℕ)
  pub closed : map (λ f. f.frame) (frames_closed run) ≡ earlier ++ (flatten supers ++ (next ∷ later))
  pub state : List ℕ
  pub store : List ℕ
  pub accepted : start_refused state pid extended ≡ 0
  pub store_long : length store ≡ store_length (slots_of Kind.Extended)

-- its super frame k
abbrev pub super_at : {pid : ℕ} → Carrier pid → ℕ → List (List ℕ)
super_at c k = get_or c.supers k []

-- group k that the caller lends to the spread: the carriers' super frames k, one behind another
unfoldable pub group_at : {pid : ℕ} → ℕ → List (Carrier pid) → List ℕ
group_at k [] = []
group_at k (c ∷ cs) = flatten (super_at c k) ++ group_at k cs

-- the first n frames of a buffer
unfoldable pub frames_from : ℕ → List ℕ → List (List ℕ)
frames_from zero bytes = []
frames_from (suc n) bytes = take (frame_length last_slot) bytes ∷ frames_from n (drop (frame_length last_slot) bytes)

-- the frames of a carrier with these super frames, one super frame after another, where `bytes k` starts with its part of group k
unfoldable pub frames_over : List (List (List ℕ)) → (ℕ → List ℕ) → List (List ℕ)
frames_over [] bytes = []
frames_over (s ∷ ss) bytes = frames_from (length s) (bytes 0) ++ frames_over ss (λ k. bytes (suc k))

-- what each carrier sends: its part of each group, and behind the last one the header of its next frame
unfoldable pub sent_by : {pid : ℕ} → List (Carrier pid) → (ℕ → List ℕ) → List (List Sent)
sent_by [] bytes = []
sent_by (c ∷ cs) bytes =
    (map (whole extended) (frames_over c.supers bytes) ++ (header_alone extended c.next ∷ []))
    ∷ sent_by cs (λ k. drop (frame_length last_slot * length (super_at c k)) (bytes k))

-- ---- at the receivers

-- whether the packet opened a frame, by the event that receive answers: it is then that frame's header
abbrev pub opens_frame : ℕ → Bool
opens_frame event =
    eqb event (event_number Event.Opened)
    || (eqb event (event_number Event.Ready) || (eqb event (event_number Event.Short) || eqb event (event_number Event.Jump)))

-- the frames of a caller who holds the packet that opened a frame and, when one becomes ready, takes the packet held and the store
-- behind it
unfoldable pub frames_kept : List ℕ → Demultiplexer → List (List ℕ) → List (List ℕ)
frames_kept held w [] = []
frames_kept held w (p ∷ ps) =
    cond (says_ready w p) ((held ++ (heard w p).store) ∷ []) []
    ++ frames_kept (cond (opens_frame (receive_event w.state p w.store)) p held) (heard w p) ps

-- the frames that each carrier's receiver, started once, brings of all that the carrier sent
unfoldable pub received : {pid : ℕ} → List (Carrier pid) → List (List Sent) → List (List (List ℕ))
received [] ss = []
received (c ∷ cs) [] = []
received {pid} (c ∷ cs) (s ∷ ss) = frames_kept [] (tuned_to c.state pid extended c.store) (arriving s) ∷ received cs ss

-- of the frames of a carrier with these super frames those of super frame k
unfoldable pub cut_at : List (List (List ℕ)) → ℕ → List (List ℕ) → List (List ℕ)
cut_at [] k frames = []
cut_at (s ∷ ss) zero frames = take (length s) frames
cut_at (s ∷ ss) (suc k) frames = cut_at ss k (drop (length s) frames)

-- group k that the caller lends to the gather: of each carrier's frames those of super frame k, one carrier behind another
unfoldable pub group_again : {pid : ℕ} → ℕ → List (Carrier pid) → List (List (List ℕ)) → List ℕ
group_again k [] rs = []
group_again k (c ∷ cs) [] = []
group_again k (c ∷ cs) (frames ∷ rs) = flatten (cut_at c.supers k frames) ++ group_again k cs rs
