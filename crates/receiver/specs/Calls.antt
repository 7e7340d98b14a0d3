-- What each call answers, and what it leaves in the caller's bytes.
use Rattle.std.specs.Prelude.{ℕ, cond, not, List, [], ◌∷◌, eqb, length}
use Rattle.setting.specs.Refusal.{first_of, of_length, leaves}
use Rattle.setting.specs.Rules.{pid_allowed}
use Rattle.setting_bytes.specs.Kinds.{is_kind, kind_of}
use Rattle.receiver.specs.declared.Event.{Event}
use Rattle.receiver.specs.Bytes.{Told}
use Rattle.receiver.specs.Receiving.{waiting, receiver_checks, receive_of, receive_store, hand_out_of, hand_out_buffer}
use Rattle.receiver.specs.Bytes.{receiver_length, receiver_bytes, receiver_of, told}

-- start: 1, 2, and 17 for a number that is no kind
unfoldable pub start_refused : List ℕ → ℕ → ℕ → ℕ
start_refused state pid kind =
    first_of ((1, not (eqb (length state) receiver_length)) ∷ (2, not (pid_allowed pid)) ∷ (17, not (is_kind kind)) ∷ [])

unfoldable pub start_state : List ℕ → ℕ → ℕ → List ℕ
start_state state pid kind = leaves (start_refused state pid kind) (receiver_bytes (waiting (kind_of kind) pid)) state

-- 1 for a state of another length, else this refusal
unfoldable pub lent_refusal : List ℕ → ℕ → ℕ
lent_refusal state refusal = of_length receiver_length (length state) refusal

-- what every call checks of a state: its length, its PID and its numbers
unfoldable pub state_refused : List ℕ → ℕ
state_refused state = lent_refusal state (first_of (receiver_checks (receiver_of state)))

-- receive: 1 for a state of another length, else what receiving the packet in the coded state answers and leaves
unfoldable pub receive_refused : List ℕ → List ℕ → List ℕ → ℕ
receive_refused state p store = lent_refusal state (receive_of (receiver_of state) p (length store)).refusal

-- what the packet did; nothing, and remainder 0, if the call is refused
unfoldable pub receive_told : List ℕ → List ℕ → List ℕ → Told
receive_told state p store =
    told (cond (eqb (length state) receiver_length) (receive_of (receiver_of state) p (length store)).event Event.Nothing)

-- the event's number, and the remainder
abbrev pub receive_event : List ℕ → List ℕ → List ℕ → ℕ
receive_event state p store = (receive_told state p store).event

abbrev pub receive_remainder : List ℕ → List ℕ → List ℕ → ℕ
receive_remainder state p store = (receive_told state p store).remainder

unfoldable pub receive_state : List ℕ → List ℕ → List ℕ → List ℕ
receive_state state p store =
    leaves (receive_refused state p store) (receiver_bytes (receive_of (receiver_of state) p (length store)).state) state

unfoldable pub receive_memory : List ℕ → List ℕ → List ℕ → List ℕ
receive_memory state p store = cond (eqb (length state) receiver_length) (receive_store (receiver_of state) p store) store

-- hand out: 1 for a state of another length, else what handing out from the coded state answers and leaves
unfoldable pub hand_out_refused : List ℕ → ℕ → List ℕ → List ℕ → ℕ
hand_out_refused state r store out = lent_refusal state (hand_out_of (receiver_of state) r (length store) (length out)).refusal

unfoldable pub hand_out_packets : List ℕ → ℕ → List ℕ → List ℕ → ℕ
hand_out_packets state r store out =
    cond (eqb (length state) receiver_length) (hand_out_of (receiver_of state) r (length store) (length out)).packets 0

unfoldable pub hand_out_memory : List ℕ → ℕ → List ℕ → List ℕ → List ℕ
hand_out_memory state r store out =
    cond (eqb (length state) receiver_length) (hand_out_buffer (receiver_of state) r store out) out
