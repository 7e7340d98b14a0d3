-- The receiver: what each call answers, and what it leaves.
use Rattle.std.specs.Prelude.{ℕ, ◌*◌, cond, not, List, [], ◌∷◌, ◌++◌, ltb, eqb, length, replicate}
use Rattle.slices.specs.Slices.{over}
use Rattle.setting.specs.declared.Kind.{Kind}
use Rattle.counters.specs.Counters.{first_stream, last_slot, within}
use Rattle.setting.specs.Refusal.{Check, first_of, leaves}
use Rattle.setting.specs.Rules.{pid_allowed, number_checks}
use Rattle.setting.specs.Size.{size_of, slots_of, streams_of}
use Rattle.header_layout.specs.Header.{reading}
use Rattle.packet.specs.Packets.{packet_length}
use Rattle.receiver.specs.declared.Stage.{Stage}
use Rattle.receiver.specs.declared.Event.{Event}
use Rattle.receiver.specs.declared.Row.{Row}
use Rattle.receiver.specs.Store.{store_length, numbered, slots_for}
use Rattle.receiver.specs.Table.{Sort, good, broken, other, row_of, stage_checks, is_ready}
use Rattle.receiver.specs.Arriving.{sort_of, store_after}

-- ---- the state, and what the calls answer

-- the slots' numbers are those of the open frame's header, and those of the header before it
pub record Receiver : Type 0 where
  pub pid : ℕ
  pub kind : Kind
  pub stage : Stage
  pub numbers : List ℕ
  pub before : List ℕ

-- refusal 0 and the state, or the refusal's number and the fresh plain state of PID 0
pub record Started : Type 0 where
  pub refusal : ℕ
  pub state : Receiver

-- refusal 0, the event and the new state; or the refusal's number, the event Nothing and the state as it was
pub record Received : Type 0 where
  pub refusal : ℕ
  pub event : Event
  pub state : Receiver

-- a fresh receiver
unfoldable pub waiting : Kind → ℕ → Receiver
waiting kind pid =
    record { pid = pid; kind = kind; stage = Stage.Waiting; numbers = replicate last_slot 0; before = replicate last_slot 0 }

-- the state at another stage, and the state after a header that gives the slots these numbers
unfoldable pub moved : Receiver → Stage → Receiver
moved c stage = record { pid = c.pid; kind = c.kind; stage = stage; numbers = c.numbers; before = c.before }

unfoldable pub renumbered : Receiver → Stage → List ℕ → Receiver
renumbered c stage said = record { pid = c.pid; kind = c.kind; stage = stage; numbers = said; before = c.numbers }

unfoldable pub receiver_after : Receiver → Sort → Stage → List ℕ → Receiver
receiver_after c good stage said = renumbered c stage said
receiver_after c (broken remainder) stage said = moved c stage
receiver_after c other stage said = moved c stage

-- ---- the checks, in the table's order

-- 2 and 17: a state's PID and numbers
unfoldable pub receiver_checks : Receiver → List Check
receiver_checks c =
    (2, not (pid_allowed c.pid))
    ∷ (stage_checks (slots_of c.kind) c.stage
    ++ (number_checks (size_of c.kind) c.numbers ++ number_checks (size_of c.kind) c.before))

unfoldable pub receive_refusal : Receiver → ℕ → ℕ → ℕ
receive_refusal c packet store =
    first_of ((1, not (eqb packet packet_length)) ∷ (1, not (eqb store (store_length (slots_of c.kind)))) ∷ receiver_checks c)

unfoldable pub hand_out_refusal : Receiver → ℕ → ℕ → ℕ → ℕ
hand_out_refusal c r store out =
    first_of ((1, not (eqb store (store_length (slots_of c.kind))))
    ∷ (receiver_checks c
    ++ ((17, not (within first_stream (streams_of c.kind) r))
    ∷ (16, not (is_ready c.stage))
    ∷ (15, ltb out (packet_length * slots_for r c.before))
    ∷ [])))

-- ---- the calls

-- a refused start gives the fresh plain state of PID 0
unfoldable pub start_of : Kind → ℕ → Started
start_of kind pid =
    record {
      refusal = first_of ((2, not (pid_allowed pid)) ∷ []);
      state = cond (pid_allowed pid) (waiting kind pid) (waiting Kind.Plain 0);
    }

-- the row of the table that applies to a packet
unfoldable pub row_for : Receiver → List ℕ → Row
row_for c p = row_of (slots_of c.kind) c.stage (sort_of c.kind c.pid p) (reading c.kind p).continuity_counter

unfoldable pub receive_of : Receiver → List ℕ → ℕ → Received
receive_of c p store =
    cond (eqb (receive_refusal c (length p) store) 0)
    (record {
      refusal = 0;
      event = (row_for c p).event;
      state = receiver_after c (sort_of c.kind c.pid p) (row_for c p).stage (reading c.kind p).relative_ts_number;
    })
    (record { refusal = receive_refusal c (length p) store; event = Event.Nothing; state = c })

unfoldable pub receive_store : Receiver → List ℕ → List ℕ → List ℕ
receive_store c p store =
    leaves (receive_refusal c (length p) (length store)) (store_after (slots_of c.kind) c.stage (sort_of c.kind c.pid p) p store) store

-- what a hand out answers on paper: refusal 0 and how many packets, or the refusal's number and 0
pub record HandedOut : Type 0 where
  pub refusal : ℕ
  pub packets : ℕ

-- how many packets of the ready frame have number r
unfoldable pub hand_out_of : Receiver → ℕ → ℕ → ℕ → HandedOut
hand_out_of c r store out =
    record {
      refusal = hand_out_refusal c r store out;
      packets = cond (eqb (hand_out_refusal c r store out) 0) (slots_for r c.before) 0;
    }

-- they go to the front of the output buffer, in slot order
unfoldable pub hand_out_buffer : Receiver → ℕ → List ℕ → List ℕ → List ℕ
hand_out_buffer c r store out =
    leaves (hand_out_refusal c r (length store) (length out)) (over 0 (numbered r c.before store) out) out
