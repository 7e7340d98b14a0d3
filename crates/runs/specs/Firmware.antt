-- What firmware does with the calls: one after another, each given the bytes that the last one left.
use Rattle.std.specs.Prelude.{ℕ, suc, ◌+◌, ◌*◌, ◌≤◌, ◌≡◌, Bool, true, cond, List, [], ◌∷◌, ◌++◌, eqb, length, take}
use Rattle.bits.specs.Fields.{Fit}
use Rattle.packet.specs.Packets.{packet_length}
use Rattle.composer.specs.Calls.{start_state, begin_refused, begin_state, begin_memory, put_refused, put_placed, put_state, put_memory, close_refused, close_state, close_memory}
use Rattle.receiver.specs.declared.Event.{Event}
use Rattle.receiver.specs.Store.{slots_for}
use Rattle.receiver.specs.Bytes.{event_number, receiver_of}
use Rattle.receiver.specs.Calls.{start_state as receiver_start, receive_event, receive_state, receive_memory, hand_out_packets, hand_out_memory}

-- ---- at the multiplexer

-- a call behind the start, with what it lends. Begin lends a setting and a frame's buffer, put a stream and its number. Put and close
-- lend the buffer of the frame that was begun last, as the calls before left it
pub data FirmwareCall : Type 0 where
  begins : List ℕ → List ℕ → FirmwareCall
  puts : List ℕ → ℕ → FirmwareCall
  closes : FirmwareCall

-- what is lent as a setting is bytes, however many
abbrev pub OfBytes : FirmwareCall → Type 0
OfBytes (begins setting frame) = Fit 8 setting
OfBytes (puts stream r) = Unit {0}
OfBytes closes = Unit {0}

-- the composer's state, and the buffer of the frame that was begun last. Beside them what was placed in that frame: for each stream
-- number the packets, one behind the other, and the numbers that put answered, summed
pub record Multiplexer : Type 0 where
  pub state : List ℕ
  pub frame : List ℕ
  pub placed : ℕ → List ℕ
  pub count : ℕ → ℕ

-- behind `niranbok_composer_start`
unfoldable pub started_as : List ℕ → ℕ → ℕ → Multiplexer
started_as state pid kind = record { state = start_state state pid kind; frame = []; placed = λ n. []; count = λ n. 0 }

-- the number that `niranbok_composer_begin`, `_put` or `_close` answers
unfoldable pub answered : Multiplexer → FirmwareCall → ℕ
answered w (begins setting frame) = begin_refused w.state setting frame
answered w (puts stream r) = put_refused w.state r stream w.frame
answered w closes = close_refused w.state w.frame

-- what a put adds for its stream: the front of what it was lent, as many packets as it answers
abbrev pub put_front : Multiplexer → List ℕ → ℕ → List ℕ
put_front w stream r = take (packet_length * put_placed w.state r stream w.frame) stream

-- the multiplexer behind a call. A begin that is refused leaves the frame as it was
unfoldable pub after_call : Multiplexer → FirmwareCall → Multiplexer
after_call w (begins setting frame) =
    record {
      state = begin_state w.state setting frame;
      frame = cond (eqb (answered w (begins setting frame)) 0) (begin_memory w.state setting frame) w.frame;
      placed = cond (eqb (answered w (begins setting frame)) 0) (λ n. []) w.placed;
      count = cond (eqb (answered w (begins setting frame)) 0) (λ n. 0) w.count;
    }
after_call w (puts stream r) =
    record {
      state = put_state w.state r stream w.frame;
      frame = put_memory w.state r stream w.frame;
      placed = λ n. cond (eqb n r) (w.placed n ++ put_front w stream r) (w.placed n);
      count = λ n. cond (eqb n r) (w.count n + put_placed w.state r stream w.frame) (w.count n);
    }
after_call w closes =
    record { state = close_state w.state w.frame; frame = close_memory w.state w.frame; placed = w.placed; count = w.count }

unfoldable pub after_calls : Multiplexer → List FirmwareCall → Multiplexer
after_calls w [] = w
after_calls w (c ∷ cs) = after_calls (after_call w c) cs

-- a closed frame, with what was placed in it
pub record Closed : Type 0 where
  pub frame : List ℕ
  pub placed : ℕ → List ℕ
  pub count : ℕ → ℕ

-- the frame that a call closed, if it is a close and was not refused
unfoldable pub closed_in : Multiplexer → FirmwareCall → List Closed
closed_in w (begins setting frame) = []
closed_in w (puts stream r) = []
closed_in w closes =
    cond (eqb (answered w closes) 0)
    (record { frame = close_memory w.state w.frame; placed = w.placed; count = w.count } ∷ [])
    []

-- the frames that the calls closed, in order
unfoldable pub closed_frames : Multiplexer → List FirmwareCall → List Closed
closed_frames w [] = []
closed_frames w (c ∷ cs) = closed_in w c ++ closed_frames (after_call w c) cs

-- ---- at the receiver

-- the receiver's state, and its store
pub record Demultiplexer : Type 0 where
  pub state : List ℕ
  pub store : List ℕ

-- behind `niranbok_receiver_start`
unfoldable pub tuned_to : List ℕ → ℕ → ℕ → List ℕ → Demultiplexer
tuned_to state pid kind store = record { state = receiver_start state pid kind; store = store }

-- behind `niranbok_receiver_receive` of a packet, and of packets one after another
unfoldable pub heard : Demultiplexer → List ℕ → Demultiplexer
heard w p = record { state = receive_state w.state p w.store; store = receive_memory w.state p w.store }

unfoldable pub heard_all : Demultiplexer → List (List ℕ) → Demultiplexer
heard_all w [] = w
heard_all w (p ∷ ps) = heard_all (heard w p) ps

-- whether it answers that a frame became ready
abbrev pub says_ready : Demultiplexer → List ℕ → Bool
says_ready w p = eqb (receive_event w.state p w.store) (event_number Event.Ready)

-- what `niranbok_receiver_hand_out` gives for number r: the front of the lent buffer, as many packets as it answers
unfoldable pub given : ℕ → List ℕ → Demultiplexer → List ℕ
given r out w = take (packet_length * hand_out_packets w.state r w.store out) (hand_out_memory w.state r w.store out)

-- all that is given under number r, where it is asked for once at every frame that a packet made ready. The ask behind packet n lends
-- buffer n
unfoldable pub given_out : ℕ → (ℕ → List ℕ) → Demultiplexer → List (List ℕ) → List ℕ
given_out r buffers w [] = []
given_out r buffers w (p ∷ ps) =
    cond (says_ready w p) (given r (buffers 0) (heard w p)) [] ++ given_out r (λ n. buffers (suc n)) (heard w p) ps

-- how many bytes the ready frame's packets with number r take
abbrev pub ready_bytes : ℕ → Demultiplexer → ℕ
ready_bytes r w = packet_length * slots_for r (receiver_of w.state).before

-- 'with room': at every ask the buffer has room for that frame's packets with this number
unfoldable pub WithRoom : ℕ → (ℕ → List ℕ) → Demultiplexer → List (List ℕ) → Type 0
WithRoom r buffers w [] = Unit {0}
WithRoom r buffers w (p ∷ ps) =
    (says_ready w p ≡ true → ready_bytes r (heard w p) ≤ length (buffers 0)) × WithRoom r (λ n. buffers (suc n)) (heard w p) ps
