-- What is said of the calls over bytes, as statements. The proofs stand apart.
use Rattle.std.specs.Prelude.{ℕ, ◌≡◌, true, false, List, length}
use Rattle.setting.specs.Rules.{pid_allowed}
use Rattle.header_layout.specs.Header.{remainder_of}
use Rattle.header_check.specs.Checking.{read_refusal}
use Rattle.packet.specs.Packets.{packet_length}
use Rattle.setting_bytes.specs.Words.{word_at}
use Rattle.receiver.specs.declared.Event.{Event}
use Rattle.receiver.specs.Receiving.{Receiver, receive_of, receive_store, hand_out_of, hand_out_buffer}
use Rattle.setting.specs.Size.{slots_of}
use Rattle.receiver.specs.Store.{store_length}
use Rattle.receiver.specs.Bytes.{receiver_length, pid_at, receiver_bytes, receiver_of, Codable, is_coded, told, event_number}
use Rattle.receiver.specs.Calls.{receive_refused, receive_told, receive_event, receive_remainder, receive_state, receive_memory, hand_out_refused, hand_out_packets, hand_out_memory}

-- decoding what was encoded gives the value back
abbrev pub StateBack : Type 0
StateBack = (c : Receiver) → Codable c → receiver_of (receiver_bytes c) ≡ c

-- bytes with an allowed PID that code no state are refused with 17: by receive, whatever the packet is, and by hand out, whatever the
-- number and the buffer are
abbrev pub UncodedRefused : Type 0
UncodedRefused =
    (state store : List ℕ)
    → length state ≡ receiver_length
    → pid_allowed (word_at pid_at state) ≡ true
    → is_coded state ≡ false
    → length store ≡ store_length (slots_of (receiver_of state).kind)
    → ((p : List ℕ) → length p ≡ packet_length → receive_refused state p store ≡ 17)
    × ((r : ℕ) (out : List ℕ) → hand_out_refused state r store out ≡ 17)

-- On the bytes of a state, each call answers and leaves what the definition over the state says. So what is promised in terms of states
-- also holds of bytes.
pub record OnBytes (c : Receiver) : Type 0 where
  pub receives : (p store : List ℕ)
      → (receive_refused (receiver_bytes c) p store ≡ (receive_of c p (length store)).refusal)
      × ((receive_told (receiver_bytes c) p store ≡ told (receive_of c p (length store)).event)
      × ((receive_state (receiver_bytes c) p store ≡ receiver_bytes (receive_of c p (length store)).state)
      × (receive_memory (receiver_bytes c) p store ≡ receive_store c p store)))
  pub handing_out : (r : ℕ) (store out : List ℕ)
      → (hand_out_refused (receiver_bytes c) r store out ≡ (hand_out_of c r (length store) (length out)).refusal)
      × ((hand_out_packets (receiver_bytes c) r store out ≡ (hand_out_of c r (length store) (length out)).packets)
      × (hand_out_memory (receiver_bytes c) r store out ≡ hand_out_buffer c r store out))

-- And the new state is again one that bytes can code, so that the next call reads it back from the bytes.
abbrev pub CallsOnBytes : Type 0
CallsOnBytes = (c : Receiver) → Codable c → OnBytes c × ((p : List ℕ) (lent : ℕ) → Codable (receive_of c p lent).state)

-- whether a packet is answered by 'broken', and by which number the reader refuses it as a header of the state's kind and PID
abbrev pub Broke : List ℕ → List ℕ → List ℕ → Type 0
Broke state p store = receive_event state p store ≡ event_number (Event.Broken 0)

abbrev pub refusal_in : List ℕ → List ℕ → ℕ
refusal_in state p = read_refusal (receiver_of state).kind (receiver_of state).pid p

-- K6: 'in the receiver's table it travels beside "broken". There 0 stands for any other cause.' Beside 'broken' stands the remainder of a
-- header that the reader refuses by 7, and it is not 0; 0 stands beside 'broken' by any other refusal, and beside any other event
pub record Tells (state p store : List ℕ) : Type 0 where
  pub by_seven : Broke state p store → refusal_in state p ≡ 7 → (receive_remainder state p store ≡ remainder_of p) × (remainder_of p ≡ 0 → ⊥)
  pub by_other : Broke state p store → (refusal_in state p ≡ 7 → ⊥) → receive_remainder state p store ≡ 0
  pub beside_other : (Broke state p store → ⊥) → receive_remainder state p store ≡ 0

abbrev pub RemainderTold : Type 0
RemainderTold = (state p store : List ℕ) → Tells state p store
