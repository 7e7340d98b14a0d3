-- The usual packet, which the call asks for first.
use Rattle.std.specs.Prelude.{ℕ, ◌<◌, ◌≡◌, false, List, length, get_or}
use Rattle.setting.specs.Size.{slots_of}
use Rattle.packet.specs.Packets.{unfit}
use Rattle.receiver.specs.Receiving.{receive_refusal}
use Rattle.receiver.specs.Bytes.{stage_at, stored_at, receiver_length, receiver_of}

-- nothing is refused, the packet may stand in a slot, and a frame is open and has room
pub record Usual (state packet : List ℕ) (store : ℕ) : Type 0 where
  pub whole : length state ≡ receiver_length
  pub granted : receive_refusal (receiver_of state) (length packet) store ≡ 0
  pub fits : unfit (receiver_of state).pid packet ≡ false
  pub opened : get_or state stage_at 0 ≡ 1
  pub room : get_or state stored_at 0 < slots_of (receiver_of state).kind
