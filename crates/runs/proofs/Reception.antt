-- A receiver as a value, packet by packet: what it stands at, and what it hands out. Assumes nothing.
use Prim.Native.Nat.{ℕ, ◌*◌}
use mathlib.Core.Bool.{cond}
use mathlib.Core.List.{List, [], ◌∷◌, ◌++◌}
use lib.ListN.{length, take}
use Rattle.setting.specs.declared.Kind.{Kind}
use Rattle.packet.specs.Packets.{packet_length}
use Rattle.receiver.specs.Table.{makes_ready}
use Rattle.receiver.specs.Receiving.{Receiver, waiting, receive_of, receive_store, hand_out_of, hand_out_buffer}

-- a receiver with its store
pub record Reception : Type 0 where
  pub state : Receiver
  pub store : List ℕ

abbrev pub fresh_with : Kind → ℕ → List ℕ → Reception
fresh_with kind pid store = record { state = waiting kind pid; store = store }

unfoldable pub after_packet : Reception → List ℕ → Reception
after_packet w p =
    record { state = (receive_of w.state p (length w.store)).state; store = receive_store w.state p w.store }

-- the bytes that hand out gives for number r, with this buffer
unfoldable pub handed : ℕ → List ℕ → Reception → List ℕ
handed r out w =
    take (packet_length * (hand_out_of w.state r (length w.store) (length out)).packets) (hand_out_buffer w.state r w.store out)

-- all that comes out under number r, where it is asked for once at every frame that a packet made ready
unfoldable pub handed_out : ℕ → List ℕ → Reception → List (List ℕ) → List ℕ
handed_out r out w [] = []
handed_out r out w (p ∷ ps) =
    cond (makes_ready (receive_of w.state p (length w.store)).event) (handed r out (after_packet w p)) []
    ++ handed_out r out (after_packet w p) ps
