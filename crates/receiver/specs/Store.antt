-- The receiver's store: the packets of all slots but the header's, and those with one number.
use Rattle.std.specs.Prelude.{ℕ, ◌+◌, ◌*◌, ◌≤◌, ◌≡◌, true, cond, List, [], ◌∷◌, ◌++◌, eqb, length, take, drop}
use Rattle.packet.specs.Packets.{packet_length}

-- a packet for each of so many slots
abbrev pub store_length : ℕ → ℕ
store_length slots = packet_length * slots

-- the packets with number r, in slot order
unfoldable pub numbered : ℕ → List ℕ → List ℕ → List ℕ
numbered r [] bytes = []
numbered r (n ∷ ns) bytes =
    cond (eqb n r) (take packet_length bytes ++ numbered r ns (drop packet_length bytes)) (numbered r ns (drop packet_length bytes))

-- how many slots have number r
unfoldable pub slots_for : ℕ → List ℕ → ℕ
slots_for r [] = 0
slots_for r (n ∷ ns) = cond (eqb n r) 1 0 + slots_for r ns

-- the bytes have a packet for each slot with number r
pub data HasPackets (r : ℕ) : List ℕ → List ℕ → Type 0 where
  none : {bytes : List ℕ} → HasPackets r [] bytes
  more : {n : ℕ} {ns bytes : List ℕ} → (eqb n r ≡ true → packet_length ≤ length bytes) → HasPackets r ns (drop packet_length bytes)
      → HasPackets r (n ∷ ns) bytes
