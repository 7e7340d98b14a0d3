-- What each slot in turn does to null packets in all of them. Assumes nothing.
use Prim.Native.Nat.{ℕ, suc, ◌+◌, ◌-◌, ◌≤◌}
use mathlib.Core.Path.{◌≡◌, ap}
use mathlib.Core.List.{List, ◌++◌}
use native.Mathlib.Omega.{arith}
use lib.ListN.{length, drop, drop_of_length-le}
use Rattle.packet.specs.Packets.{null_packet}
use Rattle.composer.specs.Slots.{nulls}

-- null packets from slot i on, of so many slots, and behind the last
pub nulls-from : (slots i : ℕ) → i ≤ slots → nulls (slots + 1 - i) ≡ null_packet ++ nulls (slots + 1 - (i + 1))
unfolding nulls
nulls-from slots i h =
    let more : slots + 1 - i ≡ suc (slots + 1 - (i + 1)) = omega arith in
    ap nulls more

pub nulls_none : (l : List ℕ) (i n : ℕ) → length l ≤ i → n ≡ 0 → drop i l ≡ nulls n
unfolding nulls
nulls_none l i n h e = rw e (drop_of_length-le l h)
