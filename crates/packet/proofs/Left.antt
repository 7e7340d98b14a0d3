-- What is left of a stream. Assumes nothing.
use Prim.Native.Nat.{ℕ, ◌-◌, ◌*◌, ◌/◌, ◌<◌}
use mathlib.Core.Path.{◌≡◌, sym, ap, ◌∙◌}
use mathlib.Core.List.{List}
use native.Mathlib.Omega.{arith}
use lib.ListN.{length, take, drop, length-drop, drop_of_length-le}
use lib.Seq.{take-length}
use Rattle.packet.specs.Packets.{packet_length, rest_of}

-- a part that goes on to the end
pub to_end : (k : ℕ) (l : List ℕ) → take (length l - k) (drop k l) ≡ drop k l
to_end k l = ap (λ (n : ℕ). take n (drop k l)) (sym (length-drop k l)) ∙ take-length (drop k l)

-- of a stream that has not so many packets nothing is left
pub over : (placed : ℕ) (l : List ℕ) → length l / packet_length < placed → drop (length l) l ≡ rest_of l placed
unfolding rest_of
over placed l h =
    drop_of_length-le l {i = length l} (omega arith) ∙ sym (drop_of_length-le l {i = packet_length * placed} (omega arith))
