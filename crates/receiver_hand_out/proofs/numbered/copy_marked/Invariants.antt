-- `copy_marked` meets its contract: so many of the sixteen slots were gone through, and the marks are those of the others. Assumes nothing.
use Prim.Native.Nat.{ℕ, ◌*◌, ◌≤◌}
use mathlib.Core.Path.{◌≡◌}
use lib.ListN.{length, drop}
use Rattle.packet.specs.Packets.{packet_length}
use Rattle.receiver_hand_out.specs.Halves.{halves_of}
use Rattle.receiver_hand_out.proofs.Handing.{HandingOut}
use Rattle.receiver_hand_out.proofs.Joined.{joined}
use Rattle.receiver_hand_out.proofs.numbered.copy_marked.Given as goal

abbrev pub invariant-loop-rest : goal.invariant-loop-rest
invariant-loop-rest l =
    (i : ℕ) × (l.at ≤ length l.initial.out)
    × HandingOut 8 (halves_of l.fn.marks.word) (drop (packet_length * l.first) l.store) l.initial.out l.from l.out i l.at
    × (l.rest ≡ joined 4 (drop i (halves_of l.fn.marks.word)))

abbrev pub decreases-loop-rest : goal.decreases-loop-rest
decreases-loop-rest l = l.rest
