-- `clear` meets its contract: the slots before slot i are cleared. Assumes nothing.
use Prim.Native.Nat.{◌+◌, ◌-◌, ◌*◌}
use Rattle.slices.proofs.Toward.{Toward}
use Rattle.packet.specs.Packets.{packet_length}
use Rattle.composer.specs.Slots.{nulls, cleared}
use Rattle.composer_begin.proofs.slots.clear.Given as goal

abbrev pub invariant-loop-i : goal.invariant-loop-i
invariant-loop-i l = Toward (cleared l.slots l.initial.frame) l.initial.frame l.frame (nulls (l.slots + 1 - l.i)) (packet_length * l.i)
