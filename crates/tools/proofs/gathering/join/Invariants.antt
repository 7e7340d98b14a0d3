-- `join` stays within the group: no carrier has more than four frames. Assumes nothing.
use Rattle.std.proofs.Common.{◌*◌, ◌≤◌}
use Rattle.counters.specs.Counters.{last_position, last_slot}
use Rattle.packet.specs.Packets.{frame_length}
use Rattle.tools.proofs.gathering.join.Given as goal

abbrev pub invariant-loop-c : goal.invariant-loop-c
invariant-loop-c l = l.end ≤ frame_length last_slot * last_position * l.c
