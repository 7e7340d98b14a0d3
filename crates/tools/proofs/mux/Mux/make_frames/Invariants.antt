-- `make_frames` is safe: the frame keeps its length. Assumes nothing.
use Rattle.std.proofs.Common.{◌≤◌, length}
use Rattle.packet.specs.Packets.{packet_length}
use Rattle.tools.proofs.mux.Mux.make_frames.Given as goal

abbrev pub invariant-loop-made : goal.invariant-loop-made
invariant-loop-made l = packet_length ≤ length l.frame
