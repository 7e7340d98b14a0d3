-- `has_unfit` meets its contract: a packet is unfit only behind those that were looked at. Assumes nothing.
use mathlib.Core.Path.{◌≡◌}
use Rattle.std.specs.Slice.Iter.{chunks_exact_rest, chunks_exact_size}
use Rattle.packet.specs.Packets.{packet_length, some_unfit_in}
use Rattle.packet.proofs.has_unfit.Given as goal

abbrev pub invariant-loop-packet : goal.invariant-loop-packet
invariant-loop-packet l = record {
  size : chunks_exact_size l.packet-iterator ≡ packet_length;
  behind : some_unfit_in l.pid l.stream ≡ some_unfit_in l.pid (chunks_exact_rest l.packet-iterator);
}
