-- `read_halves` meets its contract: after k turns the first 2 * k values are those of the first k bytes. Assumes nothing.
use Rattle.header_layout.proofs.Halves.{Halved}
use Rattle.header_check.proofs.parts.read_halves.Given as goal

abbrev pub invariant-loop-k : goal.invariant-loop-k
invariant-loop-k l = Halved l.values l.part l.k
