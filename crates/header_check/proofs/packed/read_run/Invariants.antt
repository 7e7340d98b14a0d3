-- `read_run` meets its contract: after i turns the first i values are cut. Assumes nothing.
use Prim.Native.Nat.{◌<◌}
use Rattle.header_layout.proofs.Runs.{Taken}
use Rattle.header_check.proofs.packed.read_run.Given as goal

abbrev pub invariant-loop-value : goal.invariant-loop-value
invariant-loop-value l =
    (l.bits < 8) × Taken l.values l.part l.width l.held l.bits l.at l.value-index
