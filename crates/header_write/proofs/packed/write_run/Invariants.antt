-- `write_run` meets its contract: after i turns the first i values are packed. Assumes nothing.
use Prim.Native.Nat.{◌<◌}
use Rattle.header_layout.proofs.Runs.{Packed}
use Rattle.header_write.proofs.packed.write_run.Given as goal

abbrev pub invariant-loop-value : goal.invariant-loop-value
invariant-loop-value l =
    (l.bits < 8) × Packed l.part l.values l.width l.held l.bits l.at l.value-index
