-- `copy_long` meets its contract: after k turns the first 16 * k elements of `src` stand over the front of `dst`, and the last sixteen are put
-- over its end. Assumes nothing.
use Rattle.std.proofs.Common.{◌*◌, take}
use Rattle.slices.proofs.Front.{Front}
use Rattle.slices.proofs.copy_long.Given as goal

abbrev pub invariant-loop-k : goal.invariant-loop-k
invariant-loop-k l = Front l.initial.dst (take (16 * l.k) l.src) l.dst (16 * l.k)
