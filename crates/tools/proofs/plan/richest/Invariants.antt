-- `richest` is safe: what it found so far is a share. Assumes nothing.
use Rattle.std.proofs.Common.{◌<◌, length}
use Rattle.tools.proofs.plan.richest.Given as goal

abbrev pub invariant-loop-r : goal.invariant-loop-r
invariant-loop-r l = l.best < length l.credits
