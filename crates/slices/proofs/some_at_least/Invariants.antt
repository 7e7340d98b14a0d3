-- `some_at_least` meets its contract: the largest of the elements so far tells whether one is `limit` or more. Assumes nothing.
use Rattle.std.proofs.Common.{◌≡◌, get_or, leb}
use Rattle.slices.specs.Slices.{any_below}
use Rattle.slices.proofs.some_at_least.Given as goal

abbrev pub invariant-loop-x : goal.invariant-loop-x
invariant-loop-x l = any_below l.x-index (λ k. leb l.limit (get_or l.xs k 0)) ≡ leb l.limit l.most
