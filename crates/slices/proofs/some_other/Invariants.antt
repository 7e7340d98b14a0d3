-- `some_other` meets its contract: after some turns `other` says whether one of the elements so far is not v. Assumes nothing.
use Rattle.std.proofs.Common.{◌≡◌, length, replicate}
use Rattle.slices.specs.Slices.{any_below}
use Rattle.slices.proofs.Differing.{unequal}
use Rattle.slices.proofs.some_other.Given as goal

abbrev pub invariant-loop-x : goal.invariant-loop-x
invariant-loop-x l = any_below l.x-index (unequal l.xs (replicate (length l.xs) l.v)) ≡ l.other
