-- `has_unplanned` meets its contract: it has found what is among the slots before this one. Assumes nothing.
use mathlib.Core.Path.{◌≡◌}
use mathlib.Core.Bool.{false, ◌&&◌}
use lib.Dec.{eqb}
use lib.ListN.{length, get_or}
use Rattle.slices.specs.Slices.{any_below}
use Rattle.composer.specs.States.{marks_of}
use Rattle.composer_checks.proofs.has_unplanned.Given as goal

abbrev pub invariant-loop-number : goal.invariant-loop-number
invariant-loop-number l = any_below (length l.yielded) (λ k. get_or (marks_of l.filled) k false && eqb (get_or l.plan k 0) 0) ≡ l.found
