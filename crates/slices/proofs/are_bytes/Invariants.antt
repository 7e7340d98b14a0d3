-- `are_bytes` meets its contract: each of the elements before `at` was read, and is a byte. Assumes nothing.
use Rattle.std.proofs.Common.{◌≡◌, false, get_or, leb}
use Rattle.slices.specs.Slices.{any_below}
use Rattle.slices.proofs.are_bytes.Given as goal

abbrev pub invariant-loop-at : goal.invariant-loop-at
invariant-loop-at l = any_below l.at (λ k. leb 256 (get_or l.xs k 0)) ≡ false
