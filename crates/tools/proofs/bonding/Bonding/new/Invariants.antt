-- `new` stays within the group: each carrier's super frame does. Assumes nothing.
use Rattle.std.proofs.Common.{◌≤◌}
use Rattle.tools.specs.Sizes.{group_length}
use Rattle.tools.proofs.bonding.Bonding.new.Given as goal

abbrev pub invariant-loop-carrier : goal.invariant-loop-carrier
invariant-loop-carrier l = l.bytes ≤ group_length
