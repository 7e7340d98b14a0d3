-- `gather_listed` meets its contract: k packets were copied. Assumes nothing.
use mathlib.Core.Path.{◌≡◌}
use lib.ListN.{take}
use Rattle.slices.specs.Slices.{copied}
use Rattle.bond.specs.Bonding.{gathered}
use Rattle.bond.proofs.moving.gather_listed.Given as goal

abbrev pub invariant-loop-k : goal.invariant-loop-k
invariant-loop-k l = l.out ≡ copied l.initial.out (gathered (take l.k l.list) l.group)
