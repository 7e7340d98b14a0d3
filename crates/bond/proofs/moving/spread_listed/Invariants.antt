-- `spread_listed` meets its contract: k packets of the stream were written. Assumes nothing.
use mathlib.Core.Path.{◌≡◌}
use lib.ListN.{take}
use Rattle.bond.specs.Bonding.{spread_over}
use Rattle.bond.proofs.moving.spread_listed.Given as goal

abbrev pub invariant-loop-k : goal.invariant-loop-k
invariant-loop-k l = l.group ≡ spread_over (take l.k l.list) l.stream l.initial.group
