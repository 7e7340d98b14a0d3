-- `spread_over` meets its contract: the packets of the rounds before this one were written. Assumes nothing.
use mathlib.Core.Path.{◌≡◌}
use lib.ListN.{take}
use Rattle.bond.specs.Bonding.{spread_over}
use Rattle.bond.specs.Listing.{places_from}
use Rattle.bond.proofs.Moves.{Rounds}
use Rattle.bond.proofs.moving.spread_over.Given as goal

abbrev pub invariant-loop-round : goal.invariant-loop-round
invariant-loop-round l =
    Rounds l.plan.carriers l.plan.frames.now l.plan.slots.now l.list l.moved l.round
    × (l.group ≡ spread_over (take l.moved (places_from l.plan.carriers l.plan.frames.now l.plan.slots.now 0)) l.stream l.initial.group)
