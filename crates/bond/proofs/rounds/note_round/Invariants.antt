-- `note_round` meets its contract: the places at the twelfths before this one are noted. Assumes nothing.
use Prim.Native.Nat.{◌*◌}
use Rattle.counters.specs.Counters.{last_carrier}
use Rattle.bond.specs.Listing.{Noted}
use Rattle.bond.proofs.rounds.note_round.Given as goal

abbrev pub invariant-loop-twelfth : goal.invariant-loop-twelfth
invariant-loop-twelfth l = Noted l.plan.carriers l.plan.frames.now l.notes l.noted (last_carrier * l.twelfth)
