-- `note_twelfth` meets its contract: of the twelfth's carriers as many were gone through. Assumes nothing.
use Prim.Native.Nat.{◌+◌, ◌*◌}
use mathlib.Core.Path.{◌≡◌}
use Rattle.counters.specs.Counters.{last_carrier}
use Rattle.bond_places.specs.Walk.{frames_before}
use Rattle.bond.specs.Listing.{Noted}
use Rattle.bond.proofs.rounds.note_twelfth.Given as goal

abbrev pub invariant-loop-count : goal.invariant-loop-count
invariant-loop-count l =
    Noted l.plan.carriers l.plan.frames.now l.notes l.n (last_carrier * l.twelfth + l.count-index) × (l.frame ≡ frames_before l.plan.frames.now l.count-index)
