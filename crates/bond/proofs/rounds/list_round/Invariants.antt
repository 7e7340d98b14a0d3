-- `list_round` meets its contract: e of the entries were gone through. Assumes nothing.
use lib.ListN.{length}
use Rattle.bond.proofs.ByRound.{Going}
use Rattle.bond.proofs.rounds.list_round.Given as goal

abbrev pub invariant-loop-note : goal.invariant-loop-note
invariant-loop-note l = Going l.slots l.notes l.initial.list l.round (length l.notes) l.list l.n l.note-index
