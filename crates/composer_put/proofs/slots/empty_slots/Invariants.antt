-- `empty_slots` meets its contract: the slots before slot i + 1 are marked. Assumes nothing.
use Rattle.composer.specs.Slots.{empty_for}
use Rattle.composer.specs.States.{marks_of}
use Rattle.slot_bits.proofs.Marking.{Marking}
use Rattle.composer_put.proofs.slots.empty_slots.Given as goal

abbrev pub invariant-loop-i : goal.invariant-loop-i
invariant-loop-i l = Marking (empty_for l.r.0 l.plan (marks_of l.filled)) l.mark-items l.i
