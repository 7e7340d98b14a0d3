-- `marks_of` meets its contract: the slots before slot i + 1 are marked. Assumes nothing.
use Rattle.counters.specs.Counters.{first_slot, last_slot}
use Rattle.slot_bits.proofs.Marking.{Marking}
use Rattle.bond_group.specs.Group.{has_number}
use Rattle.bond_group.specs.Plan.{passing}
use Rattle.bond_group.proofs.headers.marks_of.Given as goal

abbrev pub invariant-loop-i : goal.invariant-loop-i
invariant-loop-i l = Marking (passing (has_number l.numbers l.r.0) first_slot last_slot) l.mark-items l.i
