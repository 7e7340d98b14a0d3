-- `slots_as_bits` meets its contract: the bits of the first i slots are there. Assumes nothing.
use mathlib.Core.Path.{◌≡◌}
use lib.ListN.{length}
use Rattle.slot_bits.proofs.Bytes.{Filling}
use Rattle.slot_bits.proofs.slots_as_bits.Given as goal

abbrev pub invariant-loop-i : goal.invariant-loop-i
invariant-loop-i l = (length l.bits ≡ 56) × Filling l.marks l.bits l.i
