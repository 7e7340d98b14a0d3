-- `byte_of` meets its contract: the bits before i are added up. Assumes nothing.
use Prim.Native.Nat.{◌+◌, ◌*◌, ◌≤◌}
use mathlib.Core.Path.{◌≡◌}
use lib.ListN.{drop}
use Rattle.slot_bits.specs.Bits.{total}
use Rattle.slot_bits.proofs.byte_of.Given as goal

abbrev pub invariant-loop-bit : goal.invariant-loop-bit
invariant-loop-bit l = (l.sum ≤ 255 * l.bit-index) × (l.sum + total (drop l.bit-index l.bits) ≡ total l.bits)
