-- `number_of` meets its contract: the bytes before a byte are added up. Assumes nothing.
use Prim.Native.Nat.{◌+◌, ◌*◌, ◌^◌, ◌≤◌}
use mathlib.Core.Path.{◌≡◌}
use lib.ListN.{drop}
use Rattle.slot_bits.specs.Bits.{in_bytes}
use Rattle.slot_bits.proofs.number_of.Given as goal

abbrev pub invariant-loop-byte : goal.invariant-loop-byte
invariant-loop-byte l =
    (l.number + 8 ≤ 8 * 2 ^ (8 * l.byte)) × (l.number + in_bytes (8 * l.byte) (drop (8 * l.byte) l.bits) ≡ in_bytes 0 l.bits)
