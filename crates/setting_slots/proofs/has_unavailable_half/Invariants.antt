-- `has_unavailable_half` meets its contract: it has found what is among the halves of the bytes before byte i. Assumes nothing.
use Prim.Native.Nat.{◌*◌}
use mathlib.Core.Path.{◌≡◌}
use lib.ListN.{get_or}
use Rattle.bits.proofs.Halves.{halves}
use Rattle.slices.specs.Slices.{any_below}
use Rattle.setting.specs.Rules.{unavailable}
use Rattle.setting_slots.proofs.has_unavailable_half.Given as goal

abbrev pub invariant-loop-byte : goal.invariant-loop-byte
invariant-loop-byte l =
    (any_below (2 * l.byte-index) (λ k. unavailable l.availability (get_or (halves l.bytes) k 0)) ≡ l.found)
