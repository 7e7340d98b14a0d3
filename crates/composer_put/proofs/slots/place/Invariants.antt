-- `place` meets its contract: of the slots and of the stream that part is left which was not placed yet. Assumes nothing.
use Prim.Native.Nat.{ℕ, ◌≤◌}
use mathlib.Core.Path.{◌≡◌}
use mathlib.Core.Bool.{Bool}
use mathlib.Core.List.{List, map}
use lib.ListN.{length, drop}
use Rattle.counters.specs.Counters.{last_slot}
use Rattle.composer.specs.States.{mark_byte, marks_of}
use Rattle.slot_bits.specs.Bits.{slots_as_bits}
use Rattle.composer_put.proofs.Placing.{Placing}
use Rattle.composer_put.proofs.slots.place.Given as goal

-- a set of slots of which these are the bits, and how far the placing is
abbrev Of : ℕ → List ℕ → List ℕ → List ℕ → List ℕ → List ℕ → List ℕ → ℕ → Type 0
Of slots stream frame₀ filled₀ frame filled now rest =
    (empty : List Bool) × (length empty ≡ last_slot) × (slots ≡ slots_as_bits empty) × Placing empty stream frame₀ filled₀ frame filled now rest

abbrev pub invariant-loop-rest : goal.invariant-loop-rest
invariant-loop-rest l =
    (l.at ≤ length l.stream) × (map mark_byte (marks_of l.filled) ≡ l.filled) × (l.rest ≤ l.slots)
    × Of l.slots l.stream l.initial.frame l.initial.filled l.frame l.filled (drop l.at l.stream) l.rest

abbrev pub decreases-loop-rest : goal.decreases-loop-rest
decreases-loop-rest l = l.rest
