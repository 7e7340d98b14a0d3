-- `marks_of` meets its contract: the slots before slot i + 1 are marked. Assumes nothing.
use Prim.Native.Nat.{ℕ, ◌+◌, ◌-◌, ◌<◌}
use mathlib.Core.Path.{◌≡◌, ap, ◌∙◌}
use mathlib.Core.Bool.{Bool, false, not, ◌&&◌}
use mathlib.Core.List.{List}
use native.Mathlib.Omega.{arith}
use borrow.Author.Tests.{ne_eqb}
use lib.Dec.{eqb}
use lib.ListN.{length, get_or}
use Rattle.counters.specs.Counters.{first_slot, last_slot}
use Rattle.slot_bits.specs.Bits.{slots_as_bits}
use Rattle.slot_bits.proofs.Marking.{marking_more, marking_all}
use Rattle.bond_group.specs.Group.{has_number}
use Rattle.bond_group.specs.Plan.{passing}
use Rattle.bond_group.proofs.Marks.{length-passing, passing-at}
use Rattle.bond_group.proofs.headers.marks_of.Goals as goal

-- the marks that are made
abbrev made : List ℕ → ℕ → List Bool
made numbers r = passing (has_number numbers r) first_slot last_slot

made-long : (numbers : List ℕ) (r : ℕ) → length (made numbers r) ≡ last_slot
made-long numbers r = length-passing (has_number numbers r) first_slot last_slot

-- slot i + 1 as it is asked
asked : (numbers : List ℕ) (r i : ℕ) → i < last_slot → get_or (made numbers r) i false ≡ not (eqb r 0) && eqb (get_or numbers i 0) r
asked numbers r i inside =
    let no_header : first_slot + i ≡ 0 → ⊥ = λ e. omega arith in
    let index : first_slot + i - 1 ≡ i = omega arith in
    passing-at (has_number numbers r) first_slot last_slot i inside ∙ rw (ne_eqb (first_slot + i) 0 no_header, index)

pub loop-i-preserved : goal.loop-i-preserved
loop-i-preserved c =
    let a = c.args in
    let i = c.loop-i.i in
    marking_more _ (made-long a.numbers.now a.r.0) c.loop-i.invariant (omega arith) (asked a.numbers.now a.r.0 i (omega arith))

pub returns : goal.returns
returns c =
    let a = c.args in
    c.slots_as_bits.ensures ∙ ap slots_as_bits (marking_all _ (made-long a.numbers.now a.r.0) c.loop-i.invariant (omega arith))
