-- `empty_slots` meets its contract: the slots before slot i + 1 are marked. Assumes nothing.
use Prim.Native.Nat.{ℕ, ◌<◌}
use mathlib.Core.Path.{◌≡◌, sym, ap, ◌∙◌}
use mathlib.Core.Bool.{Bool, false, not, ◌&&◌}
use mathlib.Core.List.{List}
use native.Mathlib.Omega.{arith}
use lib.Dec.{eqb}
use lib.ListN.{length, get_or, length-map}
use Rattle.counters.specs.Counters.{last_slot}
use Rattle.composer.specs.Slots.{empty_for}
use Rattle.composer.specs.States.{marks_of}
use Rattle.composer.proofs.Slots.{length-empty, empty-at}
use Rattle.composer.proofs.There.{mark_at}
use Rattle.slot_bits.specs.Bits.{slots_as_bits}
use Rattle.slot_bits.proofs.Marking.{marking_more, marking_all}
use Rattle.composer_put.proofs.slots.empty_slots.Goals as goal

module _ (r : ℕ) (plan filled : List ℕ) (planned : length plan ≡ last_slot) (marked : length filled ≡ last_slot) where
  -- the marks that are made
  abbrev made : List Bool
  made = empty_for r plan (marks_of filled)

  marks-long : length (marks_of filled) ≡ last_slot
  marks-long = length-map filled (λ (n : ℕ). eqb n 1) ∙ marked

  made-long : length made ≡ last_slot
  made-long = length-empty r plan (marks_of filled) (planned ∙ sym marks-long) ∙ planned

  -- slot i + 1 as it is asked
  asked : (i : ℕ) → i < last_slot → get_or made i false ≡ eqb (get_or plan i 0) r && not (eqb (get_or filled i 0) 1)
  asked i inside =
      empty-at r plan (marks_of filled) i (omega (arith, planned)) (omega (arith, marks-long))
      ∙ ap (λ (m : Bool). eqb (get_or plan i 0) r && not m) (mark_at filled i)

pub loop-i-preserved : goal.loop-i-preserved
loop-i-preserved c =
    let a = c.args in
    let i = c.loop-i.i in
    marking_more _ (made-long a.r.0 a.plan.now a.filled.now c.requires.0 c.requires.1) c.loop-i.invariant (omega arith) (asked a.r.0 a.plan.now a.filled.now c.requires.0 c.requires.1 i (omega arith))

pub returns : goal.returns
returns c =
    let a = c.args in
    c.slots_as_bits.ensures
    ∙ ap slots_as_bits (marking_all _ (made-long a.r.0 a.plan.now a.filled.now c.requires.0 c.requires.1) c.loop-i.invariant (omega arith))
