-- `gather_over` meets its contract: the packets of the rounds before this one were copied. Assumes nothing.
use Prim.Native.Nat.{ℕ, ◌+◌, ◌-◌, ◌*◌}
use mathlib.Core.Path.{refl, ap, ◌∙◌}
use mathlib.Core.List.{List}
use native.Mathlib.Omega.{arith}
use lib.ListN.{take, length-take}
use Rattle.slices.specs.Slices.{copied}
use Rattle.bond.specs.Bonding.{gathered}
use Rattle.bond.specs.Listing.{round_steps, places_from}
use Rattle.bond.proofs.ByRound.{front_few}
use Rattle.bond.proofs.Moves.{Turn, turn_few, turn_within, gather_none, part-long, gather_part, rounds_none, rounds_turn, rounds_more, rounds_all}
use Rattle.bond.proofs.moving.gather_over.Goals as goal
use Rattle.bond.proofs.moving.gather_over.Goals.{After-list_round-n}

-- what a round lists
these : (c : After-list_round-n)
    → Turn (places_from c.args.plan.carriers c.args.plan.frames.now c.args.plan.slots.now 0)
    c.loop-round.moved c.list_round-n.result (take (c.list_round-n.result - 0) c.list_round-n.new.list)
    (places_from c.args.plan.carriers c.args.plan.frames.now c.args.plan.slots.now (round_steps * (c.loop-round.round + 1)))
these c =
    let e = c.list_round-n.ensures in
    rounds_turn c.requires.listable c.loop-round.invariant.0 c.list_round-n.new.list c.list_round-n.result c.note_round-noted.ensures
    c.loop-round-test.true e.list_after e.value

pub loop-round-init : goal.loop-round-init
loop-round-init c = (rounds_none _ _ _ refl, gather_none c.args.group.now c.args.out.now)

pub list_round-n-requires : goal.list_round-n-requires
list_round-n-requires c =
    let p = c.requires.listable in
    let n = c.note_round-noted.ensures in
    let room = c.loop-round.invariant.0.room in
    record {
      notes_bound = (omega (arith, n.few, length-take c.note_round-noted.result c.note_round-noted.new.notes), p.long);
      by_index = front_few _ _ _ p n c.loop-round.round c.loop-round-test.true;
      round_steps_in_bounds = omega arith;
    }

pub slice_bounds-gather_listed-end : goal.slice_bounds-gather_listed-end
slice_bounds-gather_listed-end c = let few = turn_few (these (goal.at.slice_bounds-gather_listed-end c).After-list_round-n) in omega arith

pub gather_listed-requires : goal.gather_listed-requires
gather_listed-requires c =
    let t = these (goal.at.gather_listed-requires c).After-list_round-n in
    record {
      list_in_bounds = omega (arith, part-long t c.loop-round.out (rw c.loop-round.auto.out c.requires.slots_in_bounds));
      within = turn_within t c.args.group.now c.requires.within;
    }

pub loop-round-preserved : goal.loop-round-preserved
loop-round-preserved c =
    let a = c.args in
    let i = c.loop-round.invariant in
    let t = these (goal.at.loop-round-preserved c).After-list_round-n in
    (rounds_more c.requires.listable i.0 t c.loop-round-test.true (omega arith), gather_part t a.group.now a.out.now c.gather_listed.ensures i.1 c.loop-round.auto.out c.requires.within c.requires.slots_in_bounds)

pub returns : goal.returns
returns c =
    let a = c.args in
    c.loop-round.invariant.1 ∙ ap (λ (ms : List ℕ). copied a.out.now (gathered ms a.group.now)) (rounds_all c.requires.listable c.loop-round.invariant.0 (omega arith))
