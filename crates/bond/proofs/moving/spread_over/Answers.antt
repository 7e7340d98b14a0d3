-- `spread_over` meets its contract: the packets of the rounds before this one were written. Assumes nothing.
use Prim.Native.Nat.{ℕ, ◌+◌, ◌-◌, ◌*◌}
use mathlib.Core.Path.{refl, ap, ◌∙◌}
use mathlib.Core.List.{List}
use native.Mathlib.Omega.{arith}
use lib.ListN.{take, length-take}
use Rattle.bond.specs.Bonding.{spread_over}
use Rattle.bond.specs.Listing.{round_steps, places_from}
use Rattle.bond.proofs.ByRound.{front_few}
use Rattle.bond.proofs.Moves.{Turn, turn_few, turn_within, part-long, spread-part, rounds_none, rounds_turn, rounds_more, rounds_all}
use Rattle.bond.proofs.moving.spread_over.Goals as goal
use Rattle.bond.proofs.moving.spread_over.Goals.{After-list_round-n}

-- what a round lists
these : (c : After-list_round-n)
    → Turn (places_from c.args.plan.carriers c.args.plan.frames.now c.args.plan.slots.now 0)
    c.loop-round.moved c.list_round-n.result (take (c.list_round-n.result - 0) c.list_round-n.new.list)
    (places_from c.args.plan.carriers c.args.plan.frames.now c.args.plan.slots.now (round_steps * (c.loop-round.round + 1)))
these c =
    let e = c.list_round-n.ensures in
    rounds_turn c.requires.listable c.loop-round.invariant.0 c.list_round-n.new.list c.list_round-n.result c.note_round-noted.ensures
    c.loop-round-test.true e.list_after e.value

pub loop-round-init : goal.loop-round-init
unfolding spread_over
loop-round-init c = (rounds_none _ _ _ refl, refl)

pub list_round-n-requires : goal.list_round-n-requires
list_round-n-requires c =
    let p = c.requires.listable in
    let n = c.note_round-noted.ensures in
    let room = c.loop-round.invariant.0.room in
    record {
      notes_bound = (omega (arith, n.few, length-take c.note_round-noted.result c.note_round-noted.new.notes), p.long);
      by_index = front_few _ _ _ p n c.loop-round.round c.loop-round-test.true;
      round_steps_in_bounds = omega arith;
    }

pub slice_bounds-spread_listed-end : goal.slice_bounds-spread_listed-end
slice_bounds-spread_listed-end c = let few = turn_few (these (goal.at.slice_bounds-spread_listed-end c).After-list_round-n) in omega arith

pub spread_listed-requires : goal.spread_listed-requires
spread_listed-requires c =
    let t = these (goal.at.spread_listed-requires c).After-list_round-n in
    record {
      stream_len = part-long t c.args.stream.now (omega arith);
      within = rw c.loop-round.auto.group (turn_within t c.args.group.now c.requires.within);
    }

pub loop-round-preserved : goal.loop-round-preserved
loop-round-preserved c =
    let a = c.args in
    let i = c.loop-round.invariant in
    let t = these (goal.at.loop-round-preserved c).After-list_round-n in
    (rounds_more c.requires.listable i.0 t c.loop-round-test.true (omega arith), c.spread_listed.ensures ∙ spread-part t a.stream.now a.group.now i.1 (omega arith))

pub returns : goal.returns
returns c =
    let a = c.args in
    c.loop-round.invariant.1 ∙ ap (λ (ms : List ℕ). spread_over ms a.stream.now a.group.now) (rounds_all c.requires.listable c.loop-round.invariant.0 (omega arith))
