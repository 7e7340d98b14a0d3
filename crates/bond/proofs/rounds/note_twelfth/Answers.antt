-- `note_twelfth` meets its contract: of the twelfth's carriers as many were gone through. Assumes nothing.
use Prim.Native.Nat.{ℕ, ◌+◌, ◌-◌, ◌*◌, ◌<◌}
use mathlib.Core.Path.{refl, subst}
use mathlib.Core.List.{List}
use native.Mathlib.Omega.{arith}
use lib.ListN.{length, take, length-take}
use lib.Seq.{get_or-take}
use Rattle.counters.specs.Counters.{last_carrier}
use Rattle.bond_places.specs.Walk.{frames_before}
use Rattle.bond.specs.Listing.{Noted}
use Rattle.bond.proofs.ByRound.{small, carrier-next, here-more, here_less, noted_behind}
use Rattle.bond.proofs.rounds.note_twelfth.Goals as goal
use Rattle.bond.proofs.rounds.note_twelfth.Goals.{else-part-eq0, then-part-eq0}

-- a carrier that is gone through is one of the group's
inside : (frames : List ℕ) (n k : ℕ) → k < length (take n frames) → k < n
inside frames n k h = omega (arith, length-take n frames)

pub loop-count-init : goal.loop-count-init
unfolding frames_before
loop-count-init c =
    let a = c.args in
    (subst (Noted a.plan.carriers a.plan.frames.now a.notes.now a.noted) (omega arith) c.requires.noted, refl)

pub overflow_mul-notes : goal.overflow_mul-notes
overflow_mul-notes c =
    let r = c.requires in
    let i = c.loop-count.invariant in
    let k = c.loop-count.count-index in
    let l = inside c.args.plan.frames.now c.args.plan.carriers k c.loop-count-test.true in
    (small r.walkable c.args.twelfth k r.twelfth_lt_round_twelfths l i.0 i.1).base

pub overflow_add-notes : goal.overflow_add-notes
overflow_add-notes c =
    let r = c.requires in
    let i = c.loop-count.invariant in
    let k = c.loop-count.count-index in
    let l = inside c.args.plan.frames.now c.args.plan.carriers k c.loop-count-test.true in
    rw (get_or-take c.args.plan.carriers c.args.plan.frames.now k 0 l) (small r.walkable c.args.twelfth k r.twelfth_lt_round_twelfths l i.0 i.1).packet

pub overflow_cast-notes : goal.overflow_cast-notes
overflow_cast-notes c =
    let r = c.requires in
    let i = c.loop-count.invariant in
    let k = c.loop-count.count-index in
    let l = inside c.args.plan.frames.now c.args.plan.carriers k c.loop-count-test.true in
    rw (get_or-take c.args.plan.carriers c.args.plan.frames.now k 0 l) (small r.walkable c.args.twelfth k r.twelfth_lt_round_twelfths l i.0 i.1).noted

pub overflow_add-frame : goal.overflow_add-frame
overflow_add-frame c =
    let r = c.requires in
    let i = c.loop-count.invariant in
    let k = c.loop-count.count-index in
    let l = inside c.args.plan.frames.now c.args.plan.carriers k c.loop-count-test.true in
    rw (get_or-take c.args.plan.carriers c.args.plan.frames.now k 0 l) (small r.walkable c.args.twelfth k r.twelfth_lt_round_twelfths l i.0 i.1).frame_on

pub loop-count-preserved : goal.loop-count-preserved
loop-count-preserved c =
    let r = c.requires in
    let i = c.loop-count.invariant in
    let k = c.loop-count.count-index in
    let t = c.args.twelfth in
    let l = inside c.args.plan.frames.now c.args.plan.carriers k c.loop-count-test.true in
    let here = get_or-take c.args.plan.carriers c.args.plan.frames.now k 0 l in
    let next = carrier-next r.walkable t k r.twelfth_lt_round_twelfths l i.1 in
    elim c.if-part-eq0.branch [
      | then-part-eq0 w ↦ (rw (w.notes-is, w.n-is, i.1, here) (here-more r.walkable t k r.twelfth_lt_round_twelfths l i.0 (rw here at w.if-part-eq0.true)), rw here next.0)
      | else-part-eq0 w ↦ (rw (w.notes-is, w.n-is) (here_less r.walkable t k r.twelfth_lt_round_twelfths l i.0 (rw here at w.if-part-eq0.false)), rw here next.0)
    ]

pub returns : goal.returns
returns c =
    let a = c.args in
    let few = c.requires.walkable.few in
    let k = c.loop-count.count-index in
    noted_behind a.plan.carriers a.plan.frames.now a.twelfth (last_carrier * a.twelfth + k) (last_carrier - k) c.requires.twelfth_lt_round_twelfths
    (omega (arith, length-take a.plan.carriers a.plan.frames.now)) (omega (arith, length-take a.plan.carriers a.plan.frames.now)) c.loop-count.invariant.0
