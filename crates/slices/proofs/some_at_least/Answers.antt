-- `some_at_least` meets its contract: the largest of the elements so far tells whether one is `limit` or more. Assumes nothing.
use Rattle.std.proofs.Common.{◌≡◌, ◌∙◌, sym, length, arith}
use borrow.Author.Tests.{lt-leb}
use Rattle.slices.specs.Slices.{some_at_least}
use Rattle.slices.proofs.Any.{any_none}
use Rattle.slices.proofs.Most.{any_at_all, most_grows, most_stays}
use Rattle.slices.proofs.some_at_least.Goals as goal
use Rattle.slices.proofs.some_at_least.Goals.{else-most-x, then-most-x}

pub returns-then-limit-eq0 : goal.returns-then-limit-eq0
unfolding some_at_least
returns-then-limit-eq0 c = let args = c.args in any_at_all args.xs.now args.limit c.if-limit-eq0.true

pub loop-x-init : goal.loop-x-init
loop-x-init c = any_none _ ∙ sym (lt-leb c.args.limit 0 (omega (arith, c.if-limit-eq0.false)))

pub loop-x-preserved : goal.loop-x-preserved
loop-x-preserved c =
    let turn = c.loop-x in
    let args = c.args in
    elim c.if-most-x.branch [
      | then-most-x w ↦ rw w.most-is (most_grows args.xs.now args.limit turn.most turn.x-index turn.invariant w.if-most-x.true)
      | else-most-x w ↦ rw w.most-is (most_stays args.xs.now args.limit turn.most turn.x-index turn.invariant w.if-most-x.false)
    ]

pub returns : goal.returns
unfolding some_at_least
returns c =
    let all : c.loop-x.x-index ≡ length c.args.xs.now = omega arith in
    sym (rw all at c.loop-x.invariant)
