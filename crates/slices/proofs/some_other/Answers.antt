-- `some_other` meets its contract: after some turns `other` says whether one of the elements so far is not v. Assumes nothing.
use Rattle.std.proofs.Common.{◌≡◌, sym, length, arith}
use Rattle.slices.specs.Slices.{some_differ}
use Rattle.slices.proofs.Any.{any_none}
use Rattle.slices.proofs.Differing.{other_next}
use Rattle.slices.proofs.some_other.Goals as goal

pub loop-x-init : goal.loop-x-init
loop-x-init c = any_none _

pub loop-x-preserved : goal.loop-x-preserved
loop-x-preserved c = other_next c.args.xs.now c.args.v c.loop-x.x-index (omega arith) c.loop-x.invariant

pub returns : goal.returns
unfolding some_differ
returns c =
    let all : c.loop-x.x-index ≡ length c.args.xs.now = omega arith in
    sym (rw all at c.loop-x.invariant)
