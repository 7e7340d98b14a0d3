-- `are_bytes` meets its contract: each of the elements before `at` was read, and is a byte. Assumes nothing.
use Rattle.std.proofs.Common.{◌≡◌, length, arith}
use borrow.Author.Tests.{lt-leb}
use Rattle.slices.specs.Slices.{some_at_least}
use Rattle.slices.proofs.Any.{any_none, any_more}
use Rattle.slices.proofs.are_bytes.Goals as goal

pub loop-at-init : goal.loop-at-init
loop-at-init c = any_none _

pub loop-at-preserved : goal.loop-at-preserved
loop-at-preserved c = any_more _ c.loop-at.at c.loop-at.invariant (lt-leb 256 _ c.is_byte.ensures)

pub returns : goal.returns
unfolding some_at_least
returns c =
    let all : c.loop-at.at ≡ length c.args.xs.now = omega arith in
    rw all at c.loop-at.invariant
