-- `crc::byte_on` meets its contract. The loop's invariant: the first `i` bits have entered. The measure is how many are left. Assumes nothing.
use native.Mathlib.Omega.{arith}
use Rattle.crc.proofs.Entered.{none_entered, one_enters, zero_enters}
use Rattle.crc.proofs.byte_on.Goals as goal
use Rattle.crc.proofs.byte_on.Goals.{else-top-eq1, then-top-eq1}

pub loop-init : goal.loop-init
loop-init c = none_entered c.args.x

pub loop-preserved : goal.loop-preserved
loop-preserved c =
    elim c.if-top-eq1.branch [ then-top-eq1 w ↦ one_enters c.loop.invariant (omega arith) w.one-r.ensures w.if-top-eq1.true w.r-is | else-top-eq1 w ↦ zero_enters c.loop.invariant (omega arith) w.if-top-eq1.false w.r-is ]
