-- `crc::low_on` meets its contract. The loop's invariant: the first `i` bits have gone on, whole bytes. The measure is how many are left. Assumes nothing.
use Prim.Native.Nat.{◌*◌}
use Rattle.crc.proofs.Entered.{Gone}
use Rattle.crc.proofs.low_on.Given as goal

abbrev pub invariant-loop-i : goal.invariant-loop-i
invariant-loop-i l = Gone l.n.shifts 32 l.x (8 * l.i) l.r
