-- `crc::byte_on` meets its contract. The loop's invariant: the first `i` bits have entered. The measure is how many are left. Assumes nothing.
use Rattle.crc.proofs.Entered.{Entered}
use Rattle.crc.proofs.byte_on.Given as goal

abbrev pub invariant-loop : goal.invariant-loop
invariant-loop l = Entered l.n.shifts l.x l.counter l.r l.d
