-- `crc::bytes_in` meets its contract. The loop's invariant: the bytes that are left bring the register to the one that is asked.
-- The measure is how many are left. Assumes nothing.
use mathlib.Core.Path.{◌≡◌}
use lib.ListN.{drop}
use Rattle.bits.specs.Fields.{run}
use Rattle.crc.specs.Crc.{register_from}
use Rattle.crc.proofs.bytes_in.Given as goal

abbrev pub invariant-loop-byte : goal.invariant-loop-byte
invariant-loop-byte l = register_from l.r (run 8 (drop l.byte-index l.bytes)) ≡ register_from l.s (run 8 l.bytes)
