-- `crc::longs_in` meets its contract. The loop's invariant: the bytes that are left, a multiple of eight, bring the register that is held to
-- the one that is asked. The measure is how many are left. Assumes nothing.
use Prim.Native.Nat.{◌*◌}
use mathlib.Core.Path.{◌≡◌}
use lib.ListN.{drop}
use Rattle.bits.specs.Fields.{run}
use Rattle.crc.specs.Crc.{register_from, register_of}
use Rattle.crc.specs.Words.{held}
use Rattle.crc.proofs.longs_in.Given as goal

abbrev pub invariant-loop-k : goal.invariant-loop-k
invariant-loop-k l =
    register_from (held l.r l.s) (run 8 (drop (8 * l.k) l.bytes)) ≡ register_of l.bytes
