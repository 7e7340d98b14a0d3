-- `crc::bytes_in` meets its contract. The loop's invariant: the bytes that are left bring the register to the one that is asked.
-- The measure is how many are left. Assumes nothing.
use Prim.Native.Nat.{ℕ, ◌+◌}
use mathlib.Core.Path.{sym, ◌∙◌}
use mathlib.Core.List.{List}
use native.Mathlib.Omega.{arith}
use lib.ListN.{drop, get_or}
use Rattle.bits.specs.Fields.{bits_of, run}
use Rattle.crc.proofs.Folding.{byte_first, none_left, turn}
use Rattle.crc.proofs.bytes_in.Goals as goal

pub loop-byte-preserved : goal.loop-byte-preserved
loop-byte-preserved c =
    turn r (bits_of 8 (get_or m i 0)) (run 8 (drop (i + 1) m)) (byte_first m i (omega arith)) c.byte_in-r.ensures ∙ c.loop-byte.invariant
  where
    m : List ℕ
    m = c.args.bytes.now

    r : ℕ
    r = c.loop-byte.r

    i : ℕ
    i = c.loop-byte.byte-index

pub returns : goal.returns
returns c =
    sym (none_left c.loop-byte.r c.args.bytes.now c.loop-byte.byte-index (omega arith)) ∙ c.loop-byte.invariant
