-- `crc::longs_in` meets its contract. The loop's invariant: the bytes that are left, a multiple of eight, bring the register that is held to
-- the one that is asked. The measure is how many are left. Assumes nothing.
use Prim.Native.Nat.{ℕ, ◌+◌, ◌-◌, ◌*◌, ◌^◌}
use mathlib.Core.Path.{◌≡◌, refl, sym, ◌∙◌}
use mathlib.Core.List.{List}
use native.Mathlib.Omega.{arith}
use lib.ListN.{drop}
use Rattle.bits.specs.Fields.{bits_of, run}
use Rattle.crc.specs.Crc.{register_from, register_of}
use Rattle.crc.specs.Words.{held}
use Rattle.crc.proofs.Folding.{long-first, none_left, turn}
use Rattle.crc.proofs.Reduced.{held_first, held_turn}
use Rattle.crc.proofs.longs_in.Goals as goal

pub loop-k-init : goal.loop-k-init
unfolding register_of
loop-k-init c =
    turn (register_from ones (bits_of 64 v)) (bits_of 64 w) (run 8 (drop 16 m)) (long-first m 8 (omega arith) c.long-s.ensures) (held_first ones v w (omega arith) (omega arith))
    ∙ turn ones (bits_of 64 v) (run 8 (drop 8 m)) (long-first m 0 (omega arith) c.long-r.ensures) refl
  where
    m : List ℕ
    m = c.args.bytes.now

    v : ℕ
    v = c.long-r.result

    w : ℕ
    w = c.long-s.result

    ones : ℕ
    ones = 2 ^ 32 - 1

pub loop-k-preserved : goal.loop-k-preserved
loop-k-preserved c =
    rw (← next) (turn (held r s) (bits_of 64 w) (run 8 (drop (i + 8) m)) (long-first m i (omega arith) c.long.ensures) (held_turn r s w e (omega arith) c.long_on.ensures)
    ∙ c.loop-k.invariant)
  where
    next : 8 * c.loop-k.k + 8 ≡ 8 * (c.loop-k.k + 1)
    next = omega arith

    m : List ℕ
    m = c.args.bytes.now

    r : ℕ
    r = c.loop-k.r

    s : ℕ
    s = c.loop-k.s

    i : ℕ
    i = 8 * c.loop-k.k

    e : ℕ
    e = c.long_on.result

    w : ℕ
    w = c.long.result

pub returns : goal.returns
returns c =
    c.left_by.ensures
    ∙ sym (none_left (held c.loop-k.r c.loop-k.s) c.args.bytes.now (8 * c.loop-k.k) (omega arith))
    ∙ c.loop-k.invariant
