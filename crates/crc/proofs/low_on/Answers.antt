-- `crc::low_on` meets its contract. The loop's invariant: the first `i` bits have gone on, whole bytes. The measure is how many are left. Assumes nothing.
use Prim.Native.Nat.{◌+◌, ◌-◌, ◌*◌}
use mathlib.Core.Path.{◌≡◌, refl}
use native.Mathlib.Omega.{arith}
use lib.Dec.{lit≤}
use Rattle.crc.proofs.Entered.{more_gone, none_gone}
use Rattle.crc.proofs.low_on.Goals as goal

pub loop-i-init : goal.loop-i-init
loop-i-init c = none_gone 32 c.args.x

pub loop-i-preserved : goal.loop-i-preserved
loop-i-preserved c =
    let i = c.loop-i.i in
    let place : 24 - 8 * i ≡ 32 - (8 * i + 8) = omega arith in
    let next : 8 * i + 8 ≡ 8 * (i + 1) = omega arith in
    rw (← next) (more_gone 8 (lit≤ tt) (omega arith) c.loop-i.invariant (rw place at c.byte_on.ensures) refl)
