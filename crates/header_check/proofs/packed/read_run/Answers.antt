-- `read_run` meets its contract: after i turns the first i values are cut. Assumes nothing.
use Prim.Native.Nat.{◌+◌, ◌≤◌, ◌<◌}
use native.Mathlib.Omega.{arith}
use lib.ListN.{length}
use Rattle.header_layout.proofs.Runs.{Taken, taken_none, taken_in, taken_out, byte_is_there, limit_is}
use Rattle.header_check.proofs.packed.read_run.Goals as goal
use Rattle.header_check.proofs.packed.read_run.Goals.{Joined-bits-width, Then-bits-width, else-bits-width, then-bits-width}

pub loop-value-init : goal.loop-value-init
loop-value-init c =
    (omega arith, taken_none c.args.values.now c.args.part.now c.args.width)

-- where bits are missing there is a byte more
there : (c : Then-bits-width) → c.loop-value.at < length c.args.part.now
there c =
    let at = c.loop-value in
    let args = c.args in
    byte_is_there (length args.values.now) args.width at.at at.bits at.value-index (length args.part.now) (omega arith) at.invariant.1.count
    c.if-bits-width.true c.requires.width_in_bounds

-- with enough bits held for the next value
filled : (c : Joined-bits-width) →
    (c.args.width ≤ c.if-bits-width.bits) × (c.if-bits-width.bits < c.args.width + 8)
    × Taken c.loop-value.values c.args.part.now c.args.width
    c.if-bits-width.held c.if-bits-width.bits c.if-bits-width.at c.loop-value.value-index
filled c =
    let at = c.loop-value in
    let args = c.args in
    elim c.if-bits-width.branch [
      | then-bits-width w ↦ rw (w.held-is, w.bits-is, w.at-is, w.from.ensures) (
        omega arith,
        omega arith,
        taken_in at.values args.part.now args.width at.held at.bits at.at at.value-index at.invariant.1 at.invariant.0
            (byte_is_there (length args.values.now) args.width at.at at.bits at.value-index (length args.part.now) (omega arith) at.invariant.1.count w.if-bits-width.true c.requires.width_in_bounds)
            (let fits = c.type_inv.part at.at in omega (arith, fits)),
      )
      | else-bits-width w ↦ rw (w.held-is, w.bits-is, w.at-is) (omega arith, omega arith, at.invariant.1)
    ]

pub loop-value-preserved : goal.loop-value-preserved
loop-value-preserved c =
    let at = c.loop-value in
    let args = c.args in
    let f = filled (goal.at.loop-value-preserved c).Joined-bits-width in (
      omega arith,
      rw (limit_is args.width c.requires.width_bound) (taken_out at.values args.part.now args.width _ _ _ at.value-index f.2 f.0 (omega arith)),
    )
