-- `write_run` meets its contract: after i turns the first i values are packed. Assumes nothing.
use Prim.Native.Nat.{◌+◌, ◌*◌, ◌/◌, ◌%◌, ◌^◌, ◌≤◌, ◌<◌}
use mathlib.Core.Path.{◌≡◌}
use native.Mathlib.Omega.{arith}
use lib.ListN.{length, get_or}
use Rattle.header_layout.proofs.Runs.{Packed, packed_none, packed_in, packed_out, no_wrap, byte_has_room, limit_is}
use Rattle.header_write.proofs.packed.write_run.Goals as goal
use Rattle.header_write.proofs.packed.write_run.Goals.{After-from, else-bits-ge8, then-bits-ge8}

pub loop-value-init : goal.loop-value-init
loop-value-init c = (omega arith, packed_none c.args.part.now c.args.values.now c.args.width)

-- with the value taken in
loaded : (c : After-from) →
    Packed c.loop-value.part c.args.values.now c.args.width
    (c.loop-value.held % 256 * 2 ^ c.args.width % 2 ^ 32
    + get_or c.args.values.now c.loop-value.value-index 0 % (1 * 2 ^ c.args.width % 2 ^ 32))
    (c.loop-value.bits + c.args.width) c.loop-value.at (c.loop-value.value-index + 1)
loaded c =
    let at = c.loop-value in
    let args = c.args in
    rw (no_wrap args.width at.held c.requires.width_bound, limit_is args.width c.requires.width_bound)
    (packed_in at.part args.values.now args.width at.held at.bits at.at at.value-index at.invariant.1 at.invariant.0 (omega arith))

-- the byte that goes out has its place
room : (c : After-from) → 8 ≤ c.loop-value.bits + c.args.width → c.loop-value.at < length c.loop-value.part
room c h =
    let at = c.loop-value in
    let args = c.args in
    let r : at.at < length args.values.now * args.width / 8 =
    byte_has_room (length args.values.now) args.width at.at (at.bits + args.width) at.value-index (omega arith) (loaded c).count h in
    let e : length args.part.now ≡ length args.values.now * args.width / 8 = c.requires.part_len in
    omega arith

pub loop-value-preserved : goal.loop-value-preserved
loop-value-preserved c =
    let at = c.loop-value in
    let args = c.args in
    let taken_in = loaded (goal.at.loop-value-preserved c).After-from in
    elim c.if-bits-ge8.branch [
      | then-bits-ge8 w ↦ rw (w.part-is, w.bits-is, w.at-is, c.from.ensures) (
        omega arith,
        packed_out at.part args.values.now args.width _ (at.bits + args.width) at.at (at.value-index + 1) taken_in w.if-bits-ge8.true
            (room (goal.at.loop-value-preserved c).After-from w.if-bits-ge8.true),
      )
      | else-bits-ge8 w ↦ rw (w.part-is, w.bits-is, w.at-is, c.from.ensures) (w.if-bits-ge8.false, taken_in)
    ]
