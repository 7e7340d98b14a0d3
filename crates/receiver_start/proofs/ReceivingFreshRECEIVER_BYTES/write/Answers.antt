-- A fresh receiver is written: PID and kind over zeros. Assumes nothing.
use Prim.Native.Nat.{◌/◌, ◌%◌}
use mathlib.Core.Path.{◌≡◌}
use native.Mathlib.Omega.{arith}
use borrow.Author.Rules.{rules}
use lib.ListN.{length, get_or}
use Rattle.receiver.specs.Bytes.{receiver_length}
use Rattle.receiver.proofs.Answers.{fresh-bytes}
use Rattle.receiver_start.proofs.ReceivingFreshRECEIVER_BYTES.write.Goals as goal

pub returns : goal.returns
returns c =
    let pid = c.args.pid in
    let long : length c.args.state.now ≡ receiver_length = search rules in
    let high : get_or c.to_be_bytes.result 0 0 ≡ pid / 256 = rw c.to_be_bytes.ensures (omega arith) in
    let low : get_or c.to_be_bytes.result 1 0 ≡ pid % 256 = rw c.to_be_bytes.ensures (omega arith) in
    fresh-bytes c.args.state.now pid c.args.kind long c.requires c.fill.ensures (rw (high, low) at c.copy.ensures)
