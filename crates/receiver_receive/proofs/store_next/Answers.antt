-- `store_next` meets its contract: the slot was lent, and stage and count are written. Assumes nothing.
use Prim.Native.Nat.{◌+◌, ◌-◌, ◌*◌}
use mathlib.Core.Path.{◌≡◌, refl, sym, ◌∙◌}
use native.Mathlib.Omega.{arith}
use borrow.Rule.Slice.PartMut.{mid_len}
use lib.ListN.{get_or}
use Rattle.slices.proofs.Front.{copied-over, put-over}
use Rattle.packet.specs.Packets.{packet_length}
use Rattle.receiver.specs.Bytes.{stored_at}
use Rattle.receiver_receive.proofs.store_next.Goals as goal

pub returns : goal.returns
returns c =
    let at = packet_length * get_or c.args.state.now stored_at 0 in
    let room = c.requires.state_len.1 in
    let long = c.requires.packet_len.1 in
    let lent = mid_len at (at + packet_length) c.args.store.now (omega arith) in
    let whole : at + packet_length - at ≡ packet_length = omega arith in record {
      state_after = refl;
      store_after = put-over at (at + packet_length - at) c.args.store.now (c.copy.ensures ∙ copied-over _ _ (lent ∙ whole ∙ sym c.requires.packet_len.0)) (c.requires.packet_len.0 ∙ sym whole);
    }
