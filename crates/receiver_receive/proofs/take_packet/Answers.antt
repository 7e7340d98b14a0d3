-- `take_packet` meets its contract: no frame is open, or it has no room, or the packet is stored. Assumes nothing.
use mathlib.Core.Path.{◌≡◌, sym, ap, ◌∙◌}
use native.Mathlib.Omega.{arith}
use borrow.Author.Rules.{rules}
use Rattle.setting.specs.declared.Size.{Size}
use Rattle.setting.specs.Size.{size_of, slots_of}
use Rattle.setting.proofs.Sizes.{sized}
use Rattle.receiver.specs.Bytes.{receiver_of, told}
use Rattle.receiver_receive.proofs.Receipts.{whole_packet, whole_store}
use Rattle.receiver_receive.proofs.Taking.{waiting-on, too_long, stored_on}
use Rattle.receiver_receive.proofs.take_packet.Goals as goal
use Rattle.receiver_receive.proofs.take_packet.Goals.{After-size_of-size}

-- it is that of the state's kind
said-slots : (c : After-size_of-size) → c.size_of-size.result.slots ≡ slots_of (receiver_of c.args.state.now).kind
unfolding receiver_of
said-slots c = ap (λ (z : Size). z.slots) (c.size_of-size.ensures ∙ ap size_of c.kind_of.ensures)

pub returns-then-state-eq0 : goal.returns-then-state-eq0
unfolding told
returns-then-state-eq0 c =
    let a = c.args in
    let all = waiting-on a.state.now a.packet.now a.store.now (search rules) c.requires.bytes c.requires.packet_value.0 c.requires.packet_value.1 c.if-state-eq0.true in record {
      value = sym all.0;
      state_after = all.1.0;
      store_after = all.1.1;
    }

pub returns-then-size-state : goal.returns-then-size-state
unfolding told
returns-then-size-state c =
    let a = c.args in
    let all = too_long a.state.now a.packet.now a.store.now (search rules) c.requires.bytes c.requires.packet_value.0 c.requires.packet_value.1 c.if-state-eq0.false
    (omega (arith, said-slots (goal.at.returns-then-size-state c).After-size_of-size, c.if-size-state.true)) c.fill.ensures in record {
      value = sym all.0;
      state_after = all.1.0;
      store_after = all.1.1;
    }

pub store_next-requires : goal.store_next-requires
store_next-requires c =
    let kind = (receiver_of c.args.state.now).kind in
    let whole = whole_store _ _ _ c.requires.packet_value.1 in record {
      state_len = (search rules, omega (arith, said-slots (goal.at.store_next-requires c).After-size_of-size, c.if-size-state.false, (sized kind).slots));
      packet_len = (whole_packet _ _ _ c.requires.packet_value.1, omega (arith, said-slots (goal.at.store_next-requires c).After-size_of-size, c.if-size-state.false, whole));
    }

pub returns : goal.returns
unfolding told
returns c =
    let a = c.args in
    let all = stored_on a.state.now a.packet.now a.store.now (search rules) c.requires.bytes c.requires.packet_value.0 c.requires.packet_value.1 c.if-state-eq0.false
    (omega (arith, said-slots (goal.at.returns c).After-size_of-size, c.if-size-state.false)) in record {
      value = sym all.0;
      state_after = c.store_next.ensures.state_after ∙ all.1.0;
      store_after = c.store_next.ensures.store_after ∙ all.1.1;
    }
