-- `receive_refusal` meets its contract, check by check. Assumes nothing.
use mathlib.Core.Path.{◌≡◌, ap, sym, ◌∙◌}
use Rattle.setting.specs.declared.Kind.{Kind}
use Rattle.setting.specs.Size.{slots_of}
use Rattle.receiver.specs.Store.{store_length}
use Rattle.receiver.specs.Bytes.{receiver_of}
use Rattle.receiver_receive.proofs.Taking.{no_packet, no_store, the_states}
use Rattle.receiver_receive.proofs.receive_refusal.Goals as goal
use Rattle.receiver_receive.proofs.receive_refusal.Goals.{After-store_bytes}

-- it is that of the state's kind
long_store : (c : After-store_bytes) → c.store_bytes.result ≡ store_length (slots_of (receiver_of c.args.state.now).kind)
unfolding receiver_of
long_store c = c.store_bytes.ensures ∙ ap (λ (k : Kind). store_length (slots_of k)) c.kind_of.ensures

pub returns-then-packet-ne-PACKET_BYTES : goal.returns-then-packet-ne-PACKET_BYTES
returns-then-packet-ne-PACKET_BYTES c =
    let a = c.args in
    no_packet a.state.now a.packet a.store c.if-packet-ne-PACKET_BYTES.true

pub returns-then-store-store_bytes : goal.returns-then-store-store_bytes
returns-then-store-store_bytes c =
    let a = c.args in
    no_store a.state.now a.packet a.store c.if-packet-ne-PACKET_BYTES.false (λ e. c.if-store-store_bytes.true (e ∙ sym (long_store (goal.at.returns-then-store-store_bytes c).After-store_bytes)))

pub returns : goal.returns
returns c =
    let a = c.args in
    c.state_refusal.ensures ∙ the_states a.state.now a.packet a.store c.if-packet-ne-PACKET_BYTES.false (c.if-store-store_bytes.false ∙ long_store (goal.at.returns c).After-store_bytes)
