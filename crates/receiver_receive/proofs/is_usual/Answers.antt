-- `is_usual` meets its contract: if no test answers, they say all of it. Assumes nothing.
use Prim.Native.Nat.{ℕ}
use mathlib.Core.Path.{◌≡◌, ap, sym, ◌∙◌}
use mathlib.Core.List.{List}
use native.Mathlib.Omega.{arith}
use Rattle.refusals.proofs.Refusals.{let_through}
use Rattle.setting.specs.Rules.{pid_allowed}
use Rattle.setting_bytes.specs.Words.{word_at}
use Rattle.packet.specs.Packets.{place_refusal}
use Rattle.packet.proofs.Fit.{may_stand}
use Rattle.receiver.specs.Bytes.{receiver_of, pid_at}
use Rattle.receiver_receive.proofs.Granted.{all_slots, usual_granted}
use Rattle.receiver_receive.proofs.is_usual.Goals as goal

-- the PID is the one that the state says
pid-said : (b : List ℕ) {n : ℕ} → n ≡ word_at pid_at b → n ≡ (receiver_of b).pid
unfolding receiver_of
pid-said b e = e

pub returns : goal.returns
returns c e =
    let b = c.args.state.now in
    let p = c.args.packet.now in
    let l = c.if-state-ne-RECEIVER_BYTES.false in
    let k = c.if-state-ge-LAST_KIND.false in
    let pid = pid-said b c.word-pid.ensures in
    record {
      whole = l;
      granted =
          usual_granted b l (omega (arith, k)) c.if-state-ne1.false (sym (ap pid_allowed pid) ∙ sym c.if-not-pid_allowed.ensures)
          (omega (arith, c.if-state-ge-COUNTERS.false)) (omega (arith, c.if-state-ge-LAST.false)) c.if-packet-ne-PACKET_BYTES.false c.if-store-ne-STORE_BYTES.false;
      fits = may_stand _ p (ap (λ (n : ℕ). place_refusal n p) (sym pid) ∙ sym c.place_refusal.ensures ∙ let_through c.place_refusal.result (sym c.is_ok.ensures.value ∙ e));
      opened = c.if-state-ne1.false;
      room = rw (all_slots b l (omega (arith, k))) (omega (arith, c.if-state-ge-LAST.false));
    }
