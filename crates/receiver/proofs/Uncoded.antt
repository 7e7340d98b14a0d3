-- Bytes that code no state are refused with 17. Assumes nothing.
use Prim.Native.Nat.{ℕ, zero, suc}
use mathlib.Core.Path.{◌≡◌, refl, ap, ◌∙◌}
use mathlib.Core.Bool.{Bool, true, false, cond, not, ◌&&◌, true≢false}
use mathlib.Core.List.{List}
use native.Mathlib.Omega.{arith}
use borrow.Author.Tests.{eq-eqb, ne_eqb}
use lib.Dec.{eqb}
use lib.ListN.{length, get_or}
use Rattle.setting.specs.Refusal.{of_length, first_of}
use Rattle.setting.specs.Rules.{pid_allowed}
use Rattle.setting.proofs.Refusals.{passed, at_once}
use Rattle.setting.specs.Size.{slots_of}
use Rattle.packet.specs.Packets.{packet_length}
use Rattle.setting_bytes.specs.Kinds.{is_kind}
use Rattle.receiver.specs.declared.Stage.{Stage}
use Rattle.receiver.specs.Store.{store_length}
use Rattle.receiver.specs.Table.{stage_checks}
use Rattle.receiver.specs.Receiving.{Receiver, receiver_checks, receive_refusal, hand_out_refusal, receive_of, hand_out_of}
use Rattle.receiver.specs.Bytes.{kind_at, stage_at, counter_at, stored_at, no_stage, stage_of, is_stage, is_coded, receiver_of}
use Rattle.receiver.specs.Calls.{lent_refusal, receive_refused, hand_out_refused}
use Rattle.receiver.specs.Demands.{UncodedRefused}

-- ---- the stage

-- one test that has to hold fails
unheld : (b : Bool) (stage : Stage) → b && true ≡ false → cond b stage no_stage ≡ no_stage
unheld true stage e = absurd (true≢false e)
unheld false stage e = refl

stage_of-uncoded : (tag from k : ℕ) → is_stage tag from k ≡ false → stage_of tag from k ≡ no_stage
unfolding stage_of
stage_of-uncoded zero from k e = unheld (eqb from 0 && eqb k 0) Stage.Waiting e
stage_of-uncoded (suc zero) from k e = absurd (true≢false e)
stage_of-uncoded (suc (suc zero)) from k e = ap (λ (b : Bool). cond b (Stage.Ready from) no_stage) e
stage_of-uncoded (suc (suc (suc n))) from k e =
    rw (
      ne_eqb (suc (suc (suc n))) 0 (λ z. omega (arith, z)),
      ne_eqb (suc (suc (suc n))) 1 (λ z. omega (arith, z)),
      ne_eqb (suc (suc (suc n))) 2 (λ z. omega (arith, z)),
    )
    refl

by_kind : (kind staged : Bool) (stage : Stage) → kind && staged ≡ false → (staged ≡ false → stage ≡ no_stage) → cond kind stage no_stage ≡ no_stage
by_kind true staged stage e h = h e
by_kind false staged stage e h = refl

uncoded : (state : List ℕ) → is_coded state ≡ false → (receiver_of state).stage ≡ no_stage
unfolding is_coded receiver_of
uncoded state e = by_kind (is_kind (get_or state kind_at 0)) _ _ e (stage_of-uncoded (get_or state stage_at 0) (get_or state counter_at 0) (get_or state stored_at 0))

-- ---- the calls

module _ (c : Receiver) (p : pid_allowed c.pid ≡ true) (s : c.stage ≡ no_stage) where
  receiver_refused : first_of (receiver_checks c) ≡ 17
  unfolding receiver_checks stage_checks first_of
  receiver_refused = rw (p, s) refl

  module _ (store : ℕ) (l : store ≡ store_length (slots_of c.kind)) where
    receive_refusal-uncoded : (packet : ℕ) → packet ≡ packet_length → receive_refusal c packet store ≡ 17
    unfolding receive_refusal
    receive_refusal-uncoded packet q = passed 1 _ (ap not (eq-eqb _ _ q)) ∙ passed 1 _ (ap not (eq-eqb _ _ l)) ∙ receiver_refused

    receive_of-uncoded : (packet : List ℕ) → length packet ≡ packet_length → (receive_of c packet store).refusal ≡ 17
    unfolding receive_of
    receive_of-uncoded packet q = rw (receive_refusal-uncoded (length packet) q) refl

    hand_refused : (r out : ℕ) → (hand_out_of c r store out).refusal ≡ 17
    unfolding hand_out_of hand_out_refusal
    hand_refused r out =
        let refused = receiver_refused in
        passed 1 _ (ap not (eq-eqb _ _ l)) ∙ at_once (receiver_checks c) _ (λ z. omega (arith, refused, z)) ∙ receiver_refused

pub uncoded_refused : UncodedRefused
unfolding receive_refused hand_out_refused lent_refusal of_length receiver_of
uncoded_refused state store l p e m =
    let none = uncoded state e in (
      λ packet q. rw (eq-eqb _ _ l) (receive_of-uncoded (receiver_of state) p none (length store) m packet q),
      λ r out. rw (eq-eqb _ _ l) (hand_refused (receiver_of state) p none (length store) m r (length out)),
    )
