-- What a receipt was given that is not refused, and what it answers and leaves, by the packet's sort. Assumes nothing.
use Prim.Native.Nat.{ℕ}
use mathlib.Core.Path.{◌≡◌, refl, sym, ap, ◌∙◌}
use mathlib.Core.Bool.{true, not}
use mathlib.Core.List.{List, [], ◌∷◌}
use borrow.Author.Tests.{eq-eqb, eqb-true, not-false}
use lib.Dec.{eqb}
use lib.ListN.{length}
use Rattle.setting.specs.declared.Setting.{Setting}
use Rattle.setting.specs.Refusal.{first_of, NoneHolds}
use Rattle.setting.proofs.Refusals.{first_none, none_first, none_at, none_behind, written}
use Rattle.setting.specs.Size.{slots_of}
use Rattle.header_layout.specs.Header.{reading}
use Rattle.packet.specs.Packets.{packet_length, unfit}
use Rattle.receiver.specs.declared.Row.{Row}
use Rattle.receiver.specs.Table.{Sort, good, broken, other, row_of}
use Rattle.receiver.proofs.Rows.{other_counter, broken_counter}
use Rattle.receiver.specs.Store.{store_length}
use Rattle.receiver.specs.Arriving.{sort_of, store_after}
use Rattle.receiver.specs.Receiving.{Receiver, Received, row_for, moved, renumbered, receiver_after, receiver_checks, receive_refusal, receive_of, receive_store}
use Rattle.receiver.proofs.ReceiverChecks.{receiver_numbered}
use Rattle.receiver_receive.proofs.Sorts.{not_stored}

-- what was given
module _ (c : Receiver) (packet store : ℕ) (e : receive_refusal c packet store ≡ 0) where
  received_none : NoneHolds ((1, not (eqb packet packet_length)) ∷ (1, not (eqb store (store_length (slots_of c.kind)))) ∷ receiver_checks c)
  unfolding receive_refusal
  received_none = none_first ((1, not (eqb packet packet_length)) ∷ (1, not (eqb store (store_length (slots_of c.kind)))) ∷ receiver_checks c) (receiver_numbered c) e

  pub whole_packet : packet ≡ packet_length
  whole_packet = eqb-true packet packet_length (not-false _ (none_at received_none 0))

  pub whole_store : store ≡ store_length (slots_of c.kind)
  whole_store = eqb-true store (store_length (slots_of c.kind)) (not-false _ (none_at received_none 1))

  pub sound_state : first_of (receiver_checks c) ≡ 0
  sound_state = first_none (none_behind ((1, not (eqb packet packet_length)) ∷ (1, not (eqb store (store_length (slots_of c.kind)))) ∷ []) received_none)

-- ---- what it answers and leaves

module _ (c : Receiver) (p : List ℕ) (store : ℕ) where
  abbrev refusal : ℕ
  refusal = receive_refusal c (length p) store

  -- a row's answer that keeps the numbers
  abbrev pub keeping : Row → Received
  keeping row = record { refusal = 0; event = row.event; state = moved c row.stage }

  -- and one that takes what a header says
  abbrev pub renumbering : Row → Setting → Received
  renumbering row said = record { refusal = 0; event = row.event; state = renumbered c row.stage said.relative_ts_number }

  module _ (e : refusal ≡ 0) where
    taken-receipt : {s : Sort} → sort_of c.kind c.pid p ≡ s
        → receive_of c p store
        ≡ record {
          refusal = 0;
          event = (row_of (slots_of c.kind) c.stage s (reading c.kind p).continuity_counter).event;
          state = receiver_after c s (row_of (slots_of c.kind) c.stage s (reading c.kind p).continuity_counter).stage (reading c.kind p).relative_ts_number;
        }
    unfolding receive_of row_for
    taken-receipt s = rw (eq-eqb refusal 0 e, s) refl

    module _ {row : Row} where
      pub other_receipt : sort_of c.kind c.pid p ≡ other → row ≡ row_of (slots_of c.kind) c.stage other 0 → keeping row ≡ receive_of c p store
      unfolding receiver_after
      other_receipt s r = ap keeping (r ∙ other_counter (slots_of c.kind) c.stage (reading c.kind p).continuity_counter) ∙ sym (taken-receipt s)

      pub broken_receipt : (x : ℕ) → sort_of c.kind c.pid p ≡ broken x → row ≡ row_of (slots_of c.kind) c.stage (broken x) 0 → keeping row ≡ receive_of c p store
      unfolding receiver_after
      broken_receipt x s r = ap keeping (r ∙ broken_counter (slots_of c.kind) x c.stage (reading c.kind p).continuity_counter) ∙ sym (taken-receipt s)

      pub good_receipt : sort_of c.kind c.pid p ≡ good → (said : Setting) → said ≡ reading c.kind p → row ≡ row_of (slots_of c.kind) c.stage good said.continuity_counter
          → renumbering row said ≡ receive_of c p store
      unfolding receiver_after
      good_receipt s said t r =
          ap (λ (w : Row). renumbering w said) r ∙ ap (λ (u : Setting). renumbering (row_of (slots_of c.kind) c.stage good u.continuity_counter) u) t ∙ sym (taken-receipt s)

module _ (c : Receiver) (p store : List ℕ) where
  module _ (e : receive_refusal c (length p) (length store) ≡ 0) where
    pub other_store : sort_of c.kind c.pid p ≡ other → {after : List ℕ} → after ≡ store_after (slots_of c.kind) c.stage other p store → after ≡ receive_store c p store
    unfolding receive_store
    other_store s a = a ∙ sym (ap (λ (t : Sort). store_after (slots_of c.kind) c.stage t p store) s) ∙ written refl _ store e

    -- a packet that may stand in no slot
    pub unfit_store : unfit c.pid p ≡ true → store ≡ receive_store c p store
    unfolding receive_store
    unfit_store u = sym (not_stored c.kind c.pid p u (slots_of c.kind) c.stage store) ∙ written refl _ store e
