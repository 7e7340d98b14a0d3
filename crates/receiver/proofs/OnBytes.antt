-- On the bytes of a state each call is the receiver's own. Assumes nothing.
use Prim.Native.Nat.{ℕ}
use mathlib.Core.Path.{◌≡◌, refl, sym, ap, ◌∙◌}
use mathlib.Core.Bool.{Bool, true, false, cond, false≢true}
use mathlib.Core.List.{List, ◌++◌}
use native.Mathlib.Omega.{arith}
use native.Mathlib.Decide.{ℕ_discrete}
use borrow.Author.Tests.{eq-eqb, ne_eqb}
use lib.Dec.{eqb}
use lib.ListN.{length, length-append}
use Rattle.setting.specs.declared.Kind.{Kind}
use Rattle.setting.proofs.Sizes.{length-resized, fit_four}
use Rattle.setting.specs.Refusal.{of_length, leaves}
use Rattle.setting.specs.Setting.{Array}
use Rattle.setting_bytes.specs.Words.{word_bytes}
use Rattle.counters.specs.Counters.{last_slot}
use Rattle.header_layout.specs.Header.{reading}
use Rattle.header_layout.proofs.Numbers.{numbers_fit}
use Rattle.header_check.specs.Checking.{read_refusal}
use Rattle.header_check.proofs.Accepted.{shown}
use Rattle.packet.specs.Packets.{unfit}
use Rattle.receiver.specs.declared.Event.{Event}
use Rattle.receiver.specs.declared.Stage.{Stage}
use Rattle.receiver.specs.Packed.{packed}
use Rattle.receiver.specs.Table.{Sort, good, broken, other}
use Rattle.receiver.specs.Arriving.{shown_remainder, sort_of}
use Rattle.receiver.specs.Receiving.{Receiver, Received, moved, renumbered, receiver_after, receive_refusal, row_for, receive_of}
use Rattle.receiver.specs.Bytes.{receiver_length, stage_bytes, receiver_bytes, Codable}
use Rattle.receiver.specs.Calls.{lent_refusal, receive_refused, receive_told, receive_state, receive_memory, hand_out_refused, hand_out_packets, hand_out_memory}
use Rattle.receiver.specs.Demands.{OnBytes, CallsOnBytes}
use Rattle.receiver.proofs.Packing.{length-packed}
use Rattle.receiver.proofs.Bytes.{stage-length}
use Rattle.receiver.proofs.Coding.{receiver_back}

-- a state takes receiverLength bytes
pub length_receiver : (c : Receiver) → length (receiver_bytes c) ≡ receiver_length
unfolding receiver_bytes word_bytes
length_receiver c =
    let n = packed c.numbers in
    let b = packed c.before in
    rw (length-append (stage_bytes c.stage) (n ++ b), length-append n b) (omega (arith, stage-length c.stage, length-packed c.numbers, length-packed c.before))

-- a receipt, by its refusal
abbrev receipt : ℕ → Event → Receiver → Receiver → Received
receipt n event new old = cond (eqb n 0) (record { refusal = 0; event = event; state = new }) (record { refusal = n; event = Event.Nothing; state = old })

-- what it leaves, refused or not
left : (f : Receiver → List ℕ) (n : ℕ) (event : Event) (new old : Receiver)
    → leaves (receipt n event new old).refusal (f (receipt n event new old).state) (f old) ≡ f (receipt n event new old).state
unfolding leaves
left f n event new old = by_refusal (ℕ_discrete n 0)
  where
    by_refusal : Dec (n ≡ 0) → leaves (receipt n event new old).refusal (f (receipt n event new old).state) (f old) ≡ f (receipt n event new old).state
    by_refusal (yes e) = rw (eq-eqb n 0 e)
    by_refusal (no d) = rw (ne_eqb n 0 d, ne_eqb n 0 d)

module _ (c : Receiver) (h : Codable c) where
  abbrev b : List ℕ
  b = receiver_bytes c

  there : eqb (length b) receiver_length ≡ true
  there = eq-eqb (length b) receiver_length (length_receiver c)

  on-bytes : OnBytes c
  unfolding receive_refused receive_told receive_state receive_memory hand_out_refused hand_out_packets hand_out_memory lent_refusal of_length receive_of
  on-bytes =
      record {
        receives = λ p store. rw (there, receiver_back c h) (refl, (refl, (left receiver_bytes (receive_refusal c (length p) (length store)) (row_for c p).event _ c, refl)));
        handing_out = λ r store out. rw (there, receiver_back c h) (refl, (refl, refl));
      }

-- a header that is accepted says a number of at most four bits for each slot
pub numbers_said : (kind : Kind) (pid : ℕ) (p : List ℕ) → read_refusal kind pid p ≡ 0 → Array last_slot 4 (reading kind p).relative_ts_number
unfolding reading
numbers_said kind pid p e = (length-resized last_slot _, fit_four kind (numbers_fit kind p (shown kind pid p e).whole))

kept_with : (c : Receiver) → Codable c → (sort : Sort) (stage : Stage) (said : List ℕ) → (sort ≡ good → Array last_slot 4 said) → Codable (receiver_after c sort stage said)
unfolding receiver_after moved renumbered
kept_with c h good stage said a = record { pid = h.pid; numbers = a refl; before = h.numbers }
kept_with c h (broken r) stage said a = record { pid = h.pid; numbers = h.numbers; before = h.before }
kept_with c h other stage said a = record { pid = h.pid; numbers = h.numbers; before = h.before }

module _ (kind : Kind) (pid : ℕ) (p : List ℕ) where
  -- a packet that is a good header is accepted
  sort_good : sort_of kind pid p ≡ good → read_refusal kind pid p ≡ 0
  unfolding sort_of
  sort_good e = by_refusal (ℕ_discrete (read_refusal kind pid p) 0)
    where
      is_good : Sort → Bool
      is_good good = true
      is_good (broken r) = false
      is_good other = false

      bad : (b : Bool) → cond b (broken (shown_remainder kind pid p)) other ≡ good → ⊥
      bad true q = false≢true (ap is_good q)
      bad false q = false≢true (ap is_good q)

      by_refusal : Dec (read_refusal kind pid p ≡ 0) → read_refusal kind pid p ≡ 0
      by_refusal (yes z) = z
      by_refusal (no d) = absurd (bad (unfit pid p) (sym (ap (λ (b : Bool). cond b good (cond (unfit pid p) (broken (shown_remainder kind pid p)) other)) (ne_eqb (read_refusal kind pid p) 0 d)) ∙ e))

-- of two receipts
one_of : (b : Bool) (n : ℕ) (event : Event) (new old : Receiver) → Codable new → Codable old
    → Codable (cond {A = Received} b (record { refusal = 0; event = event; state = new }) (record { refusal = n; event = Event.Nothing; state = old })).state
one_of true n event new old p q = p
one_of false n event new old p q = q

module _ (c : Receiver) (h : Codable c) where
  codable_kept : (p : List ℕ) (lent : ℕ) → Codable (receive_of c p lent).state
  unfolding receive_of
  codable_kept p lent =
      let sort = sort_of c.kind c.pid p in
      let said = (reading c.kind p).relative_ts_number in
      one_of (eqb (receive_refusal c (length p) lent) 0) (receive_refusal c (length p) lent) (row_for c p).event (receiver_after c sort (row_for c p).stage said) c
      (kept_with c h sort (row_for c p).stage said (λ e. numbers_said c.kind c.pid p (sort_good c.kind c.pid p e))) h

pub calls_on_bytes : CallsOnBytes
calls_on_bytes c h = (on-bytes c h, codable_kept c h)
