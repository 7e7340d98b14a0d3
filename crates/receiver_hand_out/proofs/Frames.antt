-- What handing out was given that is not refused, and what it answers and leaves. Assumes nothing.
use Prim.Native.Nat.{ℕ, ◌*◌, ◌≤◌}
use mathlib.Core.Path.{◌≡◌, refl, sym, ap, ◌∙◌}
use mathlib.Core.Bool.{Bool, true, false, cond, not, true≢false}
use mathlib.Core.List.{List, [], ◌∷◌, ◌++◌, append_assoc}
use native.Mathlib.Omega.{arith}
use borrow.Author.Tests.{eqb-true, leb-true, not-false}
use lib.Dec.{eqb, leb, ltb}
use lib.ListN.{length, drop}
use Rattle.slices.specs.Slices.{some_at_least, over}
use Rattle.slices.proofs.Any.{both}
use Rattle.counters.specs.Counters.{first_stream, within}
use Rattle.counters.proofs.Within.{between}
use Rattle.setting.specs.Refusal.{of_length, Check, first_of, NoneHolds, leaves}
use Rattle.setting.specs.Rules.{pid_allowed, number_checks}
use Rattle.setting.specs.Size.{size_of, slots_of, streams_of}
use Rattle.setting.proofs.Refusals.{none_first, none_at, none_before as none-front, none_behind, numbered_append, onward, at_once}
use Rattle.setting.proofs.Fields.{at_most}
use Rattle.packet.specs.Packets.{packet_length}
use Rattle.receiver.specs.Table.{stage_checks, is_ready}
use Rattle.receiver.specs.Receiving.{HandedOut}
use Rattle.receiver.specs.Store.{store_length, numbered, slots_for, HasPackets}
use Rattle.receiver.proofs.Store.{has_packets}
use Rattle.receiver.specs.Receiving.{Receiver, receiver_checks, hand_out_refusal, hand_out_of, hand_out_buffer}
use Rattle.receiver.specs.Bytes.{receiver_length}
use Rattle.receiver.specs.Calls.{lent_refusal}
use Rattle.receiver.proofs.ReceiverChecks.{receiver_numbered}
use Rattle.receiver_hand_out.specs.Ready.{ready_checks}

-- a number between a first and a last value is no less than the first; and one that is not between them is not between the first and less
pub at_least : (first last n : ℕ) → within first last n ≡ true → first ≤ n
at_least first last n e = leb-true first n (both (leb first n) (leb n last) e).0

pub outside_less : (first last less n : ℕ) → less ≤ last → within first last n ≡ false → within first less n ≡ false
outside_less first last less n h e = by_test (within first less n) refl
  where
    by_test : (t : Bool) → within first less n ≡ t → t ≡ false
    by_test false d = refl
    by_test true d =
        let low = at_least first less n d in
        let high = at_most first less n d in
        absurd (true≢false (sym (between first last n low (omega arith)) ∙ e))

pub receiver_none : (c : Receiver) → first_of (receiver_checks c) ≡ 0 → NoneHolds (receiver_checks c)
receiver_none c e = none_first (receiver_checks c) (receiver_numbered c) e

-- the room is asked for last
module _ (c : Receiver) (r store : ℕ) where
  abbrev short : ℕ → Bool
  short out = ltb out (packet_length * slots_for r c.before)

  room_last : (out : ℕ) → hand_out_refusal c r store out ≡ first_of (ready_checks c r store ++ ((15, short out) ∷ []))
  unfolding hand_out_refusal ready_checks
  room_last out =
      ap (λ (cs : List Check). first_of ((1, not (eqb store (store_length (slots_of c.kind)))) ∷ cs))
      (sym (append_assoc (receiver_checks c) ((17, not (within first_stream (streams_of c.kind) r)) ∷ (16, not (is_ready c.stage)) ∷ []) ((15, short out) ∷ [])))

  pub refused_before : (out : ℕ) → (first_of (ready_checks c r store) ≡ 0 → ⊥) → hand_out_refusal c r store out ≡ first_of (ready_checks c r store)
  refused_before out h = room_last out ∙ at_once (ready_checks c r store) ((15, short out) ∷ []) h

  -- where nothing else is refused
  module _ (e : first_of (ready_checks c r store) ≡ 0) where
    none_before : NoneHolds (ready_checks c r store)
    unfolding ready_checks
    none_before =
        none_first (ready_checks c r store)
        (numbered_append (receiver_checks c) ((17, not (within first_stream (streams_of c.kind) r)) ∷ (16, not (is_ready c.stage)) ∷ []) (receiver_numbered c) refl) e

    whole_store : store ≡ store_length (slots_of c.kind)
    unfolding ready_checks
    whole_store = eqb-true store (store_length (slots_of c.kind)) (not-false _ (none_at none_before 0))

    -- a stream of the kind
    pub handed-number : (first_stream ≤ r) × (r ≤ streams_of c.kind)
    unfolding ready_checks
    handed-number =
        let behind = none_behind (receiver_checks c) (none_behind ((1, not (eqb store (store_length (slots_of c.kind)))) ∷ []) none_before) in
        let inside = not-false _ (none_at behind 0) in
        (at_least first_stream (streams_of c.kind) r inside, at_most first_stream (streams_of c.kind) r inside)

    -- behind the last slot there is no number
    no_number : some_at_least 1 (drop (slots_of c.kind) c.before) ≡ false
    unfolding ready_checks receiver_checks
    no_number =
        let checks = none_behind ((1, not (eqb store (store_length (slots_of c.kind)))) ∷ []) none_before in
        let state = none-front (receiver_checks c) _ checks in
        let numbers = none_behind (stage_checks (slots_of c.kind) c.stage) (none_behind ((2, not (pid_allowed c.pid)) ∷ []) state) in
        none_at (none_behind (number_checks (size_of c.kind) c.numbers) numbers) 1

    -- so a store of its length has the packets
    pub handed-packets : (bytes : List ℕ) → length bytes ≡ store → HasPackets r c.before bytes
    handed-packets bytes l =
        let whole = whole_store in
        has_packets r (slots_of c.kind) c.before bytes handed-number.0 no_number (omega arith)

    by_room : (out : ℕ) → hand_out_refusal c r store out ≡ cond (short out) 15 0
    unfolding first_of
    by_room out = room_last out ∙ onward ((15, short out) ∷ []) none_before

-- a refusal of the state is that of the call, where no check before it holds
pub state_first : (b : List ℕ) (state all : ℕ) {n : ℕ} → n ≡ lent_refusal b state → (n ≡ 0 → ⊥)
    → ((state ≡ 0 → ⊥) → all ≡ state) → n ≡ lent_refusal b all
unfolding lent_refusal of_length
state_first b state all {n} e h f = by_test (eqb (length b) receiver_length) e
  where
    by_test : (t : Bool) → n ≡ cond t state 1 → n ≡ cond t all 1
    by_test true e = e ∙ sym (f (λ z. h (e ∙ z)))
    by_test false e = e

-- ---- what it answers and leaves

module _ (c : Receiver) (r : ℕ) (store out : List ℕ) where
  -- where nothing but the room may be
  module _ (e : first_of (ready_checks c r (length store)) ≡ 0) {before : List ℕ} (b : before ≡ c.before) where
    pub handed_frame : {handed : HandedOut}
        → handed ≡ cond (ltb (length out) (packet_length * slots_for r before)) (record { refusal = 15; packets = 0 }) (record { refusal = 0; packets = slots_for r before })
        → handed ≡ hand_out_of c r (length store) (length out)
    unfolding hand_out_of
    handed_frame h = h ∙ rw (b, by_room c r (length store) e (length out)) (by_test (short c r (length store) (length out)))
      where
        by_test : (t : Bool)
            → ◌≡◌ {A = HandedOut} (cond t (record { refusal = 15; packets = 0 }) (record { refusal = 0; packets = slots_for r c.before }))
            (record { refusal = cond t 15 0; packets = cond (eqb (cond t 15 0) 0) (slots_for r c.before) 0 })
        by_test true = refl
        by_test false = refl

    pub handed_buffer : {after : List ℕ} → after ≡ cond (ltb (length out) (packet_length * slots_for r before)) out (over 0 (numbered r before store) out)
        → after ≡ hand_out_buffer c r store out
    unfolding hand_out_buffer leaves
    handed_buffer a = a ∙ rw (b, by_room c r (length store) e (length out)) (by_test (short c r (length store) (length out)))
      where
        by_test : (t : Bool) → cond t out (over 0 (numbered r c.before store) out) ≡ cond (eqb (cond t 15 0) 0) (over 0 (numbered r c.before store) out) out
        by_test true = refl
        by_test false = refl
