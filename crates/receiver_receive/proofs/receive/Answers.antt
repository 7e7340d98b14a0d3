-- `receive` meets its contract: the usual packet, or refused, or a packet that may stand in a slot, or one that may not. Assumes nothing.
use Prim.Native.Nat.{ℕ}
use mathlib.Core.Path.{◌≡◌, refl, sym, ap, subst, ◌∙◌}
use mathlib.Core.Bool.{true, false}
use mathlib.Core.List.{List}
use native.Mathlib.Omega.{arith}
use borrow.Author.Rules.{rules}
use lib.ListN.{length}
use Rattle.std.specs.Prelude.{Result, Ok, Err}
use Rattle.refusals.specs.declared.Refusal.{Refusal}
use Rattle.receiver.specs.declared.Event.{Event}
use Rattle.refusals.specs.Refusals.{number, answer}
use Rattle.refusals.proofs.Refusals.{is_some_number, let_through, held_back}
use Rattle.setting.proofs.Sizes.{sized}
use Rattle.setting_bytes.specs.Words.{word_at}
use Rattle.packet.specs.Packets.{unfit, place_refusal}
use Rattle.packet.proofs.Fit.{may_stand, may_not_stand}
use Rattle.receiver.specs.Receiving.{receive_refusal, receive_of}
use Rattle.receiver.specs.Bytes.{pid_at, receiver_length, receiver_of, told, receiver_bytes}
use Rattle.receiver.specs.Calls.{lent_refusal, receive_refused, receive_event, receive_remainder, receive_state, receive_memory}
use Rattle.receiver.proofs.Answers.{Receives, when_receive_refused, receives}
use Rattle.receiver.proofs.LentRefusal.{no_length, lent_accepted}
use Rattle.receiver_receive.specs.Receive.{told_in}
use Rattle.receiver_receive.proofs.Receipts.{whole_packet, whole_store, unfit_store}
use Rattle.receiver_receive.proofs.Taking.{stored_on}
use Rattle.receiver_receive.proofs.receive.Goals as goal

-- what is asked of a call, clause by clause, where `b` are the bytes that it was lent
answered : {lent b after memory : List ℕ} (p store : List ℕ) (r : Result Event Refusal) → lent ≡ b → Receives b p store (answer r) (told_in r).event (told_in r).remainder after memory
    → record {
      value : answer r ≡ receive_refused lent p store;
      event : (told_in r).event ≡ receive_event lent p store;
      remainder : (told_in r).remainder ≡ receive_remainder lent p store;
      state_after : after ≡ receive_state lent p store;
      store_after : memory ≡ receive_memory lent p store;
    }
answered p store r e all = rw e (record { value = all.0; event = all.1.0; remainder = all.1.1.0; state_after = all.1.1.1.0; store_after = all.1.1.1.1 })

-- a refusal is passed up, and nothing is told or written
turned_away : (b p store : List ℕ) (why : Refusal) {r : Result Event Refusal} → r ≡ Err why → number why ≡ lent_refusal b (receive_refusal (receiver_of b) (length p) (length store))
    → Receives b p store (answer r) (told_in r).event (told_in r).remainder b store
turned_away b p store why passed_up e =
    let all = when_receive_refused b p store e (is_some_number why) in
    (ap answer passed_up ∙ all.0, (ap (λ r. (told_in r).event) passed_up ∙ all.1.0, (ap (λ r. (told_in r).remainder) passed_up ∙ all.1.1.0, all.1.1.1)))

-- ---- the usual packet

pub store_next-requires : goal.store_next-requires
store_next-requires c =
    let u = c.is_usual.ensures c.if-is_usual.true in
    let w = receiver_of c.args.state.now in record {
      state_len = (u.whole, omega (arith, u.room, (sized w.kind).slots));
      packet_len = (whole_packet w _ _ u.granted, omega (arith, u.room, whole_store w _ _ u.granted));
    }

pub returns-then-is_usual : goal.returns-then-is_usual
unfolding told
returns-then-is_usual c =
    let a = c.args in
    let u = c.is_usual.ensures c.if-is_usual.true in
    let on = stored_on c.args.state.now a.packet.now a.store.now u.whole c.are_bytes.ensures u.fits u.granted (λ z. omega (arith, u.opened, z)) u.room in
    answered _ _ (Ok Event.Stored) refl
    (receives c.args.state.now a.packet.now a.store.now u.whole u.granted (sym on.0) (c.store_next.ensures.state_after ∙ on.1.0) (c.store_next.ensures.store_after ∙ on.1.1))

-- ---- any other

pub returns-in_err-state : goal.returns-in_err-state
returns-in_err-state c =
    let a = c.args in
    let other : length a.state.now ≡ receiver_length → ⊥ = search rules in
    let passed_up : c.from_residual.result ≡ Err Refusal.Length = search rules in
    answered _ _ c.from_residual.result refl
    (turned_away a.state.now a.packet.now a.store.now Refusal.Length passed_up (no_length _ _ other))

pub returns-in_err-receive_refusal : goal.returns-in_err-receive_refusal
returns-in_err-receive_refusal c =
    let a = c.args in
    let same : c.args.state.now ≡ c.in_ok-state.field-0.now = search rules in
    let refusal = c.in_err-receive_refusal.field-0.0 in
    let passed_up : c.from_residual-in_err-receive_refusal.result ≡ Err refusal = search rules in
    answered _ _ c.from_residual-in_err-receive_refusal.result same
    (turned_away c.in_ok-state.field-0.now a.packet.now a.store.now refusal passed_up c.in_err-receive_refusal.ensures)

module _ (b p store : List ℕ) (passed : 0 ≡ lent_refusal b (receive_refusal (receiver_of b) (length p) (length store))) where
  -- what is lent has its lengths, and nothing is refused
  granted : (length b ≡ receiver_length) × (receive_refusal (receiver_of b) (length p) (length store) ≡ 0)
  granted = lent_accepted b _ passed refl

  -- whether the packet may stand in a slot was asked with the PID that the state says
  asked : {n m : ℕ} → n ≡ word_at pid_at b → m ≡ place_refusal n p → m ≡ place_refusal (receiver_of b).pid p
  unfolding receiver_of
  asked e told = told ∙ ap (λ (n : ℕ). place_refusal n p) e

  stands : {n m : ℕ} → n ≡ word_at pid_at b → m ≡ place_refusal n p → m ≡ 0 → unfit (receiver_of b).pid p ≡ false
  stands e told z = may_stand _ _ (sym (asked e told) ∙ z)

  stands_not : {n m : ℕ} → n ≡ word_at pid_at b → m ≡ place_refusal n p → (m ≡ 0 → ⊥) → unfit (receiver_of b).pid p ≡ true
  stands_not e told h = may_not_stand _ p (whole_packet (receiver_of b) _ _ granted.1) (λ z. h (asked e told ∙ z))

pub take_packet-requires : goal.take_packet-requires
take_packet-requires c =
    let a = c.args in
    let same : c.args.state.now ≡ c.in_ok-state.field-0.now = search rules in
    let g = granted c.in_ok-state.field-0.now a.packet.now a.store.now c.in_ok-receive_refusal.ensures in
    let through = let_through c.place_refusal.result (sym c.is_ok.ensures.value ∙ c.if-is_ok.true) in
    record {
      bytes = rw same at c.are_bytes.ensures;
      packet_value = (stands c.in_ok-state.field-0.now a.packet.now a.store.now c.in_ok-receive_refusal.ensures c.word.ensures c.place_refusal.ensures through, g.1);
    }

pub returns-then-is_ok : goal.returns-then-is_ok
returns-then-is_ok c =
    let a = c.args in
    let same : c.args.state.now ≡ c.in_ok-state.field-0.now = search rules in
    let g = granted c.in_ok-state.field-0.now a.packet.now a.store.now c.in_ok-receive_refusal.ensures in
    answered _ _ (Ok c.take_packet.result) same
    (receives c.in_ok-state.field-0.now a.packet.now a.store.now g.0 g.1 c.take_packet.ensures.value c.take_packet.ensures.state_after c.take_packet.ensures.store_after)

pub take_header-requires : goal.take_header-requires
take_header-requires c =
    let a = c.args in
    let same : c.args.state.now ≡ c.in_ok-state.field-0.now = search rules in
    let w = receiver_of c.in_ok-state.field-0.now in
    let p = a.packet.now in
    let g = granted c.in_ok-state.field-0.now p a.store.now c.in_ok-receive_refusal.ensures in
    let back = held_back c.place_refusal.result (sym c.is_ok.ensures.value ∙ c.if-is_ok.false) in
    record {
      bytes = rw same at c.are_bytes.ensures;
      packet_value = (
        stands_not c.in_ok-state.field-0.now p a.store.now c.in_ok-receive_refusal.ensures c.word.ensures c.place_refusal.ensures back,
        subst (λ (n : ℕ). receive_refusal w (length p) n ≡ 0) (whole_store w _ _ g.1) g.1,
      );
    }

pub returns : goal.returns
returns c =
    let a = c.args in
    let same : c.args.state.now ≡ c.in_ok-state.field-0.now = search rules in
    let w = receiver_of c.in_ok-state.field-0.now in
    let p = a.packet.now in
    let g = granted c.in_ok-state.field-0.now p a.store.now c.in_ok-receive_refusal.ensures in
    let whole = sym (whole_store w _ _ g.1) in
    let back = held_back c.place_refusal.result (sym c.is_ok.ensures.value ∙ c.if-is_ok.false) in
    let none = stands_not c.in_ok-state.field-0.now p a.store.now c.in_ok-receive_refusal.ensures c.word.ensures c.place_refusal.ensures back in
    answered _ _ (Ok c.take_header.result) same
    (receives c.in_ok-state.field-0.now p a.store.now g.0 g.1
    (c.take_header.ensures.value ∙ ap (λ (n : ℕ). told (receive_of w p n).event) whole)
    (c.take_header.ensures.state_after ∙ ap (λ (n : ℕ). receiver_bytes (receive_of w p n).state) whole)
    (unfit_store w p a.store.now g.1 none))
