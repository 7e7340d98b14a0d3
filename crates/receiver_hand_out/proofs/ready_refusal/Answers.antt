-- `ready_refusal` meets its contract, check by check. Assumes nothing.
use Prim.Native.Nat.{ℕ, ◌≤◌, ◌<◌}
use mathlib.Core.Path.{◌≡◌, refl, sym, ap, ◌∙◌}
use mathlib.Core.Bool.{true, false, not}
use mathlib.Core.List.{List, [], ◌∷◌, ◌++◌}
use native.Mathlib.Omega.{arith}
use borrow.Author.Rules.{rules}
use borrow.Author.Tests.{eq-eqb, ne_eqb}
use lib.ListN.{length, get_or, drop}
use Rattle.refusals.specs.Refusals.{number, answer}
use Rattle.refusals.proofs.Refusals.{is_some_number}
use Rattle.counters.specs.Counters.{first_stream, last_stream, within}
use Rattle.counters.proofs.Within.{past, between, checked_in, checked_out}
use Rattle.setting.specs.declared.Kind.{Kind}
use Rattle.setting.specs.declared.Size.{Size}
use Rattle.setting.specs.Refusal.{Check, first_of}
use Rattle.setting.specs.Size.{size_of, slots_of, streams_of}
use Rattle.setting.proofs.Refusals.{answers, passed, onward, at_once}
use Rattle.setting.proofs.Sizes.{sized}
use Rattle.setting_bytes.specs.Kinds.{kind_of}
use Rattle.receiver.specs.Table.{is_ready}
use Rattle.receiver.specs.Store.{store_length}
use Rattle.receiver.specs.Receiving.{Receiver, receiver_checks}
use Rattle.receiver.specs.Bytes.{kind_at, stage_at, receiver_length, receiver_of}
use Rattle.receiver.specs.Calls.{lent_refusal, state_refused}
use Rattle.receiver.proofs.LentRefusal.{no_length, own_refusal, lent_accepted, one_anyway}
use Rattle.receiver.proofs.Standing.{ready_from_byte, not_ready}
use Rattle.receiver_hand_out.specs.Ready.{ready_checks}
use Rattle.receiver_hand_out.proofs.Frames.{at_least, outside_less, receiver_none, state_first}
use Rattle.receiver_hand_out.proofs.ready_refusal.Goals as goal

module _ (b : List ℕ) (r store : ℕ) where
  abbrev of : Receiver
  of = receiver_of b

  -- the refusal of the whole, and the checks behind the state's
  abbrev all : ℕ
  all = lent_refusal b (first_of (ready_checks of r store))

  abbrev last : List Check
  last = (17, not (within first_stream (streams_of of.kind) r)) ∷ (16, not (is_ready of.stage)) ∷ []

  module _ {k : Kind} {n : ℕ} (kind : k ≡ kind_of (get_or b kind_at 0)) (e : n ≡ store_length (slots_of k)) where
    -- the store's length is the kind's
    long_store : n ≡ store_length (slots_of of.kind)
    unfolding receiver_of
    long_store = e ∙ ap (λ (x : Kind). store_length (slots_of x)) kind

    off : (store ≡ n → ⊥) → 1 ≡ all
    unfolding ready_checks
    off other = one_anyway b (first_of (ready_checks of r store)) (answers 1 _ (ap not (ne_eqb _ _ (λ s. other (s ∙ sym long_store)))))

    module _ (fits : store ≡ n) where
      past_store : first_of (ready_checks of r store) ≡ first_of (receiver_checks of ++ last)
      unfolding ready_checks
      past_store = passed 1 _ (ap not (eq-eqb _ _ (fits ∙ long_store)))

      by_state : {m : ℕ} → m ≡ state_refused b → (m ≡ 0 → ⊥) → m ≡ all
      unfolding state_refused
      by_state told some = state_first b _ _ told some (λ z. past_store ∙ at_once (receiver_checks of) last z)

      module _ (good : 0 ≡ state_refused b) where
        accepted : (length b ≡ receiver_length) × (first_of (receiver_checks of) ≡ 0)
        unfolding state_refused
        accepted = lent_accepted b _ good refl

        past_state : all ≡ first_of last
        past_state = own_refusal b _ accepted.0 refl ∙ past_store ∙ onward last (receiver_none of accepted.1)

        no_stream : within first_stream last_stream r ≡ false → 17 ≡ all
        no_stream out = sym (past_state ∙ answers 17 _ (ap not (outside_less first_stream last_stream (streams_of of.kind) r (sized of.kind).streams out)))

        module _ (inside : within first_stream last_stream r ≡ true) {z : Size} (size : z ≡ size_of k) where
          streams : z.streams ≡ streams_of of.kind
          unfolding receiver_of
          streams = ap (λ (x : Size). x.streams) (size ∙ ap size_of kind)

          low : first_stream ≤ r
          low = at_least first_stream last_stream r inside

          too_high : z.streams < r → 17 ≡ all
          too_high high =
              let above : streams_of of.kind < r = omega (arith, streams, high) in
              sym (past_state ∙ answers 17 _ (ap not (past first_stream (streams_of of.kind) r low above)))

          module _ (known : r ≤ z.streams) where
            past_number : all ≡ first_of (drop 1 last)
            past_number =
                let below : r ≤ streams_of of.kind = omega (arith, streams, known) in
                past_state ∙ passed 17 _ (ap not (between first_stream (streams_of of.kind) r low below))

            none_ready : (get_or b stage_at 0 ≡ 2 → ⊥) → 16 ≡ all
            none_ready h = sym (past_number ∙ answers 16 _ (ap not (not_ready b accepted.1 h)))

            one_ready : get_or b stage_at 0 ≡ 2 → 0 ≡ all
            unfolding first_of
            one_ready e = sym (past_number ∙ passed 16 [] (ap not (ready_from_byte b accepted.1 e)))

pub returns-then-state-ne-RECEIVER_BYTES : goal.returns-then-state-ne-RECEIVER_BYTES
returns-then-state-ne-RECEIVER_BYTES c = no_length _ _ c.if-state-ne-RECEIVER_BYTES.true

pub returns-then-store-store_bytes : goal.returns-then-store-store_bytes
returns-then-store-store_bytes c =
    off c.args.state.now c.args.r.0 c.args.store c.kind_of-kind.ensures c.store_bytes.ensures c.if-store-store_bytes.true

pub returns-in_err-state_refusal : goal.returns-in_err-state_refusal
returns-in_err-state_refusal c =
    let refusal = c.in_err-state_refusal.field-0.0 in
    let passed_up : answer c.from_residual.result ≡ number refusal = search rules in
    passed_up
    ∙ by_state c.args.state.now c.args.r.0 c.args.store c.kind_of-kind.ensures c.store_bytes.ensures c.if-store-store_bytes.false
    c.in_err-state_refusal.ensures (is_some_number refusal)

pub returns-in_err-new : goal.returns-in_err-new
returns-in_err-new c =
    let refusal = c.in_err-new.field-0.0 in
    let passed_up : answer c.from_residual-in_err-new.result ≡ number refusal = search rules in
    let out = checked_out first_stream last_stream c.args.r.0 c.in_err-new.ensures (is_some_number refusal) in
    passed_up ∙ out.1
    ∙ no_stream c.args.state.now c.args.r.0 c.args.store c.kind_of-kind.ensures c.store_bytes.ensures c.if-store-store_bytes.false c.in_ok-state_refusal.ensures out.0

pub returns-then-size-r : goal.returns-then-size-r
returns-then-size-r c =
    let inside = checked_in first_stream last_stream c.args.r.0 c.in_ok-new.ensures in
    too_high c.args.state.now c.args.r.0 c.args.store c.kind_of-kind.ensures c.store_bytes.ensures c.if-store-store_bytes.false c.in_ok-state_refusal.ensures
    inside.0 c.size_of-size.ensures c.if-size-r.true

pub returns-then-state-ne2 : goal.returns-then-state-ne2
returns-then-state-ne2 c =
    let inside = checked_in first_stream last_stream c.args.r.0 c.in_ok-new.ensures in
    none_ready c.args.state.now c.args.r.0 c.args.store c.kind_of-kind.ensures c.store_bytes.ensures c.if-store-store_bytes.false c.in_ok-state_refusal.ensures
    inside.0 c.size_of-size.ensures c.if-size-r.false c.if-state-ne2.true

pub returns : goal.returns
returns c =
    let inside = checked_in first_stream last_stream c.args.r.0 c.in_ok-new.ensures in
    one_ready c.args.state.now c.args.r.0 c.args.store c.kind_of-kind.ensures c.store_bytes.ensures c.if-store-store_bytes.false c.in_ok-state_refusal.ensures
    inside.0 c.size_of-size.ensures c.if-size-r.false c.if-state-ne2.false
