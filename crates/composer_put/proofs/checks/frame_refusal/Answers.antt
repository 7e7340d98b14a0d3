-- `frame_refusal` meets its contract, check by check. Assumes nothing.
use Prim.Native.Nat.{ℕ, ◌%◌, ◌≤◌, ◌<◌}
use mathlib.Core.Path.{◌≡◌, sym, ap, ◌∙◌}
use mathlib.Core.Bool.{true, false, cond, not}
use mathlib.Core.List.{List, ◌∷◌, ◌++◌}
use native.Mathlib.Decide.{ℕ_discrete}
use native.Mathlib.Omega.{arith}
use borrow.Author.Rules.{rules}
use borrow.Author.Tests.{eq-eqb, ne_eqb}
use lib.Dec.{eqb}
use lib.ListN.{length, get_or}
use Rattle.refusals.proofs.Refusals.{is_some_number}
use Rattle.counters.specs.Counters.{first_stream, last_stream, within}
use Rattle.counters.proofs.Within.{past, between, checked_in, checked_out}
use Rattle.setting.specs.declared.Kind.{Kind}
use Rattle.setting.specs.declared.Size.{Size}
use Rattle.setting.specs.Size.{size_of, slots_of, streams_of}
use Rattle.setting.specs.Refusal.{Check, first_of, of_length, NoneHolds}
use Rattle.setting.proofs.Sizes.{sized}
use Rattle.setting.proofs.Refusals.{at_length, answers, passed, onward, at_once}
use Rattle.setting_bytes.specs.Kinds.{kind_of}
use Rattle.packet.specs.Packets.{packet_length, frame_length}
use Rattle.composer.specs.Composing.{Composer, state_checks, open_checks, stream_checks, put_refusal}
use Rattle.composer.proofs.Refusals.{open_none, state_refused, state_passed}
use Rattle.composer.specs.States.{composer_length, kind_at, composer_of}
use Rattle.composer.proofs.There.{kind_there, frame_off, frame_fits}
use Rattle.composer_put.proofs.Streams.{at_least, outside}
use Rattle.composer_put.proofs.checks.frame_refusal.Goals as goal

-- checks in two parts: the second answers where the first does not
in_parts : (cs ds : List Check) → (first_of cs ≡ 0 → NoneHolds cs) → first_of (cs ++ ds) ≡ cond (eqb (first_of cs) 0) (first_of ds) (first_of cs)
in_parts cs ds none = either (ℕ_discrete (first_of cs) 0)
  where
    either : Dec (first_of cs ≡ 0) → first_of (cs ++ ds) ≡ cond (eqb (first_of cs) 0) (first_of ds) (first_of cs)
    either (yes z) = rw z (onward ds (none z))
    either (no h) = rw (ne_eqb _ 0 h) (at_once cs ds h)

module _ (state : List ℕ) (r : ℕ) (stream : List ℕ) (lent : ℕ) (long : length state ≡ composer_length) where
  abbrev run : Composer
  run = composer_of state

  -- the refusal of the whole, and its parts
  abbrev all : ℕ
  all = put_refusal run r stream lent

  abbrev states : List Check
  states = state_checks run

  abbrev opens : List Check
  opens = open_checks run

  abbrev streams : List Check
  streams = stream_checks run r stream

  abbrev numbers : List Check
  numbers = (17, not (within first_stream (streams_of run.kind) r)) ∷ (opens ++ streams)

  -- what is said of a put by n
  abbrev Says : ℕ → Type 0
  Says n = all ≡ cond (eqb n 0) (first_of streams) n

  says : {n : ℕ} → (n ≡ 0 → ⊥) → all ≡ n → Says n
  says some e = rw (ne_eqb _ 0 some) e

  module _ (k : Kind) (kind : k ≡ kind_of (get_or state kind_at 0)) {n : ℕ} (e : n ≡ frame_length (slots_of k)) where
    off : (lent ≡ n → ⊥) → all ≡ 1
    unfolding put_refusal
    off other = sym (frame_off state kind lent e _ other)

    module _ (fits : lent ≡ n) where
      parted : (length stream % packet_length ≡ 0 → ⊥) → all ≡ 1
      unfolding put_refusal
      parted h = frame_fits state kind lent e _ fits ∙ answers _ _ (ap not (ne_eqb _ _ h))

      module _ (whole : length stream % packet_length ≡ 0) where
        past_lengths : all ≡ first_of (states ++ numbers)
        unfolding put_refusal
        past_lengths = frame_fits state kind lent e _ fits ∙ passed _ _ (ap not (eq-eqb _ _ whole))

        by_state : {m : ℕ} → m ≡ of_length composer_length (length state) (first_of states) → (m ≡ 0 → ⊥) → Says m
        by_state told some = says some (sym (state_refused run (length state) long numbers past_lengths told some))

        module _ (good : 0 ≡ of_length composer_length (length state) (first_of states)) where
          past_state : all ≡ first_of numbers
          past_state = state_passed run (length state) long numbers past_lengths good

          no_stream : within first_stream last_stream r ≡ false → {m : ℕ} → m ≡ 17 → Says m
          no_stream out {m} e = says {n = m} (omega arith) (rw e (past_state ∙ answers _ _ (ap not (outside first_stream last_stream (streams_of run.kind) r (sized run.kind).streams out))))

          module _ (inside : within first_stream last_stream r ≡ true) {m : ℕ} (most : m ≡ streams_of run.kind) where
            too_high : m < r → all ≡ 17
            too_high high =
                let above : streams_of run.kind < r = omega (arith, most, high) in
                past_state ∙ answers _ _ (ap not (past first_stream _ _ (at_least first_stream last_stream _ inside) above))

            by_frame : r ≤ m → {o : ℕ} → o ≡ of_length composer_length (length state) (first_of opens) → Says o
            by_frame low told =
                let below : r ≤ streams_of run.kind = omega (arith, most, low) in
                rw (told ∙ at_length _ _ _ long)
                (past_state ∙ passed _ _ (ap not (between first_stream _ _ (at_least first_stream last_stream _ inside) below)) ∙ in_parts opens streams (open_none run))

-- how many streams the run's kind has
streams_told : (state : List ℕ) {z : Size} {k : Kind} → z ≡ size_of k → k ≡ kind_of (get_or state kind_at 0) → z.streams ≡ streams_of (composer_of state).kind
streams_told state e kind = ap (λ (x : Size). x.streams) e ∙ ap streams_of (kind ∙ sym (kind_there state))

pub returns-then-lent-frame_bytes : goal.returns-then-lent-frame_bytes
returns-then-lent-frame_bytes c = search (rules, off)

pub returns-then-stream-ne0 : goal.returns-then-stream-ne0
returns-then-stream-ne0 c = search (rules, parted)

pub returns-in_err-state_refusal : goal.returns-in_err-state_refusal
returns-in_err-state_refusal c = search (rules, by_state, is_some_number)

pub returns-in_err-number : goal.returns-in_err-number
returns-in_err-number c =
    let out = checked_out first_stream last_stream c.args.r.0 c.in_err-number.ensures (is_some_number c.in_err-number.field-0.0) in
    search (rules, no_stream)

pub returns-then-size-number : goal.returns-then-size-number
returns-then-size-number c =
    let inside = checked_in first_stream last_stream c.args.r.0 c.in_ok-number.ensures in
    search (rules, too_high, streams_told)

pub returns : goal.returns
returns c =
    let inside = checked_in first_stream last_stream c.args.r.0 c.in_ok-number.ensures in
    search (rules, by_frame, streams_told)
