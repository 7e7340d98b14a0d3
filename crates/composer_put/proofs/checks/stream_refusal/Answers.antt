-- `stream_refusal` meets its contract, check by check. Assumes nothing.
use Prim.Native.Nat.{ℕ, ◌*◌, ◌-◌, ◌/◌, min}
use mathlib.Core.Path.{◌≡◌, sym, ap, ◌∙◌}
use mathlib.Core.Bool.{true, false, not}
use mathlib.Core.List.{List}
use native.Mathlib.Nat.{sub-zero}
use borrow.Author.Rules.{rules}
use lib.Count.{ones}
use lib.ListN.{length, take}
use Rattle.counters.specs.Counters.{available, last_slot}
use Rattle.setting.specs.Refusal.{first_of, none, more}
use Rattle.setting.proofs.Refusals.{answers, passed, first_none}
use Rattle.packet.specs.Packets.{packet_length, some_unfit_in}
use Rattle.setting_bytes.specs.Settings.{part}
use Rattle.setting_bytes.specs.Words.{word_at}
use Rattle.slot_bits.specs.Bits.{slots_as_bits}
use Rattle.composer.specs.Slots.{empty_for, placed_by, some_unfit}
use Rattle.composer.specs.Composing.{stream_checks}
use Rattle.composer.specs.States.{composer_of, composer_length, marks_of, filled_at, plan_at, streams_at}
use Rattle.composer.proofs.There.{plan_there, availability_there}
use Rattle.composer_put.proofs.Counting.{placed_is}
use Rattle.composer_put.proofs.checks.stream_refusal.Goals as goal

-- whether the stream is available, and whether one of the packets that would be placed is unfit, as the state's bytes say it
module _ (state : List ℕ) (long : length state ≡ composer_length) (r : ℕ) (stream : List ℕ) {w : ℕ} (said : w ≡ word_at streams_at state) where
  available_said : available (composer_of state).setting.availability r ≡ available w r
  available_said = ap (λ (n : ℕ). available n r) (availability_there state long ∙ sym said)

  unavailable : available w r ≡ false → 13 ≡ first_of (stream_checks (composer_of state) r stream)
  unfolding stream_checks
  unavailable e = sym (answers _ _ (ap not (available_said ∙ e)))

  module _ (e : available w r ≡ true) {pid slots packets : ℕ} (p : pid ≡ word_at 0 state)
      (s : slots ≡ slots_as_bits (empty_for r (part plan_at last_slot state) (marks_of (part filled_at last_slot state))))
      (n : packets ≡ min (length stream / packet_length) (ones slots)) where
    unfit_said : some_unfit (composer_of state).pid r (composer_of state).setting.relative_ts_number (composer_of state).filled stream
        ≡ some_unfit_in pid (take (packet_length * packets - 0) stream)
    unfolding composer_of some_unfit
    unfit_said =
        let plan = part plan_at last_slot state in
        let marks = marks_of (part filled_at last_slot state) in
        let placed : placed_by r plan marks stream ≡ packets =
        placed_is r plan marks stream ∙ ap (λ (n : ℕ). min (length stream / packet_length) (ones n)) (sym s) ∙ sym n in
        rw (plan_there state long, sym p)
        (ap (λ (n : ℕ). some_unfit_in pid (take n stream)) (ap (λ (n : ℕ). packet_length * n) placed ∙ sym (sub-zero (packet_length * packets))))

    unfit : some_unfit_in pid (take (packet_length * packets - 0) stream) ≡ true → 12 ≡ first_of (stream_checks (composer_of state) r stream)
    unfolding stream_checks
    unfit h = sym (passed _ _ (ap not (available_said ∙ e)) ∙ answers _ _ (unfit_said ∙ h))

    fit : some_unfit_in pid (take (packet_length * packets - 0) stream) ≡ false → 0 ≡ first_of (stream_checks (composer_of state) r stream)
    unfolding stream_checks
    fit h = sym (first_none (more (ap not (available_said ∙ e)) (more (unfit_said ∙ h) none)))

pub returns-then-not-is_available : goal.returns-then-not-is_available
returns-then-not-is_available c = search (rules, unavailable)

pub returns-then-has_unfit : goal.returns-then-has_unfit
returns-then-has_unfit c = search (rules, unfit)

pub returns : goal.returns
returns c = search (rules, fit)
