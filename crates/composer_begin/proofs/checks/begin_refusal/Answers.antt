-- `begin_refusal` meets its contract, check by check. Assumes nothing.
use Prim.Native.Nat.{ℕ}
use mathlib.Core.Path.{◌≡◌, sym, ap, ◌∙◌}
use mathlib.Core.List.{List, ◌++◌}
use borrow.Author.Rules.{rules}
use lib.ListN.{length, get_or}
use Rattle.refusals.proofs.Refusals.{is_some_number}
use Rattle.setting.specs.declared.Kind.{Kind}
use Rattle.setting.specs.declared.Setting.{Setting}
use Rattle.setting.specs.Refusal.{Check, first_of, of_length}
use Rattle.setting.specs.Rules.{width_checks, rule_checks}
use Rattle.setting.proofs.Refusals.{onward, at_once, at_length}
use Rattle.setting.proofs.Checked.{width_none}
use Rattle.setting.specs.Size.{slots_of}
use Rattle.packet.specs.Packets.{frame_length}
use Rattle.composer.specs.Composing.{Composer, state_checks, open_rule_checks, mark_checks, in_turn, begin_refusal}
use Rattle.composer.proofs.Refusals.{state_refused, state_passed}
use Rattle.setting_bytes.specs.Kinds.{kind_of}
use Rattle.setting_bytes.specs.Settings.{setting_length, setting_of}
use Rattle.composer.specs.States.{composer_length, kind_at, composer_of}
use Rattle.composer.proofs.There.{kind_there, frame_off, frame_fits}
use Rattle.composer_begin.proofs.Turns.{both_rules_none}
use Rattle.composer_begin.proofs.checks.begin_refusal.Goals as goal

module _ (state setting : List ℕ) (lent : ℕ) (long : length state ≡ composer_length) (whole : length setting ≡ setting_length) where
  -- the state and the setting that the bytes say
  abbrev run : Composer
  run = composer_of state

  abbrev new : Setting
  new = setting_of setting

  -- the refusal of the whole, and its parts behind the length
  abbrev all : ℕ
  all = begin_refusal run new lent

  abbrev states : List Check
  states = state_checks run

  abbrev widths : List Check
  widths = width_checks run.kind new

  abbrev its_rules : List Check
  its_rules = in_turn (open_rule_checks run) (rule_checks run.kind new)

  abbrev marks : List Check
  marks = mark_checks run

  module _ (k : Kind) (kind : k ≡ kind_of (get_or state kind_at 0)) where
    off : {n : ℕ} → n ≡ frame_length (slots_of k) → (lent ≡ n → ⊥) → 1 ≡ all
    unfolding begin_refusal
    off e = frame_off state kind lent e _

    module _ {n : ℕ} (e : n ≡ frame_length (slots_of k)) (fits : lent ≡ n) where
      past_length : all ≡ first_of (states ++ (widths ++ (its_rules ++ marks)))
      unfolding begin_refusal
      past_length = frame_fits state kind lent e _ fits

      by_state : {m : ℕ} → m ≡ of_length composer_length (length state) (first_of states) → (m ≡ 0 → ⊥) → m ≡ all
      by_state = state_refused run (length state) long (widths ++ (its_rules ++ marks)) past_length

      module _ (good : 0 ≡ of_length composer_length (length state) (first_of states)) where
        past_state : all ≡ first_of (widths ++ (its_rules ++ marks))
        past_state = state_passed run (length state) long (widths ++ (its_rules ++ marks)) past_length good

        wide : {m : ℕ} → m ≡ of_length setting_length (length setting) (first_of (width_checks k new)) → m ≡ first_of widths
        wide told = told ∙ at_length _ _ _ whole ∙ ap (λ (x : Kind). first_of (width_checks x new)) (kind ∙ sym (kind_there state))

        by_widths : {m : ℕ} → m ≡ of_length setting_length (length setting) (first_of (width_checks k new)) → (m ≡ 0 → ⊥) → m ≡ all
        by_widths told some =
            wide told ∙ sym (past_state ∙ at_once widths (its_rules ++ marks) (λ none. some (wide told ∙ none)))

        module _ (narrow : 0 ≡ of_length setting_length (length setting) (first_of (width_checks k new))) where
          past_widths : all ≡ first_of (its_rules ++ marks)
          past_widths = past_state ∙ onward (its_rules ++ marks) (width_none run.kind new (sym (wide narrow)))

          by_rules : {m : ℕ} → m ≡ first_of its_rules → (m ≡ 0 → ⊥) → m ≡ all
          by_rules told some = told ∙ sym (past_widths ∙ at_once its_rules marks (λ none. some (told ∙ none)))

          by_marks : 0 ≡ first_of its_rules → {m : ℕ} → m ≡ of_length composer_length (length state) (first_of marks) → m ≡ all
          by_marks kept told = told ∙ at_length _ _ _ long ∙ sym (past_widths ∙ onward marks (both_rules_none run new (sym kept)))

pub returns-then-lent-frame_bytes : goal.returns-then-lent-frame_bytes
returns-then-lent-frame_bytes c = search (rules, off)

pub returns-in_err-state_refusal : goal.returns-in_err-state_refusal
returns-in_err-state_refusal c = search (rules, by_state, is_some_number)

pub returns-in_err-width_refusal : goal.returns-in_err-width_refusal
returns-in_err-width_refusal c = search (rules, by_widths, is_some_number)

pub returns-in_err-both_rules_refusal : goal.returns-in_err-both_rules_refusal
returns-in_err-both_rules_refusal c = search (rules, by_rules, is_some_number)

pub returns : goal.returns
returns c = search (rules, by_marks)
