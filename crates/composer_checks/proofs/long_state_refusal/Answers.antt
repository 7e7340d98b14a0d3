-- `long_state_refusal` meets its contract, row by row. Assumes nothing.
use Prim.Native.Nat.{ℕ, ◌<◌}
use mathlib.Core.Path.{◌≡◌, sym, ap, ◌∙◌}
use mathlib.Core.Bool.{true}
use mathlib.Core.List.{List}
use native.Mathlib.Omega.{arith}
use borrow.Author.Rules.{rules}
use lib.ListN.{length, get_or}
use Rattle.refusals.proofs.Refusals.{is_some_number}
use Rattle.setting.specs.declared.Kind.{Kind}
use Rattle.setting.specs.Announcing.{announced_checks}
use Rattle.setting.specs.Refusal.{first_of, of_length}
use Rattle.setting.specs.Rules.{pid_allowed, width_checks}
use Rattle.setting.proofs.Refusals.{onward, at_once, at_length}
use Rattle.setting_bytes.specs.Kinds.{kind_of}
use Rattle.setting_bytes.specs.Settings.{part, announced_length, announced_of}
use Rattle.setting_bytes.specs.Words.{word_at}
use Rattle.setting_bytes.proofs.Parts.{length_part}
use Rattle.composer.proofs.Refusals.{announced_none}
use Rattle.composer.specs.Composing.{asked, state_checks}
use Rattle.composer.specs.States.{composer_length, composer_of, last_at, kind_at, counter_at, version_at, is_coded}
use Rattle.composer_checks.proofs.Rows.{at-pid, at_coding, at_counter, at_version, behind_numbers}
use Rattle.composer_checks.proofs.long_state_refusal.Goals as goal

-- behind the checks of the numbers: what the last header announced, as the state says it, and the fields of an open frame's setting
module _ (b : List ℕ) (long : length b ≡ composer_length) (k : Kind) (kind : k ≡ kind_of (get_or b kind_at 0))
    (p : pid_allowed (word_at 0 b) ≡ true) (c : is_coded b ≡ true) (l : get_or b counter_at 0 < 16) (v : get_or b version_at 0 < 8) where
  abbrev last : List ℕ
  last = part last_at announced_length b

  abbrev asked_last : ℕ
  asked_last = of_length announced_length (length last) (first_of (announced_checks k (announced_of last)))

  announced : {n : ℕ} → n ≡ asked_last → n ≡ first_of (announced_checks (composer_of b).kind (composer_of b).last)
  unfolding composer_of
  announced told =
      told ∙ at_length _ _ _ (length_part last_at announced_length b (omega (arith, long)))
      ∙ ap (λ (x : Kind). first_of (announced_checks x (announced_of last))) kind

  by_last : {n : ℕ} → n ≡ asked_last → (n ≡ 0 → ⊥) → n ≡ first_of (state_checks (composer_of b))
  by_last told some = announced told ∙ sym (behind_numbers b p c l v ∙ at_once _ _ (λ none. some (announced told ∙ none)))

  by_widths : 0 ≡ asked_last → {n : ℕ} → n ≡ first_of (asked (composer_of b).is_open (width_checks (composer_of b).kind (composer_of b).setting))
      → n ≡ first_of (state_checks (composer_of b))
  by_widths kept told = told ∙ sym (behind_numbers b p c l v ∙ onward _ (announced_none _ _ (sym (announced kept))))

pub returns-then-not-pid_allowed : goal.returns-then-not-pid_allowed
returns-then-not-pid_allowed c = search (rules, at-pid)

pub returns-then-not-is_coded : goal.returns-then-not-is_coded
returns-then-not-is_coded c = search (rules, at_coding)

pub returns-then-bytes-ge-COUNTERS : goal.returns-then-bytes-ge-COUNTERS
returns-then-bytes-ge-COUNTERS c = search (rules, at_counter)

pub returns-then-bytes-ge-VERSIONS : goal.returns-then-bytes-ge-VERSIONS
returns-then-bytes-ge-VERSIONS c = search (rules, at_version)

pub returns-in_err-last_refusal : goal.returns-in_err-last_refusal
unfolding composer_of
returns-in_err-last_refusal c = search (rules, by_last, is_some_number)

pub returns : goal.returns
unfolding composer_of
returns c = search (rules, by_widths)
