-- `both_rules_refusal` meets its contract: of two refusals it answers the smaller. Assumes nothing.
use Prim.Native.Nat.{ℕ, ◌<◌, ◌≤◌}
use mathlib.Core.List.{List}
use mathlib.Core.Path.{◌≡◌, sym, ap, ap₂, ◌∙◌}
use lib.ListN.{length, get_or}
use native.Mathlib.Omega.{arith}
use borrow.Author.Rules.{rules}
use borrow.Author.Tests.{ne_eqb, lt-ltb, le-ltb}
use Rattle.setting.proofs.Refusals.{at_length}
use Rattle.setting.specs.declared.Kind.{Kind}
use Rattle.refusals.proofs.Refusals.{is_some_number}
use Rattle.setting.specs.Refusal.{first_of, of_length}
use Rattle.setting.specs.Rules.{rule_checks}
use Rattle.composer.specs.Composing.{in_turn, open_rule_checks}
use Rattle.setting_bytes.specs.Kinds.{kind_of}
use Rattle.setting_bytes.specs.Settings.{setting_length, setting_of}
use Rattle.composer.specs.States.{composer_length, kind_at, composer_of}
use Rattle.composer.proofs.There.{kind_there}
use Rattle.composer_begin.proofs.Turns.{lesser, first_of-in_turn, rules_rise}
use Rattle.composer_begin.proofs.checks.both_rules_refusal.Goals as goal

-- by what each answered, once both were asked
module _ (state setting : List ℕ) (k : Kind) (kind : k ≡ kind_of (get_or state kind_at 0)) (long : length state ≡ composer_length) (whole : length setting ≡ setting_length) where
  abbrev old_rules : ℕ
  old_rules = of_length composer_length (length state) (first_of (open_rule_checks (composer_of state)))

  abbrev new_rules : ℕ
  new_rules = of_length setting_length (length setting) (first_of (rule_checks k (setting_of setting)))

  abbrev all : ℕ
  all = first_of (in_turn (open_rule_checks (composer_of state)) (rule_checks (composer_of state).kind (setting_of setting)))

  module _ {m n : ℕ} (old : m ≡ old_rules) (new : n ≡ new_rules) where
    both : lesser m n ≡ all
    unfolding open_rule_checks
    both =
        let run = composer_of state in
        let said = setting_of setting in
        ap₂ lesser
        (old ∙ at_length _ _ _ long)
        (new ∙ at_length _ _ _ whole ∙ ap (λ (x : Kind). first_of (rule_checks x said)) (kind ∙ sym (kind_there state)))
        ∙ sym (first_of-in_turn (omega arith) (rules_rise run.kind run.setting said run.is_open))

    new_first : (m ≡ 0 → ⊥) → (n ≡ 0 → ⊥) → n < m → n ≡ all
    new_first some some' less = rw (ne_eqb _ _ some, ne_eqb _ _ some', lt-ltb _ _ less) at both

    old_first : (m ≡ 0 → ⊥) → (n ≡ 0 → ⊥) → m ≤ n → m ≡ all
    old_first some some' less = rw (ne_eqb _ _ some, ne_eqb _ _ some', le-ltb _ _ less) at both

  new_alone : {n : ℕ} → 0 ≡ old_rules → n ≡ new_rules → n ≡ all
  new_alone old new = both old new

  old_alone : {m : ℕ} → m ≡ old_rules → 0 ≡ new_rules → (m ≡ 0 → ⊥) → m ≡ all
  old_alone old new some = rw (ne_eqb _ _ some) at (both old new)

pub returns-in_default : goal.returns-in_default
returns-in_default c = search (rules, new_alone)

pub returns-in-Err-rule_refusal : goal.returns-in-Err-rule_refusal
returns-in-Err-rule_refusal c = search (rules, new_first, is_some_number)

pub returns-in_default-rule_refusal : goal.returns-in_default-rule_refusal
returns-in_default-rule_refusal c = search (rules, old_first, is_some_number)

pub returns-in_default-rule_refusal-2 : goal.returns-in_default-rule_refusal-2
returns-in_default-rule_refusal-2 c = search (rules, old_alone, is_some_number)
