use Prim.Native.Nat.{ℕ}
use mathlib.Core.Path.{◌≡◌, sym, ap, ◌∙◌}
use mathlib.Core.Bool.{not}
use mathlib.Core.List.{List, ◌++◌}
use borrow.Author.Rules.{rules}
use borrow.Author.Tests.{eq-eqb, ne_eqb}
use lib.ListN.{length, get_or}
use Rattle.refusals.proofs.Refusals.{is_some_number}
use Rattle.setting.specs.Refusal.{Check, first_of, of_length}
use Rattle.setting.proofs.Refusals.{passed, onward, at_once, at_length, off_length}
use Rattle.composer.specs.Composing.{open_rule_checks, mark_checks, open_checks}
use Rattle.composer.proofs.Refusals.{open_rules_none}
use Rattle.composer.specs.States.{composer_of, composer_length, open_at}
use Rattle.composer_checks.proofs.open_refusal.Goals as goal

-- behind the mark of an open frame: its rules, then its marks
module _ (b : List ℕ) (long : length b ≡ composer_length) (opened : get_or b open_at 0 ≡ 1) where
  abbrev asked : List Check → ℕ
  asked cs = of_length composer_length (length b) (first_of cs)

  past : asked (open_checks (composer_of b)) ≡ first_of (open_rule_checks (composer_of b) ++ mark_checks (composer_of b))
  unfolding open_checks composer_of
  past = at_length _ _ _ long ∙ passed _ _ (ap not (eq-eqb _ _ opened))

  by_rules : {n : ℕ} → n ≡ asked (open_rule_checks (composer_of b)) → (n ≡ 0 → ⊥) → n ≡ asked (open_checks (composer_of b))
  by_rules told some =
      let n = told ∙ at_length _ _ _ long in
      n ∙ sym (past ∙ at_once _ _ (λ none. some (n ∙ none)))

  by_marks : 0 ≡ asked (open_rule_checks (composer_of b)) → {n : ℕ} → n ≡ asked (mark_checks (composer_of b)) → n ≡ asked (open_checks (composer_of b))
  by_marks kept told = told ∙ at_length _ _ _ long ∙ sym (past ∙ onward _ (open_rules_none _ (sym (kept ∙ at_length _ _ _ long))))

pub returns-in_err-bytes : goal.returns-in_err-bytes
returns-in_err-bytes c = search (rules, off_length)

pub returns-then-bytes-ne1 : goal.returns-then-bytes-ne1
unfolding open_checks first_of composer_of
returns-then-bytes-ne1 c = search (rules, at_length, ne_eqb)

pub returns-in_err-open_rule_refusal : goal.returns-in_err-open_rule_refusal
returns-in_err-open_rule_refusal c = search (rules, by_rules, is_some_number)

pub returns : goal.returns
returns c = search (rules, by_marks)
