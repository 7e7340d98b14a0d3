-- `check_rules` meets its contract. Assumes nothing.
use mathlib.Core.Path.{◌≡◌, refl, ◌∙◌}
use borrow.Author.Rules.{rules}
use Rattle.refusals.specs.Refusals.{number, answer}
use Rattle.refusals.proofs.Refusals.{is_some_number}
use Rattle.setting.specs.Rules.{rule_checks}
use Rattle.setting_calls.specs.Calls.{rules_refused}
use Rattle.setting_calls.proofs.Checked.{when_call_refused, then_checked}
use Rattle.setting_calls.proofs.check_rules.Goals as goal

pub returns-in_err-call_refusal : goal.returns-in_err-call_refusal
unfolding rules_refused
returns-in_err-call_refusal c =
    let refusal = c.in_err-call_refusal.field-0.0 in
    let passed_up : answer c.from_residual.result ≡ number refusal = search rules in
    passed_up ∙ when_call_refused rule_checks _ _ _ c.in_err-call_refusal.ensures (is_some_number refusal)

pub returns : goal.returns
unfolding rules_refused
returns c = then_checked rule_checks _ _ _ c.in_ok-call_refusal.ensures _ _ refl c.kind_of.ensures c.rule_refusal.ensures
