-- `write_blank` meets its contract. Assumes nothing.
use mathlib.Core.Path.{◌≡◌, refl, sym, ◌∙◌}
use borrow.Author.Rules.{rules}
use borrow.Author.Tests.{eq-eqb, ne_eqb}
use lib.ListN.{length}
use Rattle.refusals.specs.Refusals.{number, answer}
use Rattle.refusals.proofs.Refusals.{is_some_number}
use Rattle.setting.specs.Refusal.{leaves}
use Rattle.setting_bytes.specs.Settings.{setting_length}
use Rattle.setting_calls.specs.Calls.{blank_refused, blank_memory}
use Rattle.setting_calls.proofs.Settled.{settled}
use Rattle.setting_calls.proofs.write_blank.Goals as goal

pub returns-in_err-call_refusal : goal.returns-in_err-call_refusal
unfolding blank_refused blank_memory leaves
returns-in_err-call_refusal c =
    let refusal = c.in_err-call_refusal.field-0.0 in
    let passed_up : answer c.from_residual.result ≡ number refusal = search rules in
    rw (sym c.in_err-call_refusal.ensures, ne_eqb (number refusal) 0 (is_some_number refusal)) (record { value = passed_up; setting_after = refl })

pub returns : goal.returns
unfolding blank_refused blank_memory leaves
returns c =
    let none = sym c.in_ok-call_refusal.ensures in
    let same = eq-eqb (length c.args.setting.now) setting_length (settled _ 0 none) in
    rw none (record { value = refl; setting_after = c.write_setting.ensures ∙ rw (same, c.blank.ensures) })
