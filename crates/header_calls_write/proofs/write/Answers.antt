-- `write` meets its contract. Assumes nothing.
use mathlib.Core.Path.{◌≡◌, refl, sym}
use borrow.Author.Rules.{rules}
use borrow.Author.Tests.{eq-eqb, ne_eqb}
use lib.ListN.{length}
use Rattle.refusals.specs.Refusals.{number, answer}
use Rattle.refusals.proofs.Refusals.{is_some_number}
use Rattle.setting.specs.Refusal.{of_length, leaves}
use Rattle.setting_bytes.specs.Kinds.{kind_of}
use Rattle.setting_bytes.specs.Settings.{setting_length}
use Rattle.header_calls.specs.Calls.{then_refused, write_refused, write_memory}
use Rattle.header_calls.proofs.Called.{called}
use Rattle.header_calls_write.proofs.write.Goals as goal

pub returns-in_err-call_refusal : goal.returns-in_err-call_refusal
unfolding write_refused write_memory then_refused leaves
returns-in_err-call_refusal c =
    let refusal = c.in_err-call_refusal.field-0.0 in
    let passed_up : answer c.from_residual.result ≡ number refusal = search rules in
    rw (sym c.in_err-call_refusal.ensures, ne_eqb (number refusal) 0 (is_some_number refusal)) (record { value = passed_up; packet_after = refl })

-- the bytes are a setting's, so the writer refuses them for what they say alone
pub returns : goal.returns
unfolding write_refused write_memory then_refused leaves of_length
returns c =
    let none = sym c.in_ok-call_refusal.ensures in
    let same : kind_of c.args.kind ≡ c.kind_of.result = sym c.kind_of.ensures in
    let done = rw (eq-eqb (length c.args.setting.now) setting_length (called _ _ _ _ none).setting_long) at c.write.ensures in
    rw (none, same) (record { value = done.value; packet_after = done.buffer_after })
