-- `read` meets its contract. Assumes nothing.
use mathlib.Core.Path.{◌≡◌, sym, ap, ◌∙◌}
use borrow.Author.Rules.{rules}
use Rattle.std.specs.Prelude.{Err}
use Rattle.refusals.proofs.Refusals.{is_some_number}
use Rattle.setting.specs.declared.Kind.{Kind}
use Rattle.setting_bytes.specs.Kinds.{kind_of}
use Rattle.header_check.specs.declared.Refused.{Refused}
use Rattle.header_check.specs.OnPaper.{refusal_in}
use Rattle.header_read.specs.Reader.{into_refused, into_memory}
use Rattle.header_calls.proofs.Called.{called}
use Rattle.header_calls.proofs.ReadCall.{when_call_refused, call_granted}
use Rattle.header_calls.proofs.read.Goals as goal

pub returns-in_err-call_refusal : goal.returns-in_err-call_refusal
returns-in_err-call_refusal c =
    let s = c.args in
    let refusal = c.in_err-call_refusal.field-0.0 in
    let why : Refused = record { refusal = refusal; remainder = 0 } in
    let passed_up : c.from_residual.result ≡ Err why = search rules in
    let all = when_call_refused s.packet.now s.pid s.kind s.setting.now c.in_err-call_refusal.ensures (is_some_number refusal) in record {
      value = ap (λ r. (refusal_in {T = Unit} r).number) passed_up ∙ all.0;
      remainder_shown = ap (λ r. (refusal_in {T = Unit} r).remainder) passed_up ∙ all.1.0;
      setting_after = all.1.1;
    }

pub returns : goal.returns
returns c =
    let s = c.args in
    let none = sym c.in_ok-call_refusal.ensures in
    let same : c.kind_of.result ≡ kind_of s.kind = c.kind_of.ensures in
    let long = (called _ _ _ _ none).setting_long in
    let all = call_granted s.packet.now s.pid s.kind s.setting.now none long
    (c.read_into.ensures.value ∙ ap (λ (k : Kind). into_refused k s.pid s.packet.now s.setting.now) same)
    (c.read_into.ensures.setting_after ∙ ap (λ (k : Kind). into_memory k s.pid s.packet.now s.setting.now) same) in record {
      value = all.0;
      remainder_shown = all.1.0;
      setting_after = all.1.1;
    }
