-- `numbers_refusal` meets its contract: a kind that is not asked, or a short frame's lists, one after the other. Assumes nothing.
use mathlib.Core.Path.{◌≡◌, sym, subst, ◌∙◌}
use mathlib.Core.Logic.{inl, inr}
use borrow.Author.Rules.{rules}
use lib.ListN.{length}
use Rattle.receiver.specs.Bytes.{receiver_length}
use Rattle.refusals.specs.Refusals.{number, answer}
use Rattle.refusals.proofs.Refusals.{is_some_number}
use Rattle.receiver.proofs.Packing.{Long, plain, extended}
use Rattle.receiver_stage.proofs.Numbers.{unasked, first_list, second_list}
use Rattle.receiver_stage.proofs.numbers_refusal.Goals as goal

pub returns-in_err-list_refusal-in-Short : goal.returns-in_err-list_refusal-in-Short
returns-in_err-list_refusal-in-Short c =
    let refusal = c.in_err-list_refusal-in-Short.field-0.0 in
    let passed_up : answer c.from_residual.result ≡ number refusal = search rules in
    let told = c.in_err-list_refusal-in-Short.ensures in
    rw c.in-Short.is (passed_up ∙ told ∙ sym (first_list c.args.state.now (λ none. is_some_number refusal (told ∙ none))))

pub returns-in-Plain : goal.returns-in-Plain
returns-in-Plain c =
    let long : length c.args.state.now ≡ receiver_length = search rules in
    elim c.in-Plain.is [
      | inl e ↦ unasked c.args.state.now long (subst Long (sym e) plain)
      | inr e ↦ unasked c.args.state.now long (subst Long (sym e) extended)
    ]

pub returns-in_ok-list_refusal-in-Short : goal.returns-in_ok-list_refusal-in-Short
returns-in_ok-list_refusal-in-Short c = rw c.in-Short.is (c.list_refusal-in-Short.ensures ∙ sym (second_list c.args.state.now (sym c.in_ok-list_refusal-in-Short.ensures)))
