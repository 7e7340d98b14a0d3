-- `list_refusal` meets its contract, test by test. Assumes nothing.
use mathlib.Core.Path.{sym, ◌∙◌}
use Rattle.setting.specs.Refusal.{none}
use Rattle.setting.proofs.Refusals.{answers, passed, first_none}
use Rattle.receiver_stage.proofs.Numbers.{all_asked}
use Rattle.receiver_stage.proofs.list_refusal.Goals as goal

pub returns-then-some_half_at_least : goal.returns-then-some_half_at_least
returns-then-some_half_at_least c =
    sym (all_asked c.args.list.now c.requires ∙ answers _ _ (sym c.some_half_at_least.ensures ∙ c.if-some_half_at_least.true))

pub returns-then-some_half_at_least-2 : goal.returns-then-some_half_at_least-2
returns-then-some_half_at_least-2 c =
    sym (all_asked c.args.list.now c.requires ∙ passed _ _ (sym c.some_half_at_least.ensures ∙ c.if-some_half_at_least.false)
    ∙ answers _ _ (sym c.some_half_at_least-2.ensures ∙ c.if-some_half_at_least-2.true))

pub returns : goal.returns
returns c =
    sym (all_asked c.args.list.now c.requires ∙ passed _ _ (sym c.some_half_at_least.ensures ∙ c.if-some_half_at_least.false)
    ∙ passed _ _ (sym c.some_half_at_least-2.ensures ∙ c.if-some_half_at_least-2.false) ∙ first_none none)
