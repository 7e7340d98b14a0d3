-- `bonding_absent_refusal` meets its contract. Assumes nothing.
use mathlib.Core.Path.{sym, ◌∙◌}
use Rattle.setting_checks.proofs.Absent.{zeros-answer, other_answer}
use Rattle.setting_checks.proofs.bonding_absent_refusal.Goals as goal

pub returns-then-some_at_least : goal.returns-then-some_at_least
returns-then-some_at_least c = sym (other_answer c.args.bonding.now c.requires (sym c.some_at_least.ensures ∙ c.if-some_at_least.true))

pub returns : goal.returns
returns c = sym (zeros-answer c.args.bonding.now c.requires (sym c.some_at_least.ensures ∙ c.if-some_at_least.false))
