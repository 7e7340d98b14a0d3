use mathlib.Core.Path.{sym, ◌∙◌}
use Rattle.counters.specs.Counters.{checked}
use Rattle.counters.proofs.checked.Goals as goal

pub returns-then-is_within : goal.returns-then-is_within
unfolding checked
returns-then-is_within c = rw (sym c.is_within.ensures ∙ c.if-is_within.true)

pub returns-else-is_within : goal.returns-else-is_within
unfolding checked
returns-else-is_within c = rw (sym c.is_within.ensures ∙ c.if-is_within.false)
