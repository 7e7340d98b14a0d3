use mathlib.Core.Path.{sym, ◌∙◌}
use Rattle.counters.specs.Counters.{available}
use Rattle.counters.proofs.RelativeNumber.is_available.Goals as goal

pub returns-then-is_within : goal.returns-then-is_within
unfolding available
returns-then-is_within c = rw (c.from.ensures, sym c.is_within.ensures ∙ c.if-is_within.true)

pub returns-else-is_within : goal.returns-else-is_within
unfolding available
returns-else-is_within c = rw (c.if-is_within.false, sym c.is_within.ensures ∙ c.if-is_within.false)
