-- `next_carrier` meets its contract, by whether the frame is the last of its super frame. Assumes nothing.
use mathlib.Core.Path.{sym, ◌∙◌}
use Rattle.bond_group.specs.Standing.{next_carrier}
use Rattle.bond_group.proofs.headers.next_carrier.Goals as goal

pub returns-then-is_last : goal.returns-then-is_last
unfolding next_carrier
returns-then-is_last c = simp (sym c.is_last.ensures ∙ c.if-is_last.true)

pub returns : goal.returns
unfolding next_carrier
returns c = simp (sym c.is_last.ensures ∙ c.if-is_last.false)
