-- `is_end` meets its contract, by whether the frame is the last of its super frame. Assumes nothing.
use mathlib.Core.Path.{sym, ◌∙◌}
use borrow.Author.Tests.{not-true, not-false}
use Rattle.bond_group.specs.Standing.{is_end}
use Rattle.bond_group.proofs.headers.is_end.Goals as goal

pub returns-then-not-is_last : goal.returns-then-not-is_last
unfolding is_end
returns-then-not-is_last c = simp (sym c.is_last.ensures ∙ not-true _ c.if-not-is_last.true-raw)

pub returns : goal.returns
unfolding is_end
returns c = simp (sym c.is_last.ensures ∙ not-false _ c.if-not-is_last.false-raw)
