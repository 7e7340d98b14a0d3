-- `has_before` meets its contract: no stream before stream i + 1 makes a pair with stream j + 1. Assumes nothing.
use mathlib.Core.Path.{sym, ◌∙◌}
use native.Mathlib.Omega.{arith}
use Rattle.slices.proofs.Any.{any_none, any_more, any_found}
use Rattle.setting_pairs.proofs.Streams.has_before.Goals as goal

pub loop-i-init : goal.loop-i-init
loop-i-init c = any_none _

pub returns-then-is_same : goal.returns-then-is_same
returns-then-is_same c =
    sym (any_found _ _ c.loop-i.i (omega arith) (sym c.is_same.ensures ∙ c.if-is_same.true))

pub loop-i-preserved : goal.loop-i-preserved
loop-i-preserved c =
    (any_more _ c.loop-i.i c.loop-i.invariant (sym c.is_same.ensures ∙ c.if-is_same.false))
