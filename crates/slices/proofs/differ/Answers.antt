-- `differ` meets its contract. Assumes nothing.
use Rattle.std.proofs.Common.{sym, ◌∙◌}
use Rattle.slices.proofs.Differing.{unlike_is}
use Rattle.slices.proofs.differ.Goals as goal

pub returns : goal.returns
returns c = c.ne.ensures ∙ sym (unlike_is c.args.xs.now c.args.ys.now)
