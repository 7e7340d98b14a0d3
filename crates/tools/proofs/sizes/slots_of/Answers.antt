-- `slots_of` meets its contract. Assumes nothing.
use Rattle.setting.proofs.Sizes.{sized}
use Rattle.tools.proofs.sizes.slots_of.Goals as goal

pub returns : goal.returns
returns c = rw c.size_of-size.ensures (sized c.args.kind).slots
