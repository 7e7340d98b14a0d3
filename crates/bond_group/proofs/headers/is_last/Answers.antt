-- `is_last` meets its contract: it is the test of the definition. Assumes nothing.
use mathlib.Core.Path.{refl}
use Rattle.bond_group.specs.Standing.{is_last}
use Rattle.bond_group.proofs.headers.is_last.Goals as goal

pub returns : goal.returns
unfolding is_last
returns c = refl
