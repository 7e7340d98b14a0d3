-- `nothing_shown` meets its contract: it is the record of the definition. Assumes nothing.
use mathlib.Core.Path.{refl}
use Rattle.setting.specs.Setting.{blank}
use Rattle.bond_group.specs.Standing.{shown_by}
use Rattle.bond_group.proofs.headers.nothing_shown.Goals as goal

pub returns : goal.returns
unfolding shown_by blank
returns c = refl
