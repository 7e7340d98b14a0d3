use mathlib.Core.Path.{refl}
use Rattle.setting.specs.Setting.{blank}
use Rattle.setting.proofs.Setting.blank.Goals as goal

pub returns : goal.returns
unfolding blank
returns c = refl
