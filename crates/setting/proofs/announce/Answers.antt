use mathlib.Core.Path.{refl}
use Rattle.setting.specs.Announcing.{announced}
use Rattle.setting.proofs.announce.Goals as goal

pub returns : goal.returns
unfolding announced
returns c = refl
