-- `long_places` meets its contract. Assumes nothing.
use mathlib.Core.Path.{refl}
use Rattle.setting.specs.Size.{size_of}
use Rattle.header_layout.specs.Places.{places_of}
use Rattle.header_layout.proofs.long_places.Goals as goal

pub returns : goal.returns
unfolding places_of size_of
returns c = refl
