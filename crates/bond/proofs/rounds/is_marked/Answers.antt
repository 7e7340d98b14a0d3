-- `is_marked` meets its contract: a shift is a division by the power of two. Assumes nothing.
use mathlib.Core.Path.{refl}
use Rattle.bond_places.specs.Walk.{is_marked}
use Rattle.bond.proofs.rounds.is_marked.Goals as goal

pub returns : goal.returns
unfolding is_marked
returns c = refl
