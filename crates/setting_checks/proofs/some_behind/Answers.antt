-- `some_behind` meets its contract. Assumes nothing.
use mathlib.Core.Path.{refl}
use lib.ListN.{drop_of_length-le}
use Rattle.slices.specs.Slices.{any_below, some_at_least}
use Rattle.setting_checks.proofs.some_behind.Goals as goal

pub returns-then-part-n : goal.returns-then-part-n
unfolding some_at_least any_below
returns-then-part-n c = rw (drop_of_length-le c.args.part.now c.if-part-n.true) refl
