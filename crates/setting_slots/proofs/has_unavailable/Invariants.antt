-- `has_unavailable` meets its contract: it has found what is among the slots before slot i. Assumes nothing.
use mathlib.Core.Path.{◌≡◌}
use lib.ListN.{get_or}
use Rattle.slices.specs.Slices.{any_below}
use Rattle.setting.specs.Rules.{unavailable}
use Rattle.setting_slots.proofs.has_unavailable.Given as goal

abbrev pub invariant-loop-number : goal.invariant-loop-number
invariant-loop-number l =
    (any_below l.number-index (λ k. unavailable l.availability (get_or l.numbers k 0)) ≡ l.found)
