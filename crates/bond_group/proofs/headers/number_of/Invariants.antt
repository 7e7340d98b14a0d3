-- `number_of` meets its contract: after k turns the number is that among 1 to k. Assumes nothing.
use Prim.Native.Nat.{◌≤◌}
use mathlib.Core.Path.{◌≡◌}
use Rattle.setting.specs.declared.Setting.{Setting}
use Rattle.setting_pairs.specs.Identifiers.{ids_apart}
use Rattle.counters.specs.Counters.{last_stream}
use Rattle.bond_group.specs.Group.{number_up_to}
use Rattle.bond_group.proofs.headers.number_of.Given as goal

abbrev pub invariant-loop-k : goal.invariant-loop-k
invariant-loop-k l =
    ((s : Setting) → s.availability ≡ l.availability → s.ts_id ≡ ids_apart 4 last_stream l.ts → s.original_network_id ≡ ids_apart 4 last_stream l.os → l.number ≡ number_up_to l.b s l.k)
    × (l.number ≤ last_stream)
