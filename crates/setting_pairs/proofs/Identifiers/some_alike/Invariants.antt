-- `some_alike` meets its contract: where none before stream j + 1 was alike, none makes a pair. Assumes nothing.
use Prim.Native.Nat.{ℕ}
use mathlib.Core.Path.{◌≡◌}
use mathlib.Core.Bool.{false}
use mathlib.Core.List.{List}
use Rattle.counters.specs.Counters.{last_stream}
use Rattle.setting_pairs.specs.Identifiers.{ids_apart}
use Rattle.setting_pairs.proofs.Pairs.{Seen}
use Rattle.setting_pairs.proofs.Identifiers.some_alike.Given as goal

abbrev pub invariant-loop-j : goal.invariant-loop-j
invariant-loop-j l = ((os : List ℕ) → l.alike ≡ false → Seen l.availability (ids_apart l.self.step last_stream l.self.bytes.now) os l.met l.j)
