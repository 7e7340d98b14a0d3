-- `has_before` meets its contract: no stream before stream i + 1 makes a pair with stream j + 1. Assumes nothing.
use mathlib.Core.Path.{◌≡◌}
use mathlib.Core.Bool.{false}
use Rattle.slices.specs.Slices.{any_below}
use Rattle.counters.specs.Counters.{last_stream}
use Rattle.setting.specs.Rules.{same_pair}
use Rattle.setting_pairs.specs.Identifiers.{ids_apart}
use Rattle.setting_pairs.proofs.Streams.has_before.Given as goal

abbrev pub invariant-loop-i : goal.invariant-loop-i
invariant-loop-i l =
    let s = l.self in
    any_below l.i (λ k. same_pair s.availability (ids_apart s.ts.step last_stream s.ts.bytes.now) (ids_apart s.os.step last_stream s.os.bytes.now) k l.j) ≡ false
