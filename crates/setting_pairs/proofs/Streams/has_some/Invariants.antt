-- `has_some` meets its contract: no stream before stream j + 1 makes a pair with one before it. Assumes nothing.
use mathlib.Core.Path.{◌≡◌}
use mathlib.Core.Bool.{false}
use Rattle.slices.specs.Slices.{any_below}
use Rattle.counters.specs.Counters.{last_stream}
use Rattle.setting_pairs.specs.Identifiers.{ids_apart}
use Rattle.setting_pairs.proofs.Pairs.{pairs}
use Rattle.setting_pairs.proofs.Streams.has_some.Given as goal

abbrev pub invariant-loop-j : goal.invariant-loop-j
invariant-loop-j l =
    let s = l.self in
    any_below l.j (pairs s.availability (ids_apart s.ts.step last_stream s.ts.bytes.now) (ids_apart s.os.step last_stream s.os.bytes.now)) ≡ false
