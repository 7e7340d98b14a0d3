-- `has_some` meets its contract: no stream before stream j + 1 makes a pair with one before it. Assumes nothing.
use mathlib.Core.Path.{◌≡◌, sym, ◌∙◌}
use native.Mathlib.Omega.{arith}
use lib.ListN.{length}
use Rattle.slices.proofs.Any.{any_none, any_more, any_found}
use Rattle.counters.specs.Counters.{last_stream}
use Rattle.setting.specs.Rules.{pair_twice}
use Rattle.setting_pairs.specs.Identifiers.{ids_apart}
use Rattle.setting_pairs.proofs.Apart.{length_apart}
use Rattle.setting_pairs.proofs.Streams.has_some.Goals as goal

pub loop-j-init : goal.loop-j-init
loop-j-init c = any_none _

pub returns-then-has_before : goal.returns-then-has_before
unfolding pair_twice
returns-then-has_before c =
    let ts = c.args.self.ts in
    sym (any_found _ _ c.loop-j.j (omega (arith, length_apart ts.step last_stream ts.bytes.now)) (sym c.has_before.ensures ∙ c.if-has_before.true))

pub loop-j-preserved : goal.loop-j-preserved
loop-j-preserved c =
    (any_more _ c.loop-j.j c.loop-j.invariant (sym c.has_before.ensures ∙ c.if-has_before.false))

pub returns : goal.returns
unfolding pair_twice
returns c =
    let ts = c.args.self.ts in
    let all : c.loop-j.j ≡ length (ids_apart ts.step last_stream ts.bytes.now) = omega (arith, length_apart ts.step last_stream ts.bytes.now) in
    sym (rw all at c.loop-j.invariant)
