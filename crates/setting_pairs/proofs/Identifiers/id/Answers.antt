-- `id` meets its contract: the last identifier is within the bytes, and so is each before it. Assumes nothing.
use mathlib.Core.Path.{sym, ◌∙◌}
use native.Mathlib.Omega.{arith}
use Rattle.counters.specs.Counters.{last_stream}
use Rattle.setting_pairs.proofs.Apart.{apart_at}
use Rattle.setting_pairs.proofs.Identifiers.id.Goals as goal

pub returns : goal.returns
returns c =
    c.word.ensures ∙ sym (apart_at c.args.self.now.step last_stream c.args.k c.args.self.now.bytes.now (omega (arith, c.requires, c.args.self.now.all_inside)))
