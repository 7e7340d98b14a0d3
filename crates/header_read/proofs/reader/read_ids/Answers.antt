-- `read_ids` meets its contract. Assumes nothing.
use Prim.Native.Nat.{ℕ, ◌-◌, ◌*◌}
use mathlib.Core.List.{List, ◌++◌}
use mathlib.Core.Path.{◌≡◌, ap, ◌∙◌}
use native.Mathlib.Omega.{arith}
use lib.ListN.{length, replicate}
use Rattle.counters.specs.Counters.{last_stream}
use Rattle.setting_bytes.proofs.Numbers.{length-bytes}
use Rattle.setting_pairs.specs.Identifiers.{ids_apart}
use Rattle.setting_pairs.proofs.Apart.{length_apart}
use Rattle.header_read.proofs.Parts.{zeros-behind, words_resized}
use Rattle.header_read.proofs.reader.read_ids.Goals as goal

pub returns : goal.returns
returns c =
    let n = c.args.streams in
    let ws = ids_apart 4 n c.args.ids.now in
    let many = length_apart 4 n c.args.ids.now in
    let long : length c.read_words.new.part ≡ 2 * n = ap length c.read_words.ensures ∙ length-bytes ws ∙ ap (λ (k : ℕ). 2 * k) many in
    zeros-behind c.args.part.now c.read_words.new.part c.fill.new.dst (2 * n) (2 * last_stream) c.requires.0 long (omega (arith, c.requires)) c.fill.ensures
    ∙ ap (λ (x : List ℕ). x ++ replicate (2 * last_stream - 2 * n) 0) c.read_words.ensures ∙ words_resized last_stream n ws many c.requires.1
