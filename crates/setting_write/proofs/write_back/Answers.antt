-- `write_back` meets its contract: a part and five bytes behind it. Assumes nothing.
use mathlib.Core.Path.{◌≡◌, sym, ap, ◌∙◌}
use native.Mathlib.Omega.{arith}
use borrow.Rule.Slice.PartMut.{mid_len}
use lib.ListN.{length, take, drop}
use Rattle.slices.proofs.Front.{copied-over}
use Rattle.setting.specs.Setting.{auxiliary_bytes}
use Rattle.setting_bytes.proofs.Parts.{setting_end}
use borrow.Author.Rules.{rules}
use Rattle.setting_write.proofs.write_back.Goals as goal

pub returns : goal.returns
returns c =
    let s = c.args.s in
    let part = c.args.part.now in
    let bytes : length s.auxiliary ≡ auxiliary_bytes = search rules in
    let copied : c.copy.new.dst ≡ s.auxiliary =
    c.copy.ensures ∙ copied-over (take auxiliary_bytes (drop 0 part)) s.auxiliary (mid_len 0 auxiliary_bytes part (omega (arith, c.requires)) ∙ sym bytes) in
    setting_end s part c.copy.new.dst c.requires (ap length copied ∙ bytes) copied
