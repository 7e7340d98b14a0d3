-- `write_setting` meets its contract: three parts, one behind the other. Assumes nothing.
use mathlib.Core.Path.{◌≡◌, sym, ap, ◌∙◌}
use native.Mathlib.Omega.{arith}
use borrow.Author.Tests.{eq-eqb}
use borrow.Rule.Slice.PartMut.{same_len_mid, mid_len}
use lib.ListN.{length, take, drop}
use Rattle.slices.proofs.Front.{put, copied-over}
use Rattle.setting.specs.Setting.{private_bytes}
use Rattle.setting_bytes.specs.Settings.{private_at, auxiliary_at, setting_length, setting_from}
use Rattle.setting_bytes.proofs.Parts.{setting_parts}
use borrow.Author.Rules.{rules}
use Rattle.setting_write.proofs.write_setting.Goals as goal

pub returns : goal.returns
returns c =
    let s = c.args.s in
    let bytes = c.args.bytes.now in
    let long = c.if-bytes-ne-SETTING_BYTES.false in
    let front = c.write_front.new.part in
    let privates = c.copy.new.dst in
    let one = put 0 private_at bytes front in
    let two = put private_at private_bytes one privates in
    let whole_one : length one ≡ setting_length = same_len_mid 0 private_at bytes front c.write_front.auto.part ∙ long in
    let whole_two : length two ≡ setting_length = same_len_mid private_at private_bytes one privates c.copy.auto.dst ∙ whole_one in
    let front_length : length front ≡ private_at = c.write_front.auto.part ∙ mid_len 0 private_at bytes (omega (arith, long)) in
    let back_length : length c.write_back.new.part ≡ setting_from auxiliary_at = c.write_back.auto.part ∙ mid_len auxiliary_at setting_length two (omega (arith, whole_two)) in
    let many : length s.private_data ≡ private_bytes = search rules in
    let copied : privates ≡ s.private_data =
    c.copy.ensures ∙ copied-over (take private_bytes (drop private_at one)) s.private_data (mid_len private_at auxiliary_at one (omega (arith, whole_one)) ∙ sym many) in
    rw (eq-eqb (length bytes) setting_length long)
    (setting_parts s bytes front privates c.write_back.new.part long front_length (ap length copied ∙ many) back_length c.write_front.ensures copied c.write_back.ensures)
