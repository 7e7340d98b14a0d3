-- `write_extended` meets its contract: three parts, one behind the other. Assumes nothing.
use mathlib.Core.Path.{sym, ap, ◌∙◌}
use native.Mathlib.Omega.{arith}
use lib.ListN.{take}
use lib.Seq.{length-take-le}
use Rattle.setting.specs.declared.Kind.{Kind}
use Rattle.setting.specs.declared.Setting.{Setting}
use Rattle.setting.specs.Setting.{auxiliary_bytes}
use Rattle.setting_bytes.specs.Settings.{auxiliary_at}
use Rattle.setting_bytes.proofs.Parts.{length_part}
use Rattle.setting_bytes.proofs.InBytes.{setting_in, setting_of-in}
use Rattle.header_layout.specs.Layout.{private_table}
use Rattle.header_layout.specs.Bytes.{bonding_bytes}
use Rattle.header_layout.specs.Header.{line_bits}
use Rattle.header_layout.proofs.Private.{copied_all, extended_parts}
use Rattle.header_write.proofs.writer.write_extended.Goals as goal

pub returns : goal.returns
returns c z pid =
    let part = c.args.part.now in
    let b = c.args.setting.now in
    let said = setting_of-in b c.told-setting in
    let auxiliaries = length_part auxiliary_at auxiliary_bytes b (omega arith) in
    extended_parts z pid (setting_in b) part _ _ _ c.requires auxiliaries
    (c.copy.ensures ∙ copied_all (take 28 part) (setting_in b).auxiliary (length-take-le 28 part (omega arith) ∙ sym auxiliaries))
    (c.write_bonding.ensures ∙ ap bonding_bytes said)
    c.fill.ensures
    ∙ ap (λ (s : Setting). line_bits z pid s (private_table Kind.Extended)) (sym said)
