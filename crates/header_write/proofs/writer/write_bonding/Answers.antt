-- `write_bonding` meets its contract. Assumes nothing.
use mathlib.Core.Path.{sym, ap, ◌∙◌}
use Rattle.setting_bytes.proofs.InBytes.{setting_in, setting_of-in}
use Rattle.header_layout.specs.Bytes.{bonding_bytes}
use Rattle.slices.proofs.Front.{stored}
use Rattle.header_write.proofs.writer.write_bonding.Goals as goal

pub returns : goal.returns
returns c =
    let bytes = c.args.setting.now in
    stored (bonding_bytes (setting_in bytes)) c.args.part.now c.requires ∙ ap bonding_bytes (sym (setting_of-in bytes c.told-setting))
