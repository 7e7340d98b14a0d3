-- `write_start` meets its contract: its seven bytes are the header's first. Assumes nothing.
use Prim.Native.Nat.{◌/◌, ◌%◌}
use mathlib.Core.Path.{◌≡◌, sym, ap, ◌∙◌}
use native.Mathlib.Omega.{arith}
use lib.ListN.{get_or}
use Rattle.bits.specs.Fields.{run}
use Rattle.setting.specs.declared.Setting.{Setting}
use Rattle.setting_bytes.proofs.InBytes.{setting_in, setting_of-in}
use Rattle.slices.proofs.Front.{stored}
use Rattle.header_layout.specs.Layout.{start_table}
use Rattle.header_layout.specs.Header.{line_bits}
use Rattle.header_layout.proofs.Start.{start_bytes, start_bits}
use Rattle.header_write.proofs.writer.write_start.Goals as goal

pub returns : goal.returns
returns c z =
    let args = c.args in
    let b = args.setting.now in
    let bytes = c.to_be_bytes.result in
    let high : get_or bytes 0 0 % 32 ≡ args.pid / 256 % 32 = rw c.to_be_bytes.ensures (omega arith) in
    let low : get_or bytes 1 0 ≡ args.pid % 256 = rw c.to_be_bytes.ensures (omega arith) in
    ap (run 8) (rw (high, low) (stored (start_bytes args.pid (setting_in b)) args.part.now c.requires)) ∙ start_bits z args.pid (setting_in b)
    ∙ ap (λ (s : Setting). line_bits z args.pid s start_table) (sym (setting_of-in b c.told-setting))
