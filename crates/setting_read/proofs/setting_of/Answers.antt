-- `setting_of` meets its contract. Assumes nothing.
use mathlib.Core.Path.{sym}
use borrow.Author.Tests.{ne_eqb}
use lib.ListN.{length}
use Rattle.setting_bytes.specs.Settings.{setting_length, setting_of}
use Rattle.setting_bytes.proofs.Parts.{setting_of-read}
use Rattle.setting_read.proofs.setting_of.Goals as goal

pub returns-then-bytes-ne-SETTING_BYTES : goal.returns-then-bytes-ne-SETTING_BYTES
unfolding setting_of
returns-then-bytes-ne-SETTING_BYTES c = rw (ne_eqb (length c.args.bytes.now) setting_length c.if-bytes-ne-SETTING_BYTES.true) c.blank.ensures

pub returns : goal.returns
returns c =
    sym
    (setting_of-read c.args.bytes.now _ _ _ _ c.if-bytes-ne-SETTING_BYTES.false c.announced_of-a.ensures c.copy.ensures
    c.copy-2.ensures c.copy-3.ensures)
