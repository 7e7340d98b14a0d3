-- `number` meets its contract: after i turns i slots are numbered. Assumes nothing.
use mathlib.Core.Path.{◌≡◌, sym, ◌∙◌}
use mathlib.Core.Bool.{cond}
use borrow.Author.Rules.{rules}
use borrow.Author.Tests.{eq-eqb, ne_eqb}
use lib.Dec.{eqb}
use lib.ListN.{length, get_or}
use Rattle.setting_bytes.specs.Settings.{part, numbers_at}
use Rattle.counters.specs.Counters.{last_slot}
use Rattle.composer_close.proofs.Numbers.{numbers_more, numbers_all, numbered}
use Rattle.composer_close.proofs.header.number.Goals as goal
use Rattle.composer_close.proofs.header.number.Goals.{else-marks-i-eq1, then-marks-i-eq1}

pub loop-i-preserved : goal.loop-i-preserved
loop-i-preserved c =
    let marks = c.split_at_mut-setting.result.1.now in
    let plan = part numbers_at last_slot c.split_at_mut-setting.result.0.now in
    let i = c.loop-i.i in
    let as_many : length plan ≡ length marks = search rules in
    let said : c.if-marks-i-eq1.n ≡ cond (eqb (get_or marks i 0) 1) (get_or c.loop-i.n-items i 0) 0 =
    elim c.if-marks-i-eq1.branch [ then-marks-i-eq1 w ↦ w.n-is ∙ sym (rw (eq-eqb _ _ w.if-marks-i-eq1.true)) | else-marks-i-eq1 w ↦ w.n-is ∙ sym (rw (ne_eqb _ _ w.if-marks-i-eq1.false)) ] in
    numbers_more plan marks as_many c.loop-i.invariant (search rules) said

pub returns : goal.returns
returns c =
    let marks = c.split_at_mut-setting.result.1.now in
    let plan = part numbers_at last_slot c.split_at_mut-setting.result.0.now in
    let as_many : length plan ≡ length marks = search rules in
    let split = c.split_at_mut-setting.ensures in
    numbered c.args.opened.now _ marks c.loop-i.n-items c.requires split.front split.back (numbers_all plan marks as_many c.loop-i.invariant (search rules))
