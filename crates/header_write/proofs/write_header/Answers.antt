-- `write_header` meets its contract: the body, and its CRC behind it. Assumes nothing.
use mathlib.Core.Path.{ap, ◌∙◌}
use borrow.Author.Rules.{rules}
use borrow.Author.Tests.{eq-eqb}
use lib.ListN.{length}
use Rattle.bits.proofs.Laws.{fit_of}
use Rattle.setting_bytes.specs.Settings.{setting_length, setting_of}
use Rattle.header_layout.specs.Header.{header_length, header}
use Rattle.header_layout.proofs.Whole.{header_parts}
use Rattle.header_write.proofs.write_header.Goals as goal

pub returns : goal.returns
returns c =
    let a = c.args in
    let long = c.if-buffer-ne-HEADER_LENGTH.false in
    let setting = c.in-Some.ensures.cases in
    rw (eq-eqb (length a.buffer.now) header_length long, eq-eqb (length a.setting.now) setting_length setting.long)
    (header_parts a.kind a.pid (setting_of c.in-Some.setting.now) a.buffer.now _ _ c.register-word.result long (search rules) (search rules)
    c.write_body.ensures c.register-word.ensures c.write_word.ensures
    (fit_of 8 _ (λ i. (c.type_inv.buffer i).fits))
    ∙ ap (λ b. header a.kind a.pid (setting_of b)) setting.same)
