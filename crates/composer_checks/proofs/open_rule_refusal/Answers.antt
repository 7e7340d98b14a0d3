use borrow.Author.Rules.{rules}
use borrow.Author.Tests.{eq-eqb, ne_eqb}
use Rattle.setting_bytes.proofs.Parts.{length_part}
use Rattle.setting.proofs.Refusals.{at_length, off_length}
use Rattle.composer.specs.Composing.{open_rule_checks}
use Rattle.composer.proofs.Refusals.{asked-all, asked_none}
use Rattle.composer.specs.States.{composer_of}
use Rattle.composer_checks.proofs.open_rule_refusal.Goals as goal

pub returns-in_err-bytes : goal.returns-in_err-bytes
returns-in_err-bytes c = search (rules, off_length)

pub returns-then-bytes-ne1 : goal.returns-then-bytes-ne1
unfolding open_rule_checks composer_of
returns-then-bytes-ne1 c = search (rules, at_length, asked_none, ne_eqb)

pub returns : goal.returns
unfolding open_rule_checks composer_of
returns c = search (rules, at_length, length_part, asked-all, eq-eqb)
