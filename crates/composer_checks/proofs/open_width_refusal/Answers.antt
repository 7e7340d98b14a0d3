use borrow.Author.Rules.{rules}
use borrow.Author.Tests.{eq-eqb, ne_eqb}
use Rattle.setting_bytes.proofs.Parts.{length_part}
use Rattle.setting.proofs.Refusals.{at_length}
use Rattle.composer.proofs.Refusals.{asked-all, asked_none}
use Rattle.composer.specs.States.{composer_of}
use Rattle.composer_checks.proofs.open_width_refusal.Goals as goal

pub returns-then-bytes-ne1 : goal.returns-then-bytes-ne1
unfolding composer_of
returns-then-bytes-ne1 c = search (rules, asked_none, ne_eqb)

pub returns : goal.returns
unfolding composer_of
returns c = search (rules, at_length, length_part, asked-all, eq-eqb)
