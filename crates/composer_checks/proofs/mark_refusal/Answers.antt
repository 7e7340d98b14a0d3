use borrow.Author.Rules.{rules}
use borrow.Author.Tests.{eq-eqb, ne_eqb}
use Rattle.setting.proofs.Refusals.{at_length, off_length}
use Rattle.setting.specs.Refusal.{first_of}
use Rattle.composer.specs.Composing.{mark_checks}
use Rattle.composer.specs.States.{composer_of}
use Rattle.composer.proofs.There.{plan_there}
use Rattle.composer_checks.proofs.mark_refusal.Goals as goal

pub returns-in_err-bytes : goal.returns-in_err-bytes
returns-in_err-bytes c = search (rules, off_length)

pub returns-then-bytes-ne1 : goal.returns-then-bytes-ne1
unfolding mark_checks first_of composer_of
returns-then-bytes-ne1 c = search (rules, at_length, ne_eqb)

pub returns-then-has_unplanned : goal.returns-then-has_unplanned
unfolding mark_checks first_of composer_of
returns-then-has_unplanned c = search (rules, at_length, eq-eqb, plan_there)

pub returns : goal.returns
unfolding mark_checks first_of composer_of
returns c = search (rules, at_length, eq-eqb, plan_there)
