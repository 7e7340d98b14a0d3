use borrow.Author.Rules.{rules}
use Rattle.setting.proofs.Refusals.{at_length, off_length}
use Rattle.composer_checks.proofs.state_refusal.Goals as goal

pub returns-in_err-bytes : goal.returns-in_err-bytes
returns-in_err-bytes c = search (rules, off_length)

pub returns : goal.returns
returns c = search (rules, at_length)
