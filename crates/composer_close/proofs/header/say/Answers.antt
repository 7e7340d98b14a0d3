-- `say` meets its contract: counter and version, then the slots' numbers. Assumes nothing.
use borrow.Author.Rules.{rules}
use Rattle.composer_close.proofs.Saying.{all_said}
use Rattle.composer_close.proofs.header.say.Goals as goal

pub returns : goal.returns
returns c =
    search (rules, all_said)
