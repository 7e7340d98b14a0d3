-- `is_coded` meets its contract. Assumes nothing.
use borrow.Author.Tests.{lt-ltb, le-ltb}
use Rattle.composer.specs.States.{is_coded}
use borrow.Author.Rules.{rules}
use Rattle.composer_checks.proofs.is_coded.Goals as goal

pub returns-then-bytes-gt-LAST_KIND : goal.returns-then-bytes-gt-LAST_KIND
unfolding is_coded
returns-then-bytes-gt-LAST_KIND c = search (rules, le-ltb)

pub returns-then-bytes-gt1 : goal.returns-then-bytes-gt1
unfolding is_coded
returns-then-bytes-gt1 c = search (rules, lt-ltb, le-ltb)

pub returns : goal.returns
unfolding is_coded
returns c = search (rules, lt-ltb)
