-- `next_version` meets its contract: the bytes of what is announced differ or not. Assumes nothing.
use native.Mathlib.Omega.{arith}
use borrow.Author.Rules.{rules}
use Rattle.composer.specs.States.{composer_of}
use Rattle.composer_close.proofs.Unlike.{unlike_is}
use Rattle.composer_close.proofs.Decoded.{version_raised, version_kept}
use Rattle.composer_close.proofs.header.next_version.Goals as goal

pub overflow_add-result : goal.overflow_add-result
unfolding composer_of
overflow_add-result c = omega (arith, c.requires.version)

pub returns-then-ne : goal.returns-then-ne
returns-then-ne c = search (rules, version_raised, unlike_is)

pub returns : goal.returns
returns c = search (rules, version_kept, unlike_is)
