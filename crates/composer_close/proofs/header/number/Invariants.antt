-- `number` meets its contract: after i turns i slots are numbered. Assumes nothing.
use mathlib.Core.List.{List}
use lib.ListN.{drop}
use Prim.Native.Nat.{ℕ}
use Rattle.slices.proofs.Toward.{Toward}
use Rattle.composer.specs.Slots.{numbers_of}
use Rattle.composer.specs.States.{marks_of}
use Rattle.composer_close.proofs.header.number.Given as goal

abbrev pub invariant-loop-i : goal.invariant-loop-i
invariant-loop-i l =
    let said : List ℕ = numbers_of l.initial.n-items (marks_of l.marks) in
    Toward said l.initial.n-items l.n-items (drop l.i said) l.i
