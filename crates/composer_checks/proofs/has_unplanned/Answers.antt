-- `has_unplanned` meets its contract: it has found what is among the slots before this one. Assumes nothing.
use Prim.Native.Nat.{ℕ}
use mathlib.Core.Path.{◌≡◌, sym, ap, ap₂, ◌∙◌}
use mathlib.Core.Bool.{Bool, false, ◌&&◌, ◌||◌}
use native.Mathlib.Omega.{arith}
use borrow.Author.Rules.{rules}
use lib.Dec.{eqb}
use lib.ListN.{length, get_or}
use Rattle.std.proofs.lemmas.List.{length_push}
use Rattle.std.proofs.lemmas.Slice.Zip.{zip_turn, zip_end}
use Rattle.slices.specs.Slices.{any_below}
use Rattle.slices.proofs.Any.{any_none, any_next}
use Rattle.composer.specs.Slots.{some_unplanned}
use Rattle.composer.specs.States.{marks_of}
use Rattle.composer.proofs.There.{mark_at}
use Rattle.composer_checks.proofs.has_unplanned.Goals as goal

pub loop-number-init : goal.loop-number-init
loop-number-init c = any_none _

pub loop-number-preserved : goal.loop-number-preserved
loop-number-preserved c =
    let plan = c.args.plan.now in
    let filled = c.args.filled.now in
    let i = length c.loop-number.yielded in
    let turn =
    zip_turn plan filled c.loop-number.yielded c.into_iter-number-iterator.result c.loop-number.number-iterator c.next.new.self c.next.result
    (search rules) (search rules) c.loop-number.yielded_by (c.in-Some.number, c.in-Some.mark) c.in-Some.is c.next.ensures.steps in
    let test : ℕ → Bool = λ k. get_or (marks_of filled) k false && eqb (get_or plan k 0) 0 in
    ap (λ (n : ℕ). any_below n test) (length_push c.loop-number.yielded (c.in-Some.number, c.in-Some.mark)) ∙ any_next test i
    ∙ ap₂ (λ (b : Bool) (m : Bool). b || m) c.loop-number.invariant
    (ap₂ (λ (m : Bool) (n : ℕ). m && eqb n 0) (mark_at filled i ∙ ap (λ (n : ℕ). eqb n 1) (sym (turn.3 0))) (sym (turn.2 0)))

pub returns : goal.returns
unfolding some_unplanned
returns c =
    let plan = c.args.plan.now in
    let filled = c.args.filled.now in
    let end =
    zip_end plan filled c.loop-number.yielded c.into_iter-number-iterator.result c.loop-number.number-iterator c.next.new.self c.next.result
    (search rules) (search rules) c.loop-number.yielded_by c.in-None.is c.next.ensures.steps in
    let all : length c.loop-number.yielded ≡ length plan = omega arith in
    sym (rw all at c.loop-number.invariant)
