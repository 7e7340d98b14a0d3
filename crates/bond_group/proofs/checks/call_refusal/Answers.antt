-- `call_refusal` meets its contract, check by check. Assumes nothing.
use Prim.Native.Nat.{ℕ}
use mathlib.Core.Path.{sym, ap, ◌∙◌}
use mathlib.Core.Bool.{not}
use mathlib.Core.List.{[]}
use borrow.Author.Tests.{eq-eqb, ne_eqb}
use Rattle.setting.specs.Refusal.{first_of}
use Rattle.setting.proofs.Refusals.{Past, answers, passed}
use Rattle.counters.proofs.Within.{under, past, between}
use Rattle.counters.specs.Counters.{last_carrier}
use Rattle.bond_group.specs.Standing.{call_checks}
use Rattle.bond_group.proofs.checks.call_refusal.Goals as goal
use Rattle.bond_group.proofs.checks.call_refusal.Goals.{Else-group-ne0, Else-not-pid_allowed, Start}

-- the first k checks of the call do not hold
abbrev Passed : Start → ℕ → Type 0
Passed c k = Past k (call_checks c.args.b c.args.group)

past_2 : (c : Else-group-ne0) → Passed c.before.before 1
unfolding call_checks
past_2 c = passed 1 _ (simp (ne_eqb _ _ c.if-group-eq0.false, eq-eqb _ _ c.if-group-ne0.false))

past_3 : (c : Else-not-pid_allowed) → Passed c.before.before.before.before 2
unfolding call_checks
past_3 c = past_2 c.before.before ∙ passed 2 _ (ap not (sym c.pid_allowed.ensures) ∙ c.if-not-pid_allowed.false-raw)

pub returns-then-group-eq0 : goal.returns-then-group-eq0
unfolding call_checks
returns-then-group-eq0 c = sym (answers 1 _ (simp (eq-eqb _ _ c.if-group-eq0.true)))

pub returns-then-group-ne0 : goal.returns-then-group-ne0
unfolding call_checks
returns-then-group-ne0 c = sym (answers 1 _ (simp (ne_eqb _ _ c.if-group-eq0.false, ne_eqb _ _ c.if-group-ne0.true)))

pub returns-then-not-pid_allowed : goal.returns-then-not-pid_allowed
unfolding call_checks
returns-then-not-pid_allowed c = sym (past_2 (goal.at.returns-then-not-pid_allowed c).Else-group-ne0 ∙ answers 2 _ (ap not (sym c.pid_allowed.ensures) ∙ c.if-not-pid_allowed.true-raw))

pub returns-then-b-lt1 : goal.returns-then-b-lt1
unfolding call_checks
returns-then-b-lt1 c = sym (past_3 (goal.at.returns-then-b-lt1 c).Else-not-pid_allowed ∙ answers 17 _ (ap not (under 1 last_carrier _ c.if-b-lt1.true)))

pub returns-then-b : goal.returns-then-b
unfolding call_checks
returns-then-b c =
    sym (past_3 (goal.at.returns-then-b c).Else-not-pid_allowed ∙ answers 17 _ (ap not (past 1 last_carrier _ c.if-b-lt1.false c.if-b.true)))

pub returns : goal.returns
unfolding call_checks first_of
returns c =
    sym (past_3 (goal.at.returns c).Else-not-pid_allowed ∙ passed 17 [] (ap not (between 1 last_carrier _ c.if-b-lt1.false c.if-b.false)))
