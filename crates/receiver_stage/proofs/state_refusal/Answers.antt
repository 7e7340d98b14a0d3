-- `state_refusal` meets its contract, test by test. Assumes nothing.
use Prim.Native.Nat.{ℕ}
use mathlib.Core.Path.{◌≡◌, sym, ap, ap₂, ◌∙◌}
use mathlib.Core.List.{List, ◌++◌}
use native.Mathlib.Omega.{arith}
use borrow.Author.Rules.{rules}
use borrow.Author.Tests.{not-false, not-true}
use lib.ListN.{length, get_or}
use Rattle.refusals.specs.Refusals.{number, answer}
use Rattle.refusals.proofs.Refusals.{is_some_number}
use Rattle.setting.specs.declared.Kind.{Kind}
use Rattle.setting.specs.declared.Size.{Size}
use Rattle.setting.specs.Refusal.{first_of}
use Rattle.setting.specs.Rules.{pid_allowed, number_checks}
use Rattle.setting.specs.Size.{size_of, slots_of}
use Rattle.setting_bytes.specs.Words.{word_at}
use Rattle.setting_bytes.specs.Kinds.{kind_of}
use Rattle.receiver.specs.declared.Stage.{Stage}
use Rattle.receiver.specs.Table.{stage_checks}
use Rattle.receiver.specs.Bytes.{pid_at, kind_at, stage_at, counter_at, stored_at, stage_of, receiver_length, receiver_of}
use Rattle.receiver.specs.Calls.{state_refused}
use Rattle.receiver.proofs.Refused.{no_state, no_pid, no_kind, when_no_stage, its_numbers}
use Rattle.receiver_stage.proofs.state_refusal.Goals as goal
use Rattle.receiver_stage.proofs.state_refusal.Goals.{After-pid_allowed}

-- the array is what was lent, and as long as a state is
whole : (c : After-pid_allowed) → c.in_ok-state.state.now ≡ c.args.state.now
whole c = search rules

long : (c : After-pid_allowed) → length c.in_ok-state.state.now ≡ receiver_length
long c = search rules

-- the PID that the state says, allowed or not
said : (c : After-pid_allowed) → pid_allowed (word_at pid_at c.in_ok-state.state.now) ≡ c.pid_allowed.result
said c = sym (c.pid_allowed.ensures ∙ ap pid_allowed c.word.ensures)

pub returns-in_err-state : goal.returns-in_err-state
returns-in_err-state c =
    let other : length c.args.state.now ≡ receiver_length → ⊥ = search rules in
    let passed_up : answer c.from_residual.result ≡ 1 = search rules in
    passed_up ∙ no_state c.args.state.now other

pub returns-then-not-pid_allowed : goal.returns-then-not-pid_allowed
returns-then-not-pid_allowed c =
    let at = (goal.at.returns-then-not-pid_allowed c).After-pid_allowed in
    sym (no_pid c.in_ok-state.state.now (long at) (said at ∙ not-true _ c.if-not-pid_allowed.true-raw)) ∙ ap state_refused (whole at)

pub returns-then-state-gt-LAST_KIND : goal.returns-then-state-gt-LAST_KIND
returns-then-state-gt-LAST_KIND c =
    let at = (goal.at.returns-then-state-gt-LAST_KIND c).After-pid_allowed in
    sym (no_kind c.in_ok-state.state.now (long at) (said at ∙ not-false _ c.if-not-pid_allowed.false-raw) (omega (arith, c.if-state-gt-LAST_KIND.true))) ∙ ap state_refused (whole at)

-- what was asked of the stage
module _ (b : List ℕ) {z : Size} {k : Kind} (size : z ≡ size_of k) (kind : k ≡ kind_of (get_or b kind_at 0))
    {t : Stage} (stage : t ≡ stage_of (get_or b stage_at 0) (get_or b counter_at 0) (get_or b stored_at 0)) {n : ℕ} (told : n ≡ first_of (stage_checks z.slots t)) where
  staged : n ≡ first_of (stage_checks (slots_of (kind_of (get_or b kind_at 0))) (stage_of (get_or b stage_at 0) (get_or b counter_at 0) (get_or b stored_at 0)))
  staged = told ∙ ap₂ (λ (m : ℕ) (s : Stage). first_of (stage_checks m s)) (ap (λ (x : Size). x.slots) (size ∙ ap size_of kind)) stage

pub returns-in_err-stage_refusal : goal.returns-in_err-stage_refusal
returns-in_err-stage_refusal c =
    let at = (goal.at.returns-in_err-stage_refusal c).After-pid_allowed in
    let b = c.in_ok-state.state.now in
    let refusal = c.in_err-stage_refusal.field-0.0 in
    let passed_up : answer c.from_residual-in_err-stage_refusal.result ≡ number refusal = search rules in
    passed_up
    ∙ when_no_stage b (long at) (said at ∙ not-false _ c.if-not-pid_allowed.false-raw) (omega (arith, c.if-state-gt-LAST_KIND.false))
    (staged b c.size_of-size.ensures c.kind_of-kind.ensures c.stage_of-stage.ensures c.in_err-stage_refusal.ensures) (is_some_number refusal)
    ∙ ap state_refused (whole at)

pub returns : goal.returns
returns c =
    let at = (goal.at.returns c).After-pid_allowed in
    let b = c.in_ok-state.state.now in
    c.numbers_refusal.ensures
    ∙ ap (λ (k : Kind). first_of (number_checks (size_of k) (receiver_of b).numbers ++ number_checks (size_of k) (receiver_of b).before)) c.kind_of-kind.ensures
    ∙ sym (its_numbers b (long at) (said at ∙ not-false _ c.if-not-pid_allowed.false-raw) (omega (arith, c.if-state-gt-LAST_KIND.false)) (sym (staged b c.size_of-size.ensures c.kind_of-kind.ensures c.stage_of-stage.ensures c.in_ok-stage_refusal.ensures)))
    ∙ ap state_refused (whole at)
