-- `read_headers` meets its contract: its own checks, then the headers. Assumes nothing.
use mathlib.Core.Path.{◌≡◌, sym, ap, refl, ◌∙◌}
use borrow.Author.Rules.{rules}
use Rattle.std.specs.Prelude.{Err}
use Rattle.slices.specs.Slices.{copied}
use lib.ListN.{length}
use Rattle.refusals.specs.Refusals.{number}
use Rattle.refusals.proofs.Refusals.{is_some_number}
use Rattle.setting.specs.Refusal.{NoneHolds}
use Rattle.header_check.specs.declared.Refused.{Refused}
use Rattle.bond_group.specs.Standing.{call_checks}
use Rattle.bond_group.specs.Plan.{Plan, Headers, nothing_seen, headers_in}
use Rattle.bond_group.proofs.Passing.{called, call_none, when_call_refused, headers_answer}
use Rattle.bond_group.proofs.Lent.{leaves_by, copied_again, frames_planned, slots_planned, plan_refused}
use Rattle.bond_group.proofs.read_headers.Goals as goal
use Rattle.bond_group.proofs.read_headers.Goals.{In_ok-call_refusal}

pub returns-in_err-call_refusal : goal.returns-in_err-call_refusal
unfolding nothing_seen
returns-in_err-call_refusal c =
    let a = c.args in
    let refusal = c.in_err-call_refusal.field-0.0 in
    let why : Refused = record { refusal = refusal; remainder = 0 } in
    let passed_up : c.from_residual.result ≡ Err why = search rules in
    let all = leaves_by a.frames.now a.slots.now (when_call_refused a.b a.group.now (number refusal) refl c.in_err-call_refusal.ensures (is_some_number refusal))
    (ap headers_in passed_up, (c.clear.ensures.frames_after, c.clear.ensures.slots_after)) in record {
      value = all.0;
      frames_after = all.1.0;
      slots_after = all.1.1;
    }

-- the call's own checks passed
asked : (c : In_ok-call_refusal) → NoneHolds (call_checks c.args.b (length c.args.group.now))
asked c = call_none c.args.b (length c.args.group.now) (sym c.in_ok-call_refusal.ensures)

pub plan_of-planned-requires : goal.plan_of-planned-requires
plan_of-planned-requires c =
    let q = called c.args.b (length c.args.group.now) (asked (goal.at.plan_of-planned-requires c).In_ok-call_refusal) in
    let cleared = c.clear.ensures in record {
      last_slot_len = (q.frames, q.pid);
      le_carriers = (q.one, q.few);
      cleared = (
        cleared.frames_after ∙ sym (copied_again c.args.frames.now _ _ cleared.frames_after refl refl),
        cleared.slots_after ∙ sym (copied_again c.args.slots.now _ _ cleared.slots_after refl refl),
      );
    }

pub returns-in-Err : goal.returns-in-Err
returns-in-Err c =
    let a = c.args in
    let why = c.in-Err.why in
    let planned = c.in-Err.ensures in
    let none = plan_refused a.b a.group.now (λ z. is_some_number why.refusal (ap (λ (h : Headers). h.refusal.number) planned.value ∙ z)) in
    let all = leaves_by a.frames.now a.slots.now (headers_answer a.b a.group.now (asked (goal.at.returns-in-Err c).In_ok-call_refusal)) (
      planned.value,
      (
        c.clear-in-Err.ensures.frames_after ∙ planned.cleared_again.0 ∙ copied_again a.frames.now _ _ c.clear.ensures.frames_after refl refl
            ∙ sym (ap (λ (p : Plan). copied a.frames.now p.frames) none),
        c.clear-in-Err.ensures.slots_after ∙ planned.cleared_again.1 ∙ copied_again a.slots.now _ _ c.clear.ensures.slots_after refl refl
            ∙ sym (ap (λ (p : Plan). copied a.slots.now p.slots) none),
      ),
    ) in record {
      value = all.0;
      frames_after = all.1.0;
      slots_after = all.1.1;
    }

pub returns : goal.returns
returns c =
    let a = c.args in
    let planned = c.in_default.ensures in
    let all = leaves_by a.frames.now a.slots.now (headers_answer a.b a.group.now (asked (goal.at.returns c).In_ok-call_refusal)) (
      c.plan_of-planned.ensures.value,
      (
        copied_again a.frames.now _ _ c.clear.ensures.frames_after (frames_planned a.b a.group.now) (planned.frames_after refl),
        copied_again a.slots.now _ _ c.clear.ensures.slots_after (slots_planned a.b a.group.now) (planned.slots_after refl),
      ),
    ) in record {
      value = all.0;
      frames_after = all.1.0;
      slots_after = all.1.1;
    }
