-- `standing_refusal` meets its contract, check by check. Assumes nothing.
use mathlib.Core.Path.{◌≡◌, sym, ap, ◌∙◌}
use mathlib.Core.Bool.{false, not, ◌&&◌}
use mathlib.Core.List.{[]}
use borrow.Author.Tests.{eq-eqb, ne_eqb, not-true, not-false}
use lib.Dec.{eqb}
use Rattle.counters.specs.declared.FramePosition.{FramePosition}
use Rattle.setting.specs.Refusal.{first_of}
use Rattle.setting.proofs.Refusals.{Past, answers, passed}
use Rattle.bond_group.specs.Standing.{is_last, standing_checks}
use Rattle.bond_group.proofs.headers.standing_refusal.Goals as goal
use Rattle.bond_group.proofs.headers.standing_refusal.Goals.{Else-is_end, Else-h-next_carrier, Else-h-group_id, Else-h-carriers, Joined-not-is_last, else-not-is_last, then-not-is_last+else-h-behind}

-- the first k checks do not hold
past_1 : (c : Else-is_end) → Past 1 (standing_checks c.args.carriers c.args.group_id c.args.behind c.args.h)
unfolding standing_checks
past_1 c = passed 14 _ (sym c.is_end.ensures ∙ c.if-is_end.false)

past_2 : (c : Else-h-next_carrier) → Past 2 (standing_checks c.args.carriers c.args.group_id c.args.behind c.args.h)
unfolding standing_checks
past_2 c = past_1 c.before.before ∙ passed 14 _ (ap not (eq-eqb _ _ (c.if-h-next_carrier.false ∙ c.next_carrier.ensures)))

past_3 : (c : Else-h-group_id) → Past 3 (standing_checks c.args.carriers c.args.group_id c.args.behind c.args.h)
unfolding standing_checks
past_3 c = past_2 c.before ∙ passed 14 _ (ap not (eq-eqb _ _ c.if-h-group_id.false))

past_4 : (c : Else-h-carriers) → Past 4 (standing_checks c.args.carriers c.args.group_id c.args.behind c.args.h)
unfolding standing_checks
past_4 c = past_3 c.before ∙ passed 14 _ (ap not (eq-eqb _ _ c.if-h-carriers.false))

past_5 : (c : Joined-not-is_last) → Past 5 (standing_checks c.args.carriers c.args.group_id c.args.behind c.args.h)
unfolding standing_checks
past_5 c =
    let last = c.is_last.ensures in
    let same : not (is_last c.args.behind) && not (eqb c.args.h.number_of_frames c.args.behind.number_of_frames) ≡ false =
    elim c.if-not-is_last.branch [ then-not-is_last+else-h-behind w ↦ simp (sym last ∙ not-true _ w.if-not-is_last.true-raw, eq-eqb _ _ w.if-h-behind.false) | else-not-is_last w ↦ simp (sym last ∙ not-false _ w.if-not-is_last.false-raw) ] in
    past_4 c.before.before ∙ passed 14 _ same

pub returns-then-is_end : goal.returns-then-is_end
unfolding standing_checks
returns-then-is_end c = sym (answers 14 _ (sym c.is_end.ensures ∙ c.if-is_end.true))

pub returns-then-h-next_carrier : goal.returns-then-h-next_carrier
unfolding standing_checks
returns-then-h-next_carrier c =
    sym (past_1 (goal.at.returns-then-h-next_carrier c).Else-is_end ∙ answers 14 _ (ap not (ne_eqb _ _ (λ e. c.if-h-next_carrier.true (e ∙ sym c.next_carrier.ensures)))))

pub returns-then-h-group_id : goal.returns-then-h-group_id
unfolding standing_checks
returns-then-h-group_id c = sym (past_2 (goal.at.returns-then-h-group_id c).Else-h-next_carrier ∙ answers 14 _ (ap not (ne_eqb _ _ c.if-h-group_id.true)))

pub returns-then-h-carriers : goal.returns-then-h-carriers
unfolding standing_checks
returns-then-h-carriers c = sym (past_3 (goal.at.returns-then-h-carriers c).Else-h-group_id ∙ answers 14 _ (ap not (ne_eqb _ _ c.if-h-carriers.true)))

pub returns-then-h-behind : goal.returns-then-h-behind
unfolding standing_checks
returns-then-h-behind c =
    let last = sym c.is_last.ensures ∙ not-true _ c.if-not-is_last.true-raw in
    sym (past_4 (goal.at.returns-then-h-behind c).Else-h-carriers ∙ answers 14 _ (simp (last, ne_eqb _ _ c.if-h-behind.true)))

pub returns-then-ne : goal.returns-then-ne
unfolding standing_checks
returns-then-ne c =
    let asked = ap (λ (p : FramePosition). not (eqb c.args.h.frame_position.0 p.0)) c.next_position.ensures in
    sym (past_5 (goal.at.returns-then-ne c).Joined-not-is_last ∙ answers 14 _ (sym asked ∙ sym c.ne.ensures ∙ c.if-ne.true))

pub returns : goal.returns
unfolding standing_checks first_of
returns c =
    let asked = ap (λ (p : FramePosition). not (eqb c.args.h.frame_position.0 p.0)) c.next_position.ensures in
    sym (past_5 (goal.at.returns c).Joined-not-is_last ∙ passed 14 [] (sym asked ∙ sym c.ne.ensures ∙ c.if-ne.false))
