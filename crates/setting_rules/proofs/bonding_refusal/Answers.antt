use mathlib.Core.Path.{sym, ◌∙◌}
use mathlib.Core.Logic.{inl, inr}
use Rattle.setting.specs.Refusal.{first_of}
use Rattle.setting.specs.Rules.{bonding_checks}
use Rattle.setting_rules.proofs.bonding_refusal.Goals as goal
use Rattle.setting_rules.proofs.bonding_refusal.Goals.{else-is_within-via-then-is_within+then-is_within-2+then-is_within-3+else-is_within-4, else-is_within-via-then-is_within+then-is_within-2+else-is_within-3, else-is_within-via-then-is_within+else-is_within-2, else-is_within-via-else-is_within}

pub returns-in-Plain : goal.returns-in-Plain
unfolding bonding_checks first_of
returns-in-Plain c = elim c.in-Plain.is [ inl e ↦ rw e | inr e ↦ rw e ]

pub returns-then-is_within-4 : goal.returns-then-is_within-4
unfolding bonding_checks first_of
returns-then-is_within-4 c =
    rw (
      c.in-Extended.is,
      sym c.is_within.ensures ∙ c.if-is_within.true,
      sym c.is_within-then-is_within.ensures ∙ c.if-is_within-2.true,
      sym c.is_within-then-is_within-2.ensures ∙ c.if-is_within-3.true,
      sym c.is_within-then-is_within-3.ensures ∙ c.if-is_within-4.true,
    )

pub returns-else-is_within : goal.returns-else-is_within
unfolding bonding_checks first_of
returns-else-is_within c =
    rw c.in-Extended.is (elim c.else-is_within.branch [
      | else-is_within-via-then-is_within+then-is_within-2+then-is_within-3+else-is_within-4 w ↦
          rw (
            sym c.is_within.ensures ∙ w.if-is_within.true,
            sym w.is_within-then-is_within.ensures ∙ w.if-is_within-2.true,
            sym w.is_within-then-is_within-2.ensures ∙ w.if-is_within-3.true,
            sym w.is_within-then-is_within-3.ensures ∙ w.if-is_within-4.false,
          )
      | else-is_within-via-then-is_within+then-is_within-2+else-is_within-3 w ↦
          rw (
            sym c.is_within.ensures ∙ w.if-is_within.true,
            sym w.is_within-then-is_within.ensures ∙ w.if-is_within-2.true,
            sym w.is_within-then-is_within-2.ensures ∙ w.if-is_within-3.false,
          )
      | else-is_within-via-then-is_within+else-is_within-2 w ↦
          rw (sym c.is_within.ensures ∙ w.if-is_within.true, sym w.is_within-then-is_within.ensures ∙ w.if-is_within-2.false)
      | else-is_within-via-else-is_within w ↦ rw (sym c.is_within.ensures ∙ w.if-is_within.false)
    ])
