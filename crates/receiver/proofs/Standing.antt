-- Where a receiver stands by bytes that no call refuses. Assumes nothing.
use Prim.Native.Nat.{ℕ, zero, suc, ◌≤◌}
use mathlib.Core.Path.{◌≡◌, refl, sym, ap, subst}
use mathlib.Core.Bool.{Bool, true, false, cond, not, ◌&&◌, true≢false}
use mathlib.Core.List.{List, [], ◌∷◌}
use native.Mathlib.Omega.{arith}
use borrow.Author.Tests.{eqb-true, ltb-false, ne_eqb}
use lib.Dec.{eqb}
use lib.ListN.{get_or}
use Rattle.setting.specs.Refusal.{first_of, NoneHolds}
use Rattle.setting.proofs.Refusals.{none_first, none_at, none_before, none_behind}
use Rattle.setting.specs.Rules.{pid_allowed}
use Rattle.setting.specs.Size.{slots_of}
use Rattle.setting_bytes.specs.Kinds.{is_kind}
use Rattle.receiver.specs.declared.Stage.{Stage}
use Rattle.receiver.specs.Table.{stage_checks, is_ready}
use Rattle.receiver.specs.Receiving.{receiver_checks}
use Rattle.receiver.specs.Bytes.{kind_at, stage_at, counter_at, stored_at, no_stage, stage_of, receiver_of}
use Rattle.receiver.proofs.ReceiverChecks.{receiver_numbered}

-- what the three bytes of a stage are that is not refused
pub data Stands (slots tag from k : ℕ) (stage : Stage) : Type 0 where
  waits : tag ≡ 0 → from ≡ 0 → k ≡ 0 → stage ≡ Stage.Waiting → Stands slots tag from k stage
  opens : tag ≡ 1 → k ≤ slots → stage ≡ Stage.Open from k → Stands slots tag from k stage
  readies : tag ≡ 2 → k ≡ 0 → stage ≡ Stage.Ready from → Stands slots tag from k stage

none_stands : (slots : ℕ) → NoneHolds (stage_checks slots no_stage) → ⊥
unfolding stage_checks
none_stands slots n = true≢false (none_at n 0)

in_zero : (slots from k : ℕ) (p q : Bool) → eqb from 0 ≡ p → eqb k 0 ≡ q → NoneHolds (stage_checks slots (cond (p && q) Stage.Waiting no_stage))
    → Stands slots 0 from k (cond (p && q) Stage.Waiting no_stage)
in_zero slots from k true true e g n = waits refl (eqb-true from 0 e) (eqb-true k 0 g) refl
in_zero slots from k true false e g n = absurd (none_stands slots n)
in_zero slots from k false q e g n = absurd (none_stands slots n)

in_two : (slots from k : ℕ) (q : Bool) → eqb k 0 ≡ q → NoneHolds (stage_checks slots (cond q (Stage.Ready from) no_stage)) → Stands slots 2 from k (cond q (Stage.Ready from) no_stage)
in_two slots from k true g n = readies refl (eqb-true k 0 g) refl
in_two slots from k false g n = absurd (none_stands slots n)

beyond : (tag from k : ℕ) → stage_of (suc (suc (suc tag))) from k ≡ no_stage
unfolding stage_of
beyond tag from k =
    rw (
      ne_eqb (suc (suc (suc tag))) 0 (λ z. omega (arith, z)),
      ne_eqb (suc (suc (suc tag))) 1 (λ z. omega (arith, z)),
      ne_eqb (suc (suc (suc tag))) 2 (λ z. omega (arith, z)),
    )
    refl

pub stands : (slots tag from k : ℕ) → NoneHolds (stage_checks slots (stage_of tag from k)) → Stands slots tag from k (stage_of tag from k)
unfolding stage_of stage_checks
stands slots zero from k n = in_zero slots from k (eqb from 0) (eqb k 0) refl refl n
stands slots (suc zero) from k n = opens refl (ltb-false slots k (none_at n 1)) refl
stands slots (suc (suc zero)) from k n = in_two slots from k (eqb k 0) refl n
stands slots (suc (suc (suc tag))) from k n = absurd (none_stands slots (subst (λ (s : Stage). NoneHolds (stage_checks slots s)) (beyond tag from k) n))

-- a state that no call refuses
module _ (b : List ℕ) (e : first_of (receiver_checks (receiver_of b)) ≡ 0) where
  abbrev slots : ℕ
  slots = slots_of (receiver_of b).kind

  stage_none : NoneHolds (stage_checks slots (receiver_of b).stage)
  unfolding receiver_checks
  stage_none =
      none_before (stage_checks slots (receiver_of b).stage) _
      (none_behind ((2, not (pid_allowed (receiver_of b).pid)) ∷ []) (none_first (receiver_checks (receiver_of b)) (receiver_numbered (receiver_of b)) e))

  pub has_kind : is_kind (get_or b kind_at 0) ≡ true
  unfolding receiver_of
  has_kind = by_kind (is_kind (get_or b kind_at 0)) stage_none
    where
      by_kind : (t : Bool) → NoneHolds (stage_checks slots (cond t (stage_of (get_or b stage_at 0) (get_or b counter_at 0) (get_or b stored_at 0)) no_stage)) → t ≡ true
      by_kind true n = refl
      by_kind false n = absurd (none_stands slots n)

  stage_is : (receiver_of b).stage ≡ stage_of (get_or b stage_at 0) (get_or b counter_at 0) (get_or b stored_at 0)
  unfolding receiver_of
  stage_is = rw has_kind refl

  pub standing : Stands slots (get_or b stage_at 0) (get_or b counter_at 0) (get_or b stored_at 0) (receiver_of b).stage
  standing =
      subst (Stands slots (get_or b stage_at 0) (get_or b counter_at 0) (get_or b stored_at 0)) (sym stage_is)
      (stands slots _ _ _ (subst (λ (s : Stage). NoneHolds (stage_checks slots s)) stage_is stage_none))

  -- a frame is ready where the stage's number is 2
  pub ready_from_byte : get_or b stage_at 0 ≡ 2 → is_ready (receiver_of b).stage ≡ true
  ready_from_byte e = by_standing standing
    where
      by_standing : {s : Stage} → Stands slots (get_or b stage_at 0) (get_or b counter_at 0) (get_or b stored_at 0) s → is_ready s ≡ true
      by_standing (waits t f k s) = absurd (omega (arith, t, e))
      by_standing (opens t k s) = absurd (omega (arith, t, e))
      by_standing (readies t k s) = ap is_ready s

  pub not_ready : (get_or b stage_at 0 ≡ 2 → ⊥) → is_ready (receiver_of b).stage ≡ false
  not_ready h = by_standing standing
    where
      by_standing : {s : Stage} → Stands slots (get_or b stage_at 0) (get_or b counter_at 0) (get_or b stored_at 0) s → is_ready s ≡ false
      by_standing (waits t f k s) = ap is_ready s
      by_standing (opens t k s) = ap is_ready s
      by_standing (readies t k s) = absurd (h t)
