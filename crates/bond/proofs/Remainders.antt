-- The remainder of a spread and of a gather: the one that reading the headers shows, beside 7 alone. Assumes nothing.
use Prim.Native.Nat.{ℕ}
use mathlib.Core.Path.{◌≡◌, refl, sym, ap, ◌∙◌}
use mathlib.Core.Bool.{true}
use mathlib.Core.List.{List, [], ◌∷◌, ◌++◌}
use native.Mathlib.Omega.{arith}
use Rattle.setting.specs.Refusal.{Check, first_of}
use Rattle.setting.proofs.Refusals.{idle, idle-before, idle-behind}
use Rattle.header_check.specs.Checking.{refusal_by}
use Rattle.header_check.specs.Demands.{OnlyBesideSeven}
use Rattle.header_check.proofs.Sevens.{beside_seven}
use Rattle.bond_group.specs.declared.Bond.{Bond}
use Rattle.bond_group.specs.Standing.{plan_checks, refused_header, group_refusal}
use Rattle.bond_group.specs.Plan.{planned_of}
use Rattle.bond_group.proofs.Remainders.{seven_shows}
use Rattle.bond.specs.Bonding.{spread_checks, gather_checks, spread_refusal, spread_of, gather_refusal, gather_of}
use Rattle.bond.specs.Demands.{RemainderShown}

-- 7 is answered by the headers
module _ (b : Bond) (group : List ℕ) where
  of_headers : (before behind : List Check) → idle 7 before ≡ true → idle 7 behind ≡ true → first_of (before ++ (plan_checks b group ++ behind)) ≡ 7
      → first_of (plan_checks b group) ≡ 7
  of_headers before behind i k e =
      idle-behind 7 (plan_checks b group) behind (omega arith) k (idle-before 7 before (plan_checks b group ++ behind) i e)

  spread_seven : (stream : List ℕ) → spread_refusal b group stream ≡ 7 → first_of (plan_checks b group) ≡ 7
  unfolding spread_refusal spread_checks
  spread_seven stream e = of_headers (_ ∷ []) _ refl refl e

  gather_seven : (out : ℕ) → gather_refusal b group out ≡ 7 → first_of (plan_checks b group) ≡ 7
  unfolding gather_refusal gather_checks
  gather_seven out e = of_headers [] _ refl refl e

  shown : (n : ℕ) → (n ≡ 7 → first_of (plan_checks b group) ≡ 7) → OnlyBesideSeven (group_refusal b group n)
  shown n h = beside_seven n (refused_header b group) (λ e. seven_shows b group (h e))

  same : (n : ℕ) → (n ≡ 7 → first_of (plan_checks b group) ≡ 7) → n ≡ 7 → group_refusal b group n ≡ (planned_of b group).refusal
  unfolding planned_of
  same n h e = ap (group_refusal b group) (e ∙ sym (h e))

pub remainder_shown : RemainderShown
unfolding spread_of gather_of refusal_by
remainder_shown b group stream out =
    let s = spread_seven b group stream in
    let g = gather_seven b group out in
    (shown b group (spread_refusal b group stream) s, shown b group (gather_refusal b group out) g, same b group (spread_refusal b group stream) s, same b group (gather_refusal b group out) g)
