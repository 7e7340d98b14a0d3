-- What passes the checks of a spread and of a gather. Assumes nothing.
use Prim.Native.Nat.{ℕ}
use mathlib.Core.Path.{◌≡◌, refl}
use mathlib.Core.List.{List}
use Rattle.setting.specs.Refusal.{NoneHolds, first_of}
use Rattle.setting.proofs.Refusals.{none_first, numbered_append}
use Rattle.bond_group.specs.declared.Bond.{Bond}
use Rattle.bond_group.specs.Standing.{plan_checks}
use Rattle.bond_group.proofs.Passing.{numbered-plan}
use Rattle.bond.specs.Bonding.{spread_checks, gather_checks}

module _ (b : Bond) (group : List ℕ) where
  pub spread_none : (stream : List ℕ) → first_of (spread_checks b group stream) ≡ 0 → NoneHolds (spread_checks b group stream)
  unfolding spread_checks
  spread_none stream e = none_first (spread_checks b group stream) (numbered_append (plan_checks b group) _ (numbered-plan b group) refl) e

  pub gather_none : (out : ℕ) → first_of (gather_checks b group out) ≡ 0 → NoneHolds (gather_checks b group out)
  unfolding gather_checks
  gather_none out e = none_first (gather_checks b group out) (numbered_append (plan_checks b group) _ (numbered-plan b group) refl) e
