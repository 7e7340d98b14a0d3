-- Laws of the composer's checks, which are asked only where a condition holds. Assumes nothing.
use Prim.Native.Nat.{ℕ}
use mathlib.Core.Path.{◌≡◌, refl, sym, ap, ap₂, ◌∙◌}
use mathlib.Core.Bool.{Bool, true, false, ◌&&◌}
use mathlib.Core.List.{List, [], ◌∷◌, ◌++◌}
use lib.Dec.{leb}
use Rattle.slices.proofs.Any.{both}
use Rattle.setting.specs.declared.Kind.{Kind}
use Rattle.setting.specs.declared.Setting.{Setting}
use Rattle.setting.specs.Refusal.{Check, first_of, of_length, NoneHolds, none, more}
use Rattle.setting.specs.Rules.{absent_checks, width_checks, bonding_checks, rule_checks}
use Rattle.setting.proofs.Refusals.{first_none, numbered, numbered_append, none_first, onward, at_once, at_length}
use Rattle.setting.specs.declared.Announced.{Announced}
use Rattle.setting.specs.Announcing.{announced_checks}
use Rattle.composer.specs.Composing.{Composer, asked, state_checks, open_rule_checks, mark_checks, open_checks}
use Rattle.composer.specs.States.{composer_length}

-- ---- asked

pub ask_all : (cs : List Check) → asked true cs ≡ cs
unfolding asked
ask_all [] = refl
ask_all (c ∷ cs) = ap (λ (l : List Check). c ∷ l) (ask_all cs)

pub ask_none : (cs : List Check) → NoneHolds (asked false cs)
unfolding asked
ask_none [] = none
ask_none (c ∷ cs) = more refl (ask_none cs)

pub asked-all : {b : Bool} (cs : List Check) → b ≡ true → first_of (asked b cs) ≡ first_of cs
asked-all cs e = rw e (ap first_of (ask_all cs))

pub asked_none : {b : Bool} (cs : List Check) → b ≡ false → first_of (asked b cs) ≡ 0
asked_none cs e = rw e (first_none (ask_none cs))

-- ---- no check of a part has the number 0: where it answers 0, none holds

numbered-asked : (b : Bool) (cs : List Check) → numbered cs ≡ true → numbered (asked b cs) ≡ true
unfolding asked
numbered-asked b [] e = refl
numbered-asked b (c ∷ cs) e =
    let p = both (leb 1 c.0) (numbered cs) e in
    ap₂ ◌&&◌ p.0 (numbered-asked b cs p.1)

pub widths-numbered : (kind : Kind) (s : Setting) → numbered (width_checks kind s) ≡ true
unfolding width_checks absent_checks
widths-numbered Kind.Plain s = refl
widths-numbered Kind.Extended s = refl
widths-numbered Kind.Short s = refl

pub rules_numbered : (kind : Kind) (s : Setting) → numbered (rule_checks kind s) ≡ true
unfolding rule_checks bonding_checks
rules_numbered Kind.Plain s = refl
rules_numbered Kind.Extended s = refl
rules_numbered Kind.Short s = refl

pub announced_none : (kind : Kind) (a : Announced) → first_of (announced_checks kind a) ≡ 0 → NoneHolds (announced_checks kind a)
unfolding announced_checks
announced_none kind a e = none_first (announced_checks kind a) refl e

pub state_numbered : (c : Composer) → numbered (state_checks c) ≡ true
unfolding state_checks announced_checks
state_numbered c = numbered-asked c.is_open (width_checks c.kind c.setting) (widths-numbered c.kind c.setting)

pub state_none : (c : Composer) → first_of (state_checks c) ≡ 0 → NoneHolds (state_checks c)
state_none c e = none_first (state_checks c) (state_numbered c) e

pub open_rules_numbered : (c : Composer) → numbered (open_rule_checks c) ≡ true
unfolding open_rule_checks
open_rules_numbered c = numbered-asked c.is_open (rule_checks c.kind c.setting) (rules_numbered c.kind c.setting)

pub open_rules_none : (c : Composer) → first_of (open_rule_checks c) ≡ 0 → NoneHolds (open_rule_checks c)
open_rules_none c e = none_first (open_rule_checks c) (open_rules_numbered c) e

pub open_numbered : (c : Composer) → numbered (open_checks c) ≡ true
unfolding open_checks mark_checks
open_numbered c = numbered_append (open_rule_checks c) (mark_checks c) (open_rules_numbered c) refl

pub open_none : (c : Composer) → first_of (open_checks c) ≡ 0 → NoneHolds (open_checks c)
open_none c e = none_first (open_checks c) (open_numbered c) e

-- ---- the checks of a state before others, where the code asks them of a state's bytes

module _ (c : Composer) (lent : ℕ) (long : lent ≡ composer_length) (behind : List Check) {all : ℕ} (past : all ≡ first_of (state_checks c ++ behind)) where
  pub state_refused : {n : ℕ} → n ≡ of_length composer_length lent (first_of (state_checks c)) → (n ≡ 0 → ⊥) → n ≡ all
  state_refused told some =
      let by_state = told ∙ at_length _ _ _ long in
      by_state ∙ sym (past ∙ at_once (state_checks c) behind (λ none. some (by_state ∙ none)))

  pub state_passed : 0 ≡ of_length composer_length lent (first_of (state_checks c)) → all ≡ first_of behind
  state_passed good = past ∙ onward behind (state_none c (sym (good ∙ at_length _ _ _ long)))
