-- Laws of two lists of checks in turn, under each number the first's before the second's. Assumes nothing.
use Prim.Native.Nat.{ℕ, ◌≤◌}
use mathlib.Core.Path.{◌≡◌, refl, sym, ap₂}
use mathlib.Core.Logic.{◌⊎◌, inl, inr}
use mathlib.Core.Bool.{Bool, true, false, cond, ◌&&◌}
use mathlib.Core.List.{List, [], ◌∷◌}
use native.Mathlib.Nat.{le_refl}
use native.Mathlib.Omega.{arith}
use borrow.Author.Tests.{eq-eqb, ne_eqb, le-ltb, ltb-false}
use lib.Dec.{leb, eqb, ltb}
use Rattle.slices.proofs.Any.{both}
use Rattle.setting.specs.declared.Kind.{Kind}
use Rattle.setting.specs.declared.Setting.{Setting}
use Rattle.setting.specs.Refusal.{Check, first_of, NoneHolds}
use Rattle.setting.specs.Rules.{bonding_checks, rule_checks}
use Rattle.setting.proofs.Refusals.{numbered, none_first}
use Rattle.composer.specs.Composing.{Composer, asked, in_turn, open_rule_checks}
use Rattle.composer.proofs.Refusals.{rules_numbered, open_rules_numbered}

-- two lists with the same numbers, which rise from n on
pub data Rising : ℕ → List Check → List Check → Type 0 where
  end : {n : ℕ} → Rising n [] []
  step : (n m : ℕ) {a b : Bool} {cs ds : List Check} → n ≤ m → Rising m cs ds → Rising n ((m, a) ∷ cs) ((m, b) ∷ ds)

-- the smaller of two numbers that are not 0
abbrev pub lesser : ℕ → ℕ → ℕ
lesser a b = cond (eqb a 0) b (cond (eqb b 0) a (cond (ltb b a) b a))

-- no refusal, or one of a number from n on
abbrev From : ℕ → ℕ → Type 0
From n r = (r ≡ 0) ⊎ (n ≤ r)

next : {n m r : ℕ} (t : Bool) → n ≤ m → From m r → From n (cond t m r)
next true h f = inr h
next false h (inl z) = inl z
next false h (inr l) = inr (omega arith)

first-from : {n : ℕ} {cs ds : List Check} → Rising n cs ds → From n (first_of cs) × From n (first_of ds)
unfolding first_of
first-from end = (inl refl, inl refl)
first-from (step n m {a} {b} h r) = (next a h (first-from r).0, next b h (first-from r).1)

lesser_left : {m r : ℕ} → 1 ≤ m → From m r → lesser m r ≡ m
lesser_left {m} {r} h (inl z) = simp (ne_eqb m 0 (omega arith), eq-eqb r 0 z)
lesser_left {m} {r} h (inr l) = simp (ne_eqb m 0 (omega arith), ne_eqb r 0 (omega arith), le-ltb r m l)

lesser_right : {m r : ℕ} → 1 ≤ m → From m r → lesser r m ≡ m
lesser_right {m} {r} h (inl z) = simp (eq-eqb r 0 z)
lesser_right {m} {r} h (inr l) = simp (ne_eqb r 0 (omega arith), ne_eqb m 0 (omega arith)) (least (ltb m r) refl)
  where
    least : (t : Bool) → ltb m r ≡ t → cond t m r ≡ m
    least true e = refl
    least false e = let g = ltb-false m r e in omega arith

-- one number with what is asked under it in both lists, before the rest of them
one_turn : {m x y z : ℕ} (a b : Bool) → 1 ≤ m → From m x → From m y → z ≡ lesser x y → cond a m (cond b m z) ≡ lesser (cond a m x) (cond b m y)
one_turn {m} true b g f f' e = sym (lesser_left g (next b (le_refl m) f'))
one_turn false true g f f' e = sym (lesser_right g f)
one_turn false false g f f' e = e

pub first_of-in_turn : {n : ℕ} {cs ds : List Check} → 1 ≤ n → Rising n cs ds → first_of (in_turn cs ds) ≡ lesser (first_of cs) (first_of ds)
unfolding first_of in_turn
first_of-in_turn g end = refl
first_of-in_turn g (step n m {a} {b} h r) = one_turn a b (omega arith) (first-from r).0 (first-from r).1 (first_of-in_turn (omega arith) r)

-- the rules of two settings of one kind
pub rules_rise : (kind : Kind) (s t : Setting) (b : Bool) → Rising 1 (asked b (rule_checks kind s)) (rule_checks kind t)
unfolding asked rule_checks bonding_checks
rules_rise Kind.Plain s t b = step 1 8 (omega arith) (step 8 9 (omega arith) (step 9 10 (omega arith) end))
rules_rise Kind.Extended s t b =
    step 1 8 (omega arith)
    (step 8 9 (omega arith)
    (step 9 10 (omega arith)
    (step 10 11 (omega arith)
    (step 11 11 (omega arith)
    (step 11 11 (omega arith)
    (step 11 11 (omega arith) end))))))
rules_rise Kind.Short s t b = step 1 8 (omega arith) (step 8 9 (omega arith) (step 9 10 (omega arith) end))

-- no check has the number 0: where they answer 0, none holds
numbered_turn : (cs ds : List Check) → numbered cs ≡ true → numbered ds ≡ true → numbered (in_turn cs ds) ≡ true
unfolding in_turn
numbered_turn [] ds e f = f
numbered_turn (c ∷ cs) [] e f = e
numbered_turn (c ∷ cs) (d ∷ ds) e f =
    let p = both (leb 1 c.0) (numbered cs) e in
    let q = both (leb 1 d.0) (numbered ds) f in
    ap₂ ◌&&◌ p.0 (ap₂ ◌&&◌ q.0 (numbered_turn cs ds p.1 q.1))

pub both_rules_none : (c : Composer) (s : Setting) → first_of (in_turn (open_rule_checks c) (rule_checks c.kind s)) ≡ 0 → NoneHolds (in_turn (open_rule_checks c) (rule_checks c.kind s))
both_rules_none c s e =
    none_first (in_turn (open_rule_checks c) (rule_checks c.kind s)) (numbered_turn (open_rule_checks c) (rule_checks c.kind s) (open_rules_numbered c) (rules_numbered c.kind s)) e
