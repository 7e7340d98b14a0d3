-- What an open state that was not refused has: the facts behind its checks. Assumes nothing.
use Prim.Native.Nat.{ℕ, zero, suc, ◌^◌, ◌<◌}
use mathlib.Core.Path.{◌≡◌, sym, ap, ◌∙◌}
use mathlib.Core.Bool.{Bool, true, ◌&&◌}
use mathlib.Core.List.{List, [], ◌∷◌}
use borrow.Author.Tests.{leb-false, not-false}
use lib.ListN.{drop}
use Rattle.setting.specs.Refusal.{Check, NoneHolds, none, more}
use Rattle.setting.specs.Rules.{pid_allowed, width_checks, rule_checks}
use Rattle.setting.proofs.Refusals.{none_at, none_before, none_behind}
use Rattle.setting.specs.Announcing.{announced_checks}
use Rattle.composer.specs.Composing.{Composer, asked, state_checks, open_rule_checks, mark_checks, open_checks}

-- ---- checks behind the first, and checks that are asked

pub none_drop : {cs : List Check} → NoneHolds cs → (k : ℕ) → NoneHolds (drop k cs)
none_drop h zero = h
none_drop none (suc k) = none
none_drop (more e h) (suc k) = none_drop h k

none_asked : {b : Bool} (cs : List Check) → b ≡ true → NoneHolds (asked b cs) → NoneHolds cs
unfolding asked
none_asked [] e h = none
none_asked (c ∷ cs) e (more f h) = more (sym (ap (λ (x : Bool). x && c.1) e) ∙ f) (none_asked cs e h)

-- ---- an open state that passed

-- an open frame's setting meets the rules, and the state's PID and numbers are in range
pub record Passes (c : Composer) : Type 0 where
  pub is_open : c.is_open ≡ true
  pub pid : pid_allowed c.pid ≡ true
  pub counter : c.counter < 2 ^ 4
  pub version : c.version < 2 ^ 3
  pub widths : NoneHolds (width_checks c.kind c.setting)
  pub rules : NoneHolds (rule_checks c.kind c.setting)

pub passes : (c : Composer) → NoneHolds (state_checks c) → NoneHolds (open_checks c) → Passes c
unfolding state_checks open_checks open_rule_checks
passes c h g =
    let e = not-false c.is_open (none_at g 0) in
    record {
      is_open = e;
      pid = not-false (pid_allowed c.pid) (none_at h 0);
      counter = leb-false (2 ^ 4) c.counter (none_at h 1);
      version = leb-false (2 ^ 3) c.version (none_at h 2);
      widths = none_asked (width_checks c.kind c.setting) e (none_behind (announced_checks c.kind c.last) (none_drop h 3));
      rules = none_asked (rule_checks c.kind c.setting) e (none_before (open_rule_checks c) (mark_checks c) (none_drop g 1));
    }
