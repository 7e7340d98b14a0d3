-- The rules that a setting meets if its content fills the header's rows.
use Rattle.std.specs.Prelude.{ℕ, ◌≡◌, true, ◌++◌}
use Rattle.setting.specs.declared.Kind.{Kind}
use Rattle.setting.specs.declared.Setting.{Setting}
use Rattle.setting.specs.Refusal.{NoneHolds}
use Rattle.setting.specs.Rules.{pid_allowed, width_checks, rule_checks}

-- the rules for a setting that is to be written with this PID as this kind
pub record MeetsRules (kind : Kind) (pid : ℕ) (s : Setting) : Type 0 where
  pub pid-allowed : pid_allowed pid ≡ true
  pub fields : NoneHolds (width_checks kind s ++ rule_checks kind s)
