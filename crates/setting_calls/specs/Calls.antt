-- What the calls on settings answer and leave: the rules' own calls under the coding of settings and kinds.
use Rattle.std.specs.Prelude.{ℕ, cond, not, List, [], ◌∷◌, eqb, length}
use Rattle.setting.specs.declared.Kind.{Kind}
use Rattle.setting.specs.declared.Setting.{Setting}
use Rattle.setting.specs.Refusal.{Check, first_of, leaves}
use Rattle.setting.specs.Rules.{width_checks, rule_checks}
use Rattle.setting.specs.Setting.{blank}
use Rattle.setting_bytes.specs.Kinds.{is_kind, kind_of}
use Rattle.setting_bytes.specs.Settings.{setting_length, setting_bytes, setting_of}

-- 1 for a setting of another length, 17 for a number that is no kind
unfoldable pub call_refused : ℕ → ℕ → ℕ
call_refused setting kind = first_of ((1, not (eqb setting setting_length)) ∷ (17, not (is_kind kind)) ∷ [])

-- a blank setting needs no kind, so 0 stands for it in the check
unfoldable pub blank_refused : List ℕ → ℕ
blank_refused setting = call_refused (length setting) 0

unfoldable pub blank_memory : List ℕ → List ℕ
blank_memory setting = leaves (blank_refused setting) (setting_bytes blank) setting

-- the refusal of the call itself, or else of the first of these checks that the setting fails
unfoldable pub checks_refused : (Kind → Setting → List Check) → List ℕ → ℕ → ℕ
checks_refused checks setting kind =
    cond (eqb (call_refused (length setting) kind) 0) (first_of (checks (kind_of kind) (setting_of setting))) (call_refused (length setting) kind)

-- whether its fields fit
unfoldable pub widths_refused : List ℕ → ℕ → ℕ
widths_refused = checks_refused width_checks

-- whether it obeys the rules
unfoldable pub rules_refused : List ℕ → ℕ → ℕ
rules_refused = checks_refused rule_checks
