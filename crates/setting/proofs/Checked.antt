-- Where a setting's checks answer 0, none of them holds. Assumes nothing.
use mathlib.Core.Path.{◌≡◌, refl}
use Rattle.setting.specs.declared.Kind.{Kind}
use Rattle.setting.specs.declared.Setting.{Setting}
use Rattle.setting.specs.Refusal.{first_of, NoneHolds}
use Rattle.setting.proofs.Refusals.{none_first}
use Rattle.setting.specs.Rules.{absent_checks, width_checks, bonding_checks, rule_checks}

pub width_none : (kind : Kind) (s : Setting) → first_of (width_checks kind s) ≡ 0 → NoneHolds (width_checks kind s)
unfolding width_checks absent_checks
width_none Kind.Plain s e = none_first (width_checks Kind.Plain s) refl e
width_none Kind.Extended s e = none_first (width_checks Kind.Extended s) refl e
width_none Kind.Short s e = none_first (width_checks Kind.Short s) refl e

pub rule_none : (kind : Kind) (s : Setting) → first_of (rule_checks kind s) ≡ 0 → NoneHolds (rule_checks kind s)
unfolding rule_checks bonding_checks
rule_none Kind.Plain s e = none_first (rule_checks Kind.Plain s) refl e
rule_none Kind.Extended s e = none_first (rule_checks Kind.Extended s) refl e
rule_none Kind.Short s e = none_first (rule_checks Kind.Short s) refl e
