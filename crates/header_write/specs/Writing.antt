-- What writing a header answers, and what it leaves.
use Rattle.std.specs.Prelude.{ℕ, cond, List, ◌++◌, eqb, length}
use Rattle.setting.specs.declared.Kind.{Kind}
use Rattle.setting.specs.declared.Setting.{Setting}
use Rattle.setting.specs.Refusal.{first_of}
use Rattle.setting.specs.Rules.{width_checks, rule_checks}
use Rattle.header_layout.specs.Header.{header, call_checks}

-- the refusal of a write into a buffer of so many bytes, or 0
unfoldable pub write_refusal : Kind → ℕ → Setting → ℕ → ℕ
write_refusal kind pid s lent = first_of (call_checks pid lent ++ (width_checks kind s ++ rule_checks kind s))

-- what a write leaves in the buffer
unfoldable pub written : Kind → ℕ → Setting → List ℕ → List ℕ
written kind pid s buffer = cond (eqb (write_refusal kind pid s (length buffer)) 0) (header kind pid s) buffer
