-- Kinds of headers as numbers.
use Rattle.std.specs.Prelude.{ℕ, Bool, cond, ltb, eqb}
use Rattle.setting.specs.declared.Kind.{Kind}

-- how many kinds there are
abbrev pub kinds : ℕ
kinds = 3

-- 0 is plain, 1 is extended, 2 is short, and no other number is a kind
abbrev pub is_kind : ℕ → Bool
is_kind n = ltb n kinds

unfoldable pub kind_of : ℕ → Kind
kind_of n = cond (eqb n 1) Kind.Extended (cond (eqb n 2) Kind.Short Kind.Plain)

unfoldable pub kind_number : Kind → ℕ
kind_number Kind.Plain = 0
kind_number Kind.Extended = 1
kind_number Kind.Short = 2
