-- What a start answers, and which state it gives, over what a fresh state is by kind and PID.
use Rattle.std.specs.Prelude.{ℕ, cond, not, List, [], ◌∷◌, eqb, length}
use Rattle.setting.specs.declared.Kind.{Kind}
use Rattle.setting.specs.Refusal.{first_of, leaves}
use Rattle.setting.specs.Rules.{pid_allowed}
use Rattle.setting_bytes.specs.Kinds.{is_kind, kind_of}

-- by value: 2
abbrev pub value_refused : ℕ → ℕ
value_refused pid = first_of ((2, not (pid_allowed pid)) ∷ [])

-- the state by value: a refused start gives the fresh plain one of PID 0
abbrev pub value_state : (Kind → ℕ → List ℕ) → Kind → ℕ → List ℕ
value_state fresh kind pid = cond (pid_allowed pid) (fresh kind pid) (fresh Kind.Plain 0)

-- into lent bytes, which have to be as many as a state has: 1, 2, and 17 for a number that is no kind
abbrev pub lent_refused : ℕ → List ℕ → ℕ → ℕ → ℕ
lent_refused long state pid kind = first_of ((1, not (eqb (length state) long)) ∷ (2, not (pid_allowed pid)) ∷ (17, not (is_kind kind)) ∷ [])

-- what the lent bytes are then: a refused start leaves them as they were
abbrev pub lent_state : ℕ → (Kind → ℕ → List ℕ) → List ℕ → ℕ → ℕ → List ℕ
lent_state long fresh state pid kind = leaves (lent_refused long state pid kind) (fresh (kind_of kind) pid) state
