-- What each call answers, and what it leaves in the caller's bytes.
use Rattle.std.specs.Prelude.{ℕ, Bool, cond, not, ◌&&◌, List, [], ◌∷◌, eqb, length}
use Rattle.setting.specs.Refusal.{first_of, leaves}
use Rattle.setting.specs.Rules.{pid_allowed}
use Rattle.composer.specs.Composing.{fresh, begin_of, begun_frame, put_of, put_frame, close_of, closed_frame}
use Rattle.setting_bytes.specs.Kinds.{is_kind, kind_of}
use Rattle.setting_bytes.specs.Settings.{setting_length, setting_of}
use Rattle.composer.specs.States.{composer_length, composer_bytes, composer_of}

-- start: 1, 2, and 17 for a number that is no kind
unfoldable pub start_refused : List ℕ → ℕ → ℕ → ℕ
start_refused state pid kind =
    first_of ((1, not (eqb (length state) composer_length)) ∷ (2, not (pid_allowed pid)) ∷ (17, not (is_kind kind)) ∷ [])

unfoldable pub start_state : List ℕ → ℕ → ℕ → List ℕ
start_state state pid kind = leaves (start_refused state pid kind) (composer_bytes (fresh (kind_of kind) pid)) state

-- begin: 1 for a state or a setting of another length, else what `begin` answers and leaves
abbrev pub begin_lent : List ℕ → List ℕ → Bool
begin_lent state setting = eqb (length state) composer_length && eqb (length setting) setting_length

unfoldable pub begin_refused : List ℕ → List ℕ → List ℕ → ℕ
begin_refused state setting frame =
    cond (begin_lent state setting) (begin_of (composer_of state) (setting_of setting) (length frame)).refusal 1

unfoldable pub begin_state : List ℕ → List ℕ → List ℕ → List ℕ
begin_state state setting frame =
    leaves (begin_refused state setting frame) (composer_bytes (begin_of (composer_of state) (setting_of setting) (length frame)).state) state

unfoldable pub begin_memory : List ℕ → List ℕ → List ℕ → List ℕ
begin_memory state setting frame = cond (begin_lent state setting) (begun_frame (composer_of state) (setting_of setting) frame) frame

-- put: 1 for a state of another length, else what `put` answers and leaves
unfoldable pub put_refused : List ℕ → ℕ → List ℕ → List ℕ → ℕ
put_refused state r stream frame =
    cond (eqb (length state) composer_length) (put_of (composer_of state) r stream (length frame)).refusal 1

unfoldable pub put_placed : List ℕ → ℕ → List ℕ → List ℕ → ℕ
put_placed state r stream frame =
    cond (eqb (length state) composer_length) (put_of (composer_of state) r stream (length frame)).placed 0

unfoldable pub put_state : List ℕ → ℕ → List ℕ → List ℕ → List ℕ
put_state state r stream frame =
    leaves (put_refused state r stream frame) (composer_bytes (put_of (composer_of state) r stream (length frame)).state) state

unfoldable pub put_memory : List ℕ → ℕ → List ℕ → List ℕ → List ℕ
put_memory state r stream frame = cond (eqb (length state) composer_length) (put_frame (composer_of state) r stream frame) frame

-- close: 1 for a state of another length, else what `close` answers and leaves
unfoldable pub close_refused : List ℕ → List ℕ → ℕ
close_refused state frame = cond (eqb (length state) composer_length) (close_of (composer_of state) (length frame)).refusal 1

unfoldable pub close_state : List ℕ → List ℕ → List ℕ
close_state state frame = leaves (close_refused state frame) (composer_bytes (close_of (composer_of state) (length frame)).state) state

unfoldable pub close_memory : List ℕ → List ℕ → List ℕ
close_memory state frame = cond (eqb (length state) composer_length) (closed_frame (composer_of state) frame) frame
