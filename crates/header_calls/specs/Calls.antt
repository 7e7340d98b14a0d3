-- What each call answers, and what it leaves in the caller's bytes.
use Rattle.std.specs.Prelude.{ℕ, cond, not, List, [], ◌∷◌, eqb, length}
use Rattle.setting.specs.Refusal.{first_of, leaves}
use Rattle.setting.specs.Rules.{pid_allowed}
use Rattle.header_layout.specs.Header.{header_length}
use Rattle.header_check.specs.Checking.{read_refusal, refusal_by}
use Rattle.header_write.specs.Writing.{write_refusal, written}
use Rattle.header_read.specs.Reader.{read_of}
use Rattle.setting_bytes.specs.Kinds.{is_kind, kind_of}
use Rattle.setting_bytes.specs.Settings.{setting_length, setting_bytes, setting_of}

-- the checks of both calls: 1 for the lengths of the buffers, 2 for the PID, and 17 for a number that is no kind
unfoldable pub call_refused : ℕ → ℕ → ℕ → ℕ → ℕ
call_refused packet setting pid kind =
    first_of ((1, not (eqb packet header_length))
    ∷ (1, not (eqb setting setting_length))
    ∷ (2, not (pid_allowed pid))
    ∷ (17, not (is_kind kind))
    ∷ [])

-- the call's own refusal, or else what the writer or the reader answers
unfoldable pub then_refused : ℕ → ℕ → ℕ
then_refused call inner = cond (eqb call 0) inner call

unfoldable pub write_refused : List ℕ → ℕ → ℕ → List ℕ → ℕ
write_refused packet pid kind setting =
    then_refused (call_refused (length packet) (length setting) pid kind) (write_refusal (kind_of kind) pid (setting_of setting) (length packet))

unfoldable pub write_memory : List ℕ → ℕ → ℕ → List ℕ → List ℕ
write_memory packet pid kind setting =
    leaves (call_refused (length packet) (length setting) pid kind) (written (kind_of kind) pid (setting_of setting) packet) packet

unfoldable pub read_refused : List ℕ → ℕ → ℕ → List ℕ → ℕ
read_refused packet pid kind setting =
    then_refused (call_refused (length packet) (length setting) pid kind) (read_refusal (kind_of kind) pid packet)

-- beside 7 the packet's remainder, beside any other number and beside 0 it is 0
unfoldable pub read_remainder : List ℕ → ℕ → ℕ → List ℕ → ℕ
read_remainder packet pid kind setting = (refusal_by (read_refused packet pid kind setting) packet).remainder

unfoldable pub read_memory : List ℕ → ℕ → ℕ → List ℕ → List ℕ
read_memory packet pid kind setting =
    leaves (read_refused packet pid kind setting) (setting_bytes (read_of (kind_of kind) pid packet).setting) setting
