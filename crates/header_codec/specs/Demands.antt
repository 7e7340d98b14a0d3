-- What demand 2 says of headers, as statements over what the calls answer and leave. The proofs stand apart.
use Rattle.std.specs.Prelude.{ℕ, ◌≡◌, List, length}
use Rattle.bits.specs.Fields.{Fit}
use Rattle.setting.specs.declared.Kind.{Kind}
use Rattle.setting.specs.declared.Setting.{Setting}
use Rattle.setting.specs.Setting.{OfItsTypes}
use Rattle.header_layout.specs.Header.{header_length}
use Rattle.header_layout.specs.Meets.{MeetsRules}
use Rattle.header_check.specs.Checking.{bare}
use Rattle.header_write.specs.Writing.{write_refusal, written}
use Rattle.header_read.specs.Reader.{read_of}

-- 'Every setting that meets the rules is written, and read back equal.'
abbrev pub WrittenAndReadBack : Type 0
WrittenAndReadBack =
    (kind : Kind) (pid : ℕ) (s : Setting) (buffer : List ℕ)
    → OfItsTypes s → MeetsRules kind pid s → length buffer ≡ header_length
    → (write_refusal kind pid s (length buffer) ≡ 0)
    × (read_of kind pid (written kind pid s buffer) ≡ record { refusal = bare 0; setting = s })

-- 'The bytes of an accepted header are those that writing it again gives': what a read answers is not refused by a write with the same kind
-- and PID, and the write leaves the 188 bytes that were read
abbrev pub WrittenAgain : Type 0
WrittenAgain =
    (kind : Kind) (pid : ℕ) (p buffer : List ℕ)
    → Fit 8 p → (read_of kind pid p).refusal.number ≡ 0 → length buffer ≡ header_length
    → (write_refusal kind pid (read_of kind pid p).setting (length buffer) ≡ 0)
    × (written kind pid (read_of kind pid p).setting buffer ≡ p)
