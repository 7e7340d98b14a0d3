-- What demand 2 and K6 say of headers, over the calls of the C header. The proofs stand apart.
use Rattle.std.specs.Prelude.{ℕ, ◌≡◌, true, List, length}
use Rattle.bits.specs.Fields.{Fit}
use Rattle.header_layout.specs.Header.{header_length}
use Rattle.header_layout.specs.Meets.{MeetsRules}
use Rattle.header_check.specs.Demands.{OnlyBesideSeven}
use Rattle.setting_bytes.specs.Kinds.{is_kind, kind_of}
use Rattle.setting_bytes.specs.Settings.{setting_length, setting_of}
use Rattle.header_calls.specs.Calls.{write_refused, write_memory, read_refused, read_remainder, read_memory}

-- 298 bytes that say a setting which meets the rules
pub record Meets (pid kind : ℕ) (setting : List ℕ) : Type 0 where
  pub known_kind : is_kind kind ≡ true
  pub bytes : Fit 8 setting
  pub long : length setting ≡ setting_length
  pub rules : MeetsRules (kind_of kind) pid (setting_of setting)

-- 'Every setting that meets the rules is written, and read back equal': what `niranbok_header_write` leaves in 188 bytes,
-- `niranbok_header_read` reads into 298 bytes, and they are those that were written
abbrev pub BytesBack : Type 0
BytesBack =
    (pid kind : ℕ) (setting packet buffer : List ℕ) → Meets pid kind setting → length packet ≡ header_length → length buffer ≡ setting_length
    → (write_refused packet pid kind setting ≡ 0)
    × ((read_refused (write_memory packet pid kind setting) pid kind buffer ≡ 0)
    × (read_memory (write_memory packet pid kind setting) pid kind buffer ≡ setting))

-- 'The bytes of an accepted header are those that writing it again gives': what `niranbok_header_read` leaves in 298 bytes,
-- `niranbok_header_write` does not refuse, and it leaves the 188 bytes that were read
abbrev pub BytesAgain : Type 0
BytesAgain =
    (pid kind : ℕ) (packet setting buffer : List ℕ) → Fit 8 packet → read_refused packet pid kind setting ≡ 0 → length buffer ≡ header_length
    → (write_refused buffer pid kind (read_memory packet pid kind setting) ≡ 0)
    × (write_memory buffer pid kind (read_memory packet pid kind setting) ≡ packet)

-- 'For refusal 7 the remainder is not zero': whatever `niranbok_header_read` is lent. Beside any other answer it is 0
abbrev pub RemainderShown : Type 0
RemainderShown =
    (packet setting : List ℕ) (pid kind : ℕ)
    → OnlyBesideSeven (record { number = read_refused packet pid kind setting; remainder = read_remainder packet pid kind setting })
