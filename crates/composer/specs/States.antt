-- A composer's state as 436 bytes, and the state that bytes code.
use Rattle.std.specs.Prelude.{ℕ, ◌+◌, ◌-◌, ◌≡◌, Bool, cond, not, ◌&&◌, List, [], ◌∷◌, ◌++◌, map, eqb, ltb, length, get_or}
use Rattle.slices.specs.Slices.{some_at_least}
use Rattle.counters.specs.Counters.{last_slot, last_stream}
use Rattle.setting.specs.Setting.{Array, OfItsTypes as SettingOfItsTypes}
use Rattle.setting_bytes.specs.Words.{word_bytes, word_at}
use Rattle.setting_bytes.specs.Kinds.{is_kind, kind_of, kind_number}
use Rattle.setting_bytes.specs.Settings.{part, announced_at, announced_length, availability_at, numbers_at, setting_length, announced_bytes, announced_of, setting_bytes, setting_of}
use Rattle.composer.specs.Composing.{Composer}

-- ---- the places, each behind the one before it

-- the PID, in two bytes, and the kind
abbrev pub pid_at : ℕ
pid_at = 0

abbrev pub kind_at : ℕ
kind_at = pid_at + 2

-- counter and version of the last closed header, and what it announced
abbrev pub counter_at : ℕ
counter_at = kind_at + 1

abbrev pub version_at : ℕ
version_at = counter_at + 1

abbrev pub last_at : ℕ
last_at = version_at + 1

-- whether a frame is open, its setting, and a byte for each slot that says whether it is filled
abbrev pub open_at : ℕ
open_at = last_at + announced_length

abbrev pub setting_at : ℕ
setting_at = open_at + 1

abbrev pub filled_at : ℕ
filled_at = setting_at + setting_length

-- how many bytes a state has
abbrev pub composer_length : ℕ
composer_length = filled_at + last_slot

-- how many of them are about the open frame
abbrev pub open_length : ℕ
open_length = composer_length - open_at

-- where, in the open frame's setting, stand what it announces, its availability and its plan
abbrev pub said_at : ℕ
said_at = setting_at + announced_at

abbrev pub streams_at : ℕ
streams_at = said_at + availability_at

abbrev pub plan_at : ℕ
plan_at = setting_at + numbers_at

-- ---- the state

-- what the code's types guarantee of a state's lists and its setting
pub record OfItsTypes (c : Composer) : Type 0 where
  pub ts_ids : Array last_stream 16 c.last.ts_id
  pub network_id : Array last_stream 16 c.last.original_network_id
  pub statuses : Array last_stream 8 c.last.receive_status
  pub setting : SettingOfItsTypes c.setting
  pub marks : length c.filled ≡ last_slot

-- marks as bytes: 1 is a mark
unfoldable pub mark_byte : Bool → ℕ
mark_byte b = cond b 1 0

-- PID, kind, counter and version of the last closed header, what it announced, whether a frame is open, its setting, its filled slots
unfoldable pub composer_bytes : Composer → List ℕ
composer_bytes c =
    (word_bytes (c.pid ∷ []) ++ (kind_number c.kind ∷ c.counter ∷ c.version ∷ []))
    ++ (announced_bytes c.last
    ++ ((mark_byte c.is_open ∷ [])
    ++ (setting_bytes c.setting
    ++ map mark_byte c.filled)))

-- the marks that bytes stand for
abbrev pub marks_of : List ℕ → List Bool
marks_of bytes = map (λ (n : ℕ). eqb n 1) bytes

-- whether bytes code a state, whatever its numbers: the kind's byte is a kind, and every mark is 0 or 1
unfoldable pub is_coded : List ℕ → Bool
is_coded b = is_kind (get_or b kind_at 0) && (ltb (get_or b open_at 0) 2 && not (some_at_least 2 (part filled_at last_slot b)))

-- bytes that code no state are read with a counter that no header has, so that every call refuses them with 17
abbrev pub no_counter : ℕ
no_counter = 255

unfoldable pub composer_of : List ℕ → Composer
composer_of b =
    record {
      pid = word_at pid_at b;
      kind = kind_of (get_or b kind_at 0);
      counter = cond (is_coded b) (get_or b counter_at 0) no_counter;
      version = get_or b version_at 0;
      last = announced_of (part last_at announced_length b);
      is_open = eqb (get_or b open_at 0) 1;
      setting = setting_of (part setting_at setting_length b);
      filled = marks_of (part filled_at last_slot b);
    }
