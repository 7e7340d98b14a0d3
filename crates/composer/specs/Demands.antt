-- What is promised of the calls on bytes, as statements. The proofs stand apart.
use Rattle.std.specs.Prelude.{ℕ, ◌%◌, ◌≡◌, true, false, List, length}
use Rattle.setting.specs.Rules.{pid_allowed}
use Rattle.setting.specs.Size.{slots_of}
use Rattle.packet.specs.Packets.{packet_length, frame_length}
use Rattle.setting_bytes.specs.Words.{word_at}
use Rattle.setting.specs.declared.Setting.{Setting}
use Rattle.setting.specs.Setting.{OfItsTypes as SettingOfItsTypes}
use Rattle.setting_bytes.specs.Settings.{setting_length, setting_bytes}
use Rattle.composer.specs.Composing.{Composer, begin_of, begun_frame, put_of, put_frame, close_of, closed_frame}
use Rattle.composer.specs.States.{composer_length, composer_bytes, composer_of, is_coded, OfItsTypes}
use Rattle.composer.specs.Calls.{begin_refused, begin_state, begin_memory, put_refused, put_placed, put_state, put_memory, close_refused, close_state, close_memory}

-- 'Decoding what was encoded gives the value back.'
abbrev pub StateBack : Type 0
StateBack = (c : Composer) → OfItsTypes c → composer_of (composer_bytes c) ≡ c

-- bytes that are as long as a state and have an allowed PID, but code no state
pub record Uncoded (state : List ℕ) : Type 0 where
  pub long : length state ≡ composer_length
  pub pid-allowed : pid_allowed (word_at 0 state) ≡ true
  pub no_state : is_coded state ≡ false

-- Bytes that code no state are refused with 17 by each call, if its other buffers have the right lengths.
abbrev pub UncodedRefused : Type 0
UncodedRefused =
    (state frame : List ℕ) → Uncoded state → length frame ≡ frame_length (slots_of (composer_of state).kind)
    → ((setting : List ℕ) → length setting ≡ setting_length → begin_refused state setting frame ≡ 17)
    × ((r : ℕ) (stream : List ℕ) → length stream % packet_length ≡ 0 → put_refused state r stream frame ≡ 17)
    × (close_refused state frame ≡ 17)

-- On the bytes of a state and of a setting, each call answers and leaves what the definition over the state says. So what is promised of
-- runs of calls in terms of states also holds of bytes.
pub record OnBytes (c : Composer) : Type 0 where
  pub begins : (s : Setting) → SettingOfItsTypes s → (frame : List ℕ)
      → (begin_refused (composer_bytes c) (setting_bytes s) frame ≡ (begin_of c s (length frame)).refusal)
      × ((begin_state (composer_bytes c) (setting_bytes s) frame ≡ composer_bytes (begin_of c s (length frame)).state)
      × (begin_memory (composer_bytes c) (setting_bytes s) frame ≡ begun_frame c s frame))
  pub puts : (r : ℕ) (stream frame : List ℕ)
      → (put_refused (composer_bytes c) r stream frame ≡ (put_of c r stream (length frame)).refusal)
      × ((put_placed (composer_bytes c) r stream frame ≡ (put_of c r stream (length frame)).placed)
      × ((put_state (composer_bytes c) r stream frame ≡ composer_bytes (put_of c r stream (length frame)).state)
      × (put_memory (composer_bytes c) r stream frame ≡ put_frame c r stream frame)))
  pub closes : (frame : List ℕ)
      → (close_refused (composer_bytes c) frame ≡ (close_of c (length frame)).refusal)
      × ((close_state (composer_bytes c) frame ≡ composer_bytes (close_of c (length frame)).state)
      × (close_memory (composer_bytes c) frame ≡ closed_frame c frame))

-- And the new state again has its types, so that the next call reads it back from the bytes.
pub record TypesKept (c : Composer) : Type 0 where
  pub begun : (s : Setting) → SettingOfItsTypes s → (lent : ℕ) → OfItsTypes (begin_of c s lent).state
  pub filled : (r : ℕ) (stream : List ℕ) (lent : ℕ) → OfItsTypes (put_of c r stream lent).state
  pub closed : (lent : ℕ) → OfItsTypes (close_of c lent).state

abbrev pub CallsOnBytes : Type 0
CallsOnBytes = (c : Composer) → OfItsTypes c → OnBytes c × TypesKept c
