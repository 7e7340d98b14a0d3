-- The parts of a state's bytes. Assumes nothing.
use Rattle.composer.specs.Composing.{Composer}
use Prim.Native.Nat.{ℕ}
use mathlib.Core.Path.{◌≡◌, refl}
use mathlib.Core.List.{List, [], ◌∷◌, ◌++◌}
use lib.ListN.{length}
use Rattle.counters.specs.Counters.{last_slot}
use Rattle.setting_bytes.specs.Words.{word_bytes}
use Rattle.setting_bytes.specs.Kinds.{kind_number}
use Rattle.setting_bytes.proofs.Parts.{Streams, Long}
use Rattle.composer.specs.States.{last_at}

-- PID, kind, counter and version: the first five bytes
abbrev pub front_bytes : Composer → List ℕ
front_bytes c = word_bytes (c.pid ∷ []) ++ (kind_number c.kind ∷ c.counter ∷ c.version ∷ [])

pub length_front : (c : Composer) → length (front_bytes c) ≡ last_at
unfolding word_bytes
length_front c = refl

-- how long a state's lists are, which the types say
pub record Long-state (c : Composer) : Type 0 where
  pub streams : Streams c.last
  pub setting : Long c.setting
  pub marks : length c.filled ≡ last_slot
