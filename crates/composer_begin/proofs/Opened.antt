-- A state's bytes with a frame opened in them, part by part. Assumes nothing.
use Prim.Native.Nat.{ℕ}
use mathlib.Core.Path.{◌≡◌, refl, ◌∙◌}
use mathlib.Core.List.{List, [], ◌∷◌, ◌++◌, append_assoc}
use native.Mathlib.Omega.{arith}
use lib.ListN.{length, set, take}
use Rattle.slices.proofs.Front.{Front, put, front_none, front_kept, front-part, front-more, front-all}
use Rattle.setting_bytes.specs.Settings.{setting_length}
use Rattle.composer.specs.States.{composer_length, filled_at, open_at, setting_at}
use Rattle.counters.specs.Counters.{last_slot}

in_order : (a s m : List ℕ) → a ++ (1 ∷ []) ++ s ++ m ≡ a ++ (1 ∷ (s ++ m))
in_order a s m = simp append_assoc refl

module _ (b s : List ℕ) (long : length b ≡ composer_length) (ls : length s ≡ setting_length) where
  -- up to the setting
  before-marks : Front b (take open_at b ++ (1 ∷ []) ++ s) (put setting_at setting_length (set b open_at 1) s) filled_at
  before-marks =
      let f₁ = front_kept b [] b 0 open_at (front_none b) (omega arith) in
      let f₂ = front-more b (take open_at b) b open_at 1 f₁ (omega arith) in
      front-part b (take open_at b ++ (1 ∷ [])) (set b open_at 1) s setting_at setting_length f₂ ls

  -- all of them
  module _ (m : List ℕ) (lm : length m ≡ last_slot) where
    all_parts : Front b (take open_at b ++ (1 ∷ []) ++ s ++ m) (put filled_at last_slot (put setting_at setting_length (set b open_at 1) s) m) composer_length
    all_parts = front-part b (take open_at b ++ (1 ∷ []) ++ s) (put setting_at setting_length (set b open_at 1) s) m filled_at last_slot before-marks lm

    pub opened_parts : put filled_at last_slot (put setting_at setting_length (set b open_at 1) s) m ≡ take open_at b ++ (1 ∷ (s ++ m))
    opened_parts = front-all b _ _ composer_length all_parts (omega arith) ∙ in_order (take open_at b) s m
