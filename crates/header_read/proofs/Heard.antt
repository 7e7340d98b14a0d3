-- What a check heard of an accepted packet is what the packet says. Assumes nothing.
use Prim.Native.Nat.{ℕ}
use mathlib.Core.Path.{◌≡◌, ap}
use mathlib.Core.List.{List, [], ◌∷◌}
use Rattle.setting.specs.declared.Kind.{Kind}
use Rattle.header_layout.specs.Header.{reading}
use Rattle.header_check.specs.OnPaper.{Checked}
use Rattle.header_check.specs.Checking.{bare, parts_of}

module _ (kind : Kind) (p : List ℕ) (h : Checked) (e : h ≡ parts_of (bare 0) (reading kind p)) where
  pub counter_heard : h.continuity_counter ≡ (reading kind p).continuity_counter
  unfolding parts_of
  counter_heard = ap (λ (x : Checked). x.continuity_counter) e

  pub streams-heard : h.availability ≡ (reading kind p).availability
  unfolding parts_of
  streams-heard = ap (λ (x : Checked). x.availability) e

  -- the bonding fields, a byte each
  pub bonding_heard : h.group_id ∷ h.number_of_carriers ∷ h.carrier_sequence ∷ h.number_of_frames ∷ h.frame_position.0 ∷ []
      ≡ (reading kind p).group_id ∷ (reading kind p).number_of_carriers ∷ (reading kind p).carrier_sequence ∷ (reading kind p).number_of_frames
      ∷ (reading kind p).frame_position.0 ∷ []
  unfolding parts_of
  bonding_heard =
      ap (λ (x : Checked). x.group_id ∷ x.number_of_carriers ∷ x.carrier_sequence ∷ x.number_of_frames ∷ x.frame_position.0 ∷ []) e
