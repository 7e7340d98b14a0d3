-- How many packets are placed: one for each slot, until slots or packets run out. Assumes nothing.
use Prim.Native.Nat.{ℕ, ◌-◌, ◌*◌, ◌/◌, ◌≤◌, min}
use mathlib.Core.Path.{◌≡◌, sym, ap, ◌∙◌}
use mathlib.Core.Bool.{Bool, true, false}
use mathlib.Core.List.{List, [], ◌∷◌}
use native.Mathlib.Omega.{arith}
use lib.Count.{ones}
use lib.ListN.{length, length-drop}
use Rattle.packet.specs.Packets.{packet_length, rest_of}
use Rattle.composer.specs.Slots.{empty_for, slots_in, filled_by, placed_by}
use Rattle.composer.proofs.Slots.{first_many, placed-within}
use Rattle.slot_bits.specs.Bits.{as_bits, slots_as_bits}
use Rattle.slot_bits.proofs.Bits.{ones_first, ones_none}

-- as many slots as bits
ones_marks : (bs : List Bool) → ones (as_bits bs) ≡ slots_in bs
unfolding slots_in
ones_marks [] = ones_none
ones_marks (true ∷ bs) = ones_first true bs ∙ omega (arith, ones_marks bs)
ones_marks (false ∷ bs) = ones_first false bs ∙ omega (arith, ones_marks bs)

ones_slots : (bs : List Bool) → ones (slots_as_bits bs) ≡ slots_in bs
unfolding slots_as_bits slots_in
ones_slots bs = ones_marks (false ∷ bs)

module _ (r : ℕ) (plan : List ℕ) (marks : List Bool) (stream : List ℕ) where
  pub placed_is : placed_by r plan marks stream ≡ min (length stream / packet_length) (ones (slots_as_bits (empty_for r plan marks)))
  unfolding placed_by filled_by
  placed_is =
      first_many (length stream / packet_length) (empty_for r plan marks)
      ∙ ap (min (length stream / packet_length)) (sym (ones_slots (empty_for r plan marks)))

  -- by how much shorter the rest is
  module _ {left : List ℕ} (e : left ≡ rest_of stream (placed_by r plan marks stream)) where
    long : length left ≡ length stream - packet_length * placed_by r plan marks stream
    unfolding rest_of
    long = ap length e ∙ length-drop (packet_length * placed_by r plan marks stream) stream

    pub left_within : length left ≤ length stream
    left_within = omega (arith, long)

    pub counted : (length stream - length left) / packet_length ≡ placed_by r plan marks stream
    counted = omega (arith, long, placed-within r plan marks stream)
