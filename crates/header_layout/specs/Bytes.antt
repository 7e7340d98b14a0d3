-- Parts of the header as whole bytes, as the code writes them.
use Rattle.std.specs.Prelude.{ℕ, ◌+◌, ◌*◌, ◌%◌, List, [], ◌∷◌}
use Rattle.setting.specs.declared.Setting.{Setting}

-- bytes 127 to 130 of an extended header: the two halves of byte 130 are number_of_frames and frame_position
abbrev pub bonding_bytes : Setting → List ℕ
bonding_bytes s =
    s.group_id ∷ s.number_of_carriers ∷ s.carrier_sequence ∷ (s.number_of_frames % 16 * 16 + s.frame_position.0 % 16) ∷ []

-- four values of 2 bits in a byte
abbrev pub quarters : ℕ → ℕ → ℕ → ℕ → ℕ
quarters a b c d = a % 4 * 64 + b % 4 * 16 + c % 4 * 4 + d % 4
