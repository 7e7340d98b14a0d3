-- Sixteen half bytes in one number of 64 bits, and which of them are equal to r.
use Rattle.std.specs.Prelude.{ℕ, cond, List, [], ◌∷◌, eqb}
use Rattle.bits.specs.Fields.{bits_of, cut}

-- the half bytes of a number of 64 bits, the highest first
unfoldable pub halves_of : ℕ → List ℕ
halves_of w = cut 4 16 (bits_of 64 w)

-- 8 for each half that is r, and 0 for any other
unfoldable pub marked : ℕ → List ℕ → List ℕ
marked r [] = []
marked r (n ∷ ns) = cond (eqb n r) 8 0 ∷ marked r ns
