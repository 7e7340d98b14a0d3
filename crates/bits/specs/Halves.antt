-- Values of four bits, two to a byte.
use Rattle.std.specs.Prelude.{ℕ, ◌*◌, cond, List, eqb, length}
use Rattle.bits.specs.Fields.{run, cut}

-- a part after values were packed into it, four bits each; if there are not just two for each byte, it stays
unfoldable pub halves_into : List ℕ → List ℕ → List ℕ
halves_into part values = cond (eqb (length values) (2 * length part)) (cut 8 (length part) (run 4 values)) part
