-- A layout as rows of fields, highest bit first: packed into bits, and cut from bits again.
use Rattle.std.specs.Prelude.{ℕ, zero, suc, ◌+◌, ◌*◌, List, [], ◌∷◌, ◌++◌, drop, get_or}
use Rattle.bits.specs.Fields.{run, cut}

-- a row: how many bits each of its values has, and how many values it has
abbrev pub Row : Type 0
Row = ℕ × ℕ

-- the values of each row, packed one row behind the other
unfoldable pub pack : List Row → List (List ℕ) → List ℕ
pack [] vss = []
pack (r ∷ rs) [] = []
pack (r ∷ rs) (vs ∷ vss) = run r.0 vs ++ pack rs vss

-- the bit at which row k starts
unfoldable pub place : List Row → ℕ → ℕ
place [] k = 0
place (r ∷ rs) zero = 0
place (r ∷ rs) (suc k) = r.1 * r.0 + place rs k

-- the values of row k, cut from bits
unfoldable pub row_at : List Row → ℕ → List ℕ → List ℕ
row_at rs k bs = cut (get_or rs k (0, 0)).0 (get_or rs k (0, 0)).1 (drop (place rs k) bs)
