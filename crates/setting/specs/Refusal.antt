-- Refusals by number, in the table's order.
use Rattle.std.specs.Prelude.{ℕ, ◌≡◌, Bool, false, cond, List, [], ◌∷◌, eqb}

-- a row of the refusal table: its number, and whether its condition holds
abbrev pub Check : Type 0
Check = ℕ × Bool

-- the number of the first row whose condition holds, or 0 where none does
unfoldable pub first_of : List Check → ℕ
first_of [] = 0
first_of (c ∷ cs) = cond c.1 c.0 (first_of cs)

-- no condition of the checks holds
pub data NoneHolds : List Check → Type 0 where
  none : NoneHolds []
  more : {n : ℕ} {b : Bool} {cs : List Check} → b ≡ false → NoneHolds cs → NoneHolds ((n, b) ∷ cs)

-- what is answered of bytes that have to be of a fixed length: 1 for another length, else the refusal
unfoldable pub of_length : ℕ → ℕ → ℕ → ℕ
of_length fixed lent refusal = cond (eqb lent fixed) refusal 1

-- what a call leaves of lent memory: something new where it is not refused, else what was there
unfoldable pub leaves : ℕ → List ℕ → List ℕ → List ℕ
leaves refusal new old = cond (eqb refusal 0) new old
