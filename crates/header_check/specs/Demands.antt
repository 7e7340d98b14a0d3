-- What K6 says of a refusal and its remainder, as a statement. Where it is proved of a call stands with the call.
use Rattle.std.specs.Prelude.{◌≡◌}
use Rattle.header_check.specs.OnPaper.{Refusal}

-- 'for refusal 7 the remainder is not zero', and 'beside any other refusal and beside 0 it is 0'
pub record OnlyBesideSeven (r : Refusal) : Type 0 where
  pub seven : r.number ≡ 7 → r.remainder ≡ 0 → ⊥
  pub other : (r.number ≡ 7 → ⊥) → r.remainder ≡ 0
