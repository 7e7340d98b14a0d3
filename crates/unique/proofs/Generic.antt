-- The generic answers, and the writing of a fresh state: which equation gives which part of the outcome, as in Functions.
use mathlib.Core.Path.{◌≡◌, refl}
use Rattle.std.specs.Prelude.{ℕ, Result, Ok, Err}
use mir.Syntax.{Dict, w64}
use mir.Val.{Fits}
use denote.Exit.{Exit, Last, rest, no}
use denote.Param.{param, number, value_of}
use denote.Param.Laws.{Laws}
use denote.RattleType.{RattleType}
use Rattle.std.specs.contracts.result.Result.{the_row as result_row}
use Rattle.refusals.specs.declared.Refusal.{Refusal}
use Rattle.refusals.specs.contracts.Refusal.{the_row as refusal_row}
use Rattle.header_check.specs.declared.Refused.{Refused}
use Rattle.header_check.specs.contracts.Refused.{the_row as refused_row}
use Rattle.starting.specs.declared.Fresh.{Ghosts}
use Rattle.unique.specs.Generic.{Answers, Writes}
use Rattle.unique.proofs.One.{one}

-- The result that is passed is used up, and no contract speaks of it at the exit: so nothing is bound of it there, whichever case it is.
module _ (T : RattleType) where
  abbrev used : (E : RattleType) → Exit (result_row (param 0 T) E).Denot
  used E = (result_row (param 0 T) E).exit no

  used_refusal : (r : Result T.Denot Refusal) (last : Last (used refusal_row) r) → last ≡ rest (used refusal_row) r
  used_refusal (Ok v) last = refl
  used_refusal (Err refusal) last = refl

  used_refused : (r : Result T.Denot Refused) (last : Last (used refused_row) r) → last ≡ rest (used refused_row) r
  used_refused (Ok v) last = refl
  used_refused (Err why) last = refl

pub answers : (T : RattleType) (laws : Laws T) (drop : Dict) → Answers T laws drop
answers T laws drop = record {
  refusals_answer = one (λ κs a x p i. (p i, (used_refusal T a.0 x.1.0 i, _)));
  header_check_answer = one (λ κs a x p i. (p.0 i, (used_refused T a.0 x.1.0 i, (p.1 i, _))));
}

pub writes : (n : ℕ) (F : RattleType) (fits : Fits w64 n) (laws : Laws F) (fresh : Ghosts F.Denot (value_of (number n))) (dict : Dict)
    → Writes n F fits laws fresh dict
writes n F fits laws fresh dict = record {
  starting_fresh_write = one (λ κs a x p i. (_, (p i, _)));
}
