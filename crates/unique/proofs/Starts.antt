-- The two generic starts: which equation gives which part of the outcome, as in Functions.
use Rattle.std.specs.Prelude.{ℕ}
use mir.Syntax.{Dict, w64}
use mir.Val.{Fits}
use denote.Param.{number, value_of}
use denote.Param.Laws.{Laws}
use denote.RattleType.{RattleType}
use Rattle.starting.specs.declared.Fresh.{Ghosts}
use Rattle.unique.specs.Starts.{Starts}
use Rattle.unique.proofs.One.{one}
use Rattle.unique.proofs.Again.{fixed, checks}

pub starts : (n : ℕ) (F : RattleType) (fits : Fits w64 n) (laws : Laws F) (fresh : Ghosts F.Denot (value_of (number n))) (dict : Dict)
    → Starts n F fits laws fresh dict
starts n F fits laws fresh dict = record {
  starting_start = one (λ κs a x p i. (record { checked = fixed checks x.0.checked p.0 i; state = p.1 i }, _));
  starting_write_start = one (λ κs a x p i. (fixed checks x.0 p.0 i, (p.1 i, _)));
}
