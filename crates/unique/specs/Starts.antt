-- The two generic starts: whatever is started, their contracts allow one outcome.
use Rattle.std.specs.Prelude.{ℕ}
use mir.Syntax.{Dict, w64}
use mir.Val.{Fits}
use denote.Param.{number, value_of}
use denote.Param.Laws.{Laws}
use denote.RattleType.{RattleType}
use Rattle.starting.specs.declared.Fresh.{Ghosts}
use Rattle.starting.proofs.start as start
use Rattle.starting.proofs.write_start as write_start
use Rattle.starting.specs.contracts.start as start_contract
use Rattle.starting.specs.contracts.write_start as write_start_contract
use Rattle.unique.specs.Outcomes.{OneOutcome}

-- what is started: the length of its state, its type, and what a fresh one is
module _ (n : ℕ) (F : RattleType) (fits : Fits w64 n) (laws : Laws F) (fresh : Ghosts F.Denot (value_of (number n))) (dict : Dict) where
  pub record Starts : Type 0 where
    pub starting_start : OneOutcome (start_contract.ended (number n) F fresh dict) (start.Reads.Learnt n F fits laws fresh dict)
    pub starting_write_start : OneOutcome (write_start_contract.ended (number n) F fresh dict) (write_start.Reads.Learnt n F fits laws fresh dict)
