-- The two generic answers, and the writing of a fresh state by whatever implements `Fresh`: at every type their contracts allow one outcome.
use Rattle.std.specs.Prelude.{ℕ}
use mir.Syntax.{Dict, w64}
use mir.Val.{Fits}
use denote.Param.{number, value_of}
use denote.Param.Laws.{Laws}
use denote.RattleType.{RattleType}
use Rattle.starting.specs.declared.Fresh.{Ghosts}
use Rattle.refusals.proofs.answer as refusals_answer
use Rattle.refusals.specs.contracts.answer as refusals_answer_contract
use Rattle.header_check.proofs.answer as header_check_answer
use Rattle.header_check.specs.contracts.answer as header_check_answer_contract
use Rattle.starting.proofs.Fresh.write as write
use Rattle.starting.specs.contracts.Fresh.write as write_contract
use Rattle.unique.specs.Outcomes.{OneOutcome}

-- what is answered beside a refusal: its type, and how it is let go
module _ (T : RattleType) (laws : Laws T) (drop : Dict) where
  pub record Answers : Type 0 where
    pub refusals_answer : OneOutcome (refusals_answer_contract.ended T drop) (refusals_answer.Reads.Learnt T laws drop)
    pub header_check_answer : OneOutcome (header_check_answer_contract.ended T drop) (header_check_answer.Reads.Learnt T laws drop)

-- what is started: the length of its state, its type, and what a fresh one is
module _ (n : ℕ) (F : RattleType) (fits : Fits w64 n) (laws : Laws F) (fresh : Ghosts F.Denot (value_of (number n))) (dict : Dict) where
  pub record Writes : Type 0 where
    pub starting_fresh_write : OneOutcome (write_contract.ended F (number n) fresh dict) (write.Reads.Learnt F n laws fits fresh dict)
