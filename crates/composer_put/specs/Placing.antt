-- The paper's numbers and values of what a put answers.
use Rattle.std.specs.Prelude.{ℕ, List, Result, Ok, Err}
use Rattle.refusals.specs.declared.Refusal.{Refusal}
use Rattle.composer_put.specs.declared.Placed.{Placed}

-- the number placed: 0 beside a refusal
abbrev pub placed_in : Result Placed Refusal → ℕ
placed_in (Ok placed) = placed.packets
placed_in (Err refusal) = 0

-- the rest of a stream: beside a refusal the whole stream
abbrev pub rest_in : List ℕ → Result Placed Refusal → List ℕ
rest_in stream (Ok placed) = placed.rest.now
rest_in stream (Err refusal) = stream
