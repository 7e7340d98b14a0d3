-- The paper's numbers of what a hand out answers.
use Rattle.std.specs.Prelude.{ℕ, Result, Ok, Err}
use Rattle.refusals.specs.declared.Refusal.{Refusal}
use Rattle.refusals.specs.Refusals.{number}
use Rattle.receiver.specs.Receiving.{HandedOut}

-- refusal 0 and how many packets, or the refusal's number and 0
abbrev pub handed : Result ℕ Refusal → HandedOut
handed (Ok packets) = record { refusal = 0; packets = packets }
handed (Err refusal) = record { refusal = number refusal; packets = 0 }
