-- The paper's numbers of what receiving a packet answers.
use Rattle.std.specs.Prelude.{Result, Ok, Err}
use Rattle.refusals.specs.declared.Refusal.{Refusal}
use Rattle.receiver.specs.declared.Event.{Event}
use Rattle.receiver.specs.Bytes.{Told, told}

-- the event's number and the remainder: 0 and 0 beside a refusal
abbrev pub told_in : Result Event Refusal → Told
told_in (Ok event) = told event
told_in (Err refusal) = record { event = 0; remainder = 0 }
