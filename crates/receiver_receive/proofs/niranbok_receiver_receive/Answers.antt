use mathlib.Core.Path.{◌∙◌}
use Rattle.receiver.specs.Bytes.{told}
use Rattle.receiver_receive.proofs.niranbok_receiver_receive.Goals as goal

pub returns-in-Err-clause-event_after : goal.returns-in-Err-clause-event_after
unfolding told
returns-in-Err-clause-event_after c = c.number-in-Err.ensures ∙ c.in-Err.ensures.event
