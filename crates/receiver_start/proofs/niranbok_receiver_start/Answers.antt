-- `niranbok_receiver_start` meets its contract. Assumes nothing.
use mathlib.Core.Path.{◌∙◌}
use Rattle.receiver.specs.Calls.{start_refused, start_state}
use Rattle.receiver_start.proofs.niranbok_receiver_start.Goals as goal

pub returns : goal.returns
unfolding start_refused start_state
returns c = record {
  value = c.answer.ensures ∙ c.write_start.ensures.value;
  state_after = c.write_start.ensures.state_after;
}
