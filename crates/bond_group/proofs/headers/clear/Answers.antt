-- `clear` meets its contract: zeros over the front of each list. Assumes nothing.
use borrow.Author.Rules.{rules}
use Rattle.counters.specs.Counters.{last_carrier}
use Rattle.bond_places.specs.Walk.{most_frames}
use Rattle.bond_group.specs.Plan.{nothing_seen}
use Rattle.bond_group.proofs.Lent.{zeros_over}
use Rattle.bond_group.proofs.headers.clear.Goals as goal

pub returns : goal.returns
unfolding nothing_seen
returns c = record {
  frames_after = zeros_over c.args.frames.now last_carrier c.min-carriers.result (search rules) c.fill.new.self (search rules);
  slots_after = zeros_over c.args.slots.now most_frames c.min-places.result (search rules) c.fill-2.new.self (search rules);
}
