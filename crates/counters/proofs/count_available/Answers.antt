use Rattle.counters.proofs.Streams.{counted_all}
use Rattle.counters.proofs.count_available.Goals as goal

pub returns : goal.returns
returns c = counted_all c.args.availability
