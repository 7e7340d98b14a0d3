-- `crc::long_on` meets its contract: its halves go on as one. Assumes nothing.
use native.Mathlib.Omega.{arith}
use Rattle.crc.proofs.Reduced.{halves_ahead}
use Rattle.crc.proofs.long_on.Goals as goal

pub returns : goal.returns
returns c = halves_ahead c.args.n c.args.x (omega arith) c.low_on.ensures c.low_on-2.ensures
