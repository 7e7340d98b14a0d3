-- `frame_bytes` meets its contract. Assumes nothing.
use Rattle.std.proofs.Common.{arith}
use Rattle.setting.proofs.Sizes.{sized}
use Rattle.tools.proofs.sizes.frame_bytes.Goals as goal

pub returns : goal.returns
returns c =
    rw c.frame_bytes.ensures (let few = (sized c.args.kind).slots in (omega arith, omega arith))
