use Prim.Native.Nat.{◌*◌}
use mathlib.Core.Path.{◌∙◌}
use lib.ListN.{length}
use Rattle.packet.specs.Packets.{packet_length, rest_of}
use Rattle.packet.proofs.Left.{to_end, over}
use Rattle.packet.proofs.rest.Goals as goal

pub returns-then-end-placed : goal.returns-then-end-placed
returns-then-end-placed c =
    let stream = c.args.stream.now in
    to_end (length stream) stream ∙ over c.args.placed stream c.if-end-placed.true

pub returns : goal.returns
unfolding rest_of
returns c = to_end (packet_length * c.args.placed) c.args.stream.now
