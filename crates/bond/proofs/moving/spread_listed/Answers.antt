-- `spread_listed` meets its contract: k packets of the stream were written. Assumes nothing.
use Prim.Native.Nat.{◌+◌, ◌*◌, ◌≤◌}
use mathlib.Core.Path.{refl, ◌∙◌}
use native.Mathlib.Omega.{arith}
use borrow.Author.Rules.{rules}
use lib.ListN.{length, get_or}
use Rattle.packet.specs.Packets.{packet_length}
use Rattle.bond.specs.Bonding.{spread_over}
use Rattle.bond.proofs.Moves.{one-within, spread-one}
use Rattle.bond.proofs.moving.spread_listed.Goals as goal
use Rattle.bond.proofs.moving.spread_listed.Goals.{In-loop-k}

-- the place lies in the group
there : (c : In-loop-k)
    → packet_length * get_or c.args.list.now c.loop-k.k 0 + packet_length ≤ length c.loop-k.group
there c =
    rw c.loop-k.auto.group (one-within _ c.loop-k.k (omega arith) c.args.group.now c.requires.within)

pub loop-k-init : goal.loop-k-init
unfolding spread_over
loop-k-init c = refl

pub move_packet-requires : goal.move_packet-requires
move_packet-requires c = (there (goal.at.move_packet-requires c).In-loop-k, search rules)

pub loop-k-preserved : goal.loop-k-preserved
loop-k-preserved c =
    c.move_packet.ensures ∙ spread-one c.args.list.now c.loop-k.k (omega arith) _ _ c.loop-k.invariant
