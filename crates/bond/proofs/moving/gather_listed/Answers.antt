-- `gather_listed` meets its contract: k packets were copied. Assumes nothing.
use Prim.Native.Nat.{◌+◌, ◌*◌, ◌≤◌}
use mathlib.Core.Path.{◌∙◌}
use native.Mathlib.Omega.{arith}
use borrow.Author.Rules.{rules}
use lib.ListN.{length, get_or}
use Rattle.packet.specs.Packets.{packet_length}
use Rattle.bond.proofs.Moves.{gather_none, one-within, gather_one}
use Rattle.bond.proofs.moving.gather_listed.Goals as goal
use Rattle.bond.proofs.moving.gather_listed.Goals.{In-loop-k}

-- the place lies in the group
there : (c : In-loop-k)
    → packet_length * get_or c.args.list.now c.loop-k.k 0 + packet_length ≤ length c.args.group.now
there c =
    one-within _ c.loop-k.k (omega arith) c.args.group.now c.requires.within

pub loop-k-init : goal.loop-k-init
loop-k-init c = let a = c.args in gather_none a.group.now a.out.now

pub move_packet-requires : goal.move_packet-requires
move_packet-requires c = (search rules, there (goal.at.move_packet-requires c).In-loop-k)

pub loop-k-preserved : goal.loop-k-preserved
loop-k-preserved c =
    c.move_packet.ensures ∙ gather_one c.args.list.now c.loop-k.k (omega arith) _ _ c.loop-k.invariant c.requires.within c.requires.list_in_bounds
