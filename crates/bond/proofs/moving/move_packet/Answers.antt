-- `move_packet` meets its contract. Assumes nothing.
use Prim.Native.Nat.{◌+◌, ◌-◌}
use mathlib.Core.Path.{◌≡◌, sym, ◌∙◌}
use native.Mathlib.Omega.{arith}
use lib.ListN.{drop, length-drop}
use lib.Seq.{length-take-le}
use Rattle.slices.proofs.Front.{put-over}
use Rattle.packet.specs.Packets.{packet_length}
use Rattle.bond.proofs.Moves.{copied-part}
use Rattle.bond.proofs.moving.move_packet.Goals as goal

pub returns : goal.returns
returns c =
    let a = c.args in
    let here : a.at + packet_length - a.at ≡ packet_length = omega arith in
    put-over a.at (a.at + packet_length - a.at) a.to.now
    (c.copy.ensures ∙ copied-part a.at a.place packet_length a.to.now a.from.now c.requires.0 c.requires.1)
    (length-take-le packet_length (drop a.place a.from.now) (rw length-drop (omega arith)) ∙ sym here)
