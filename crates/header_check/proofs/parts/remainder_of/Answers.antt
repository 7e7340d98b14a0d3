-- `remainder_of` meets its contract. Assumes nothing.
use mathlib.Core.Path.{ap, ◌∙◌}
use native.Mathlib.Omega.{arith}
use lib.ListN.{drop, length-drop}
use lib.Seq.{take_all}
use Rattle.crc.specs.Crc.{register_of}
use Rattle.header_check.proofs.parts.remainder_of.Goals as goal

-- the bytes from byte 4 on are 184
pub returns : goal.returns
returns c =
    let l = c.told-packet in
    c.register.ensures ∙ ap register_of (take_all 184 (drop 4 c.args.packet.now) (rw length-drop (omega arith)))
