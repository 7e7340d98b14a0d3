-- `write_null` meets its contract: three stores into a slot of FF. Assumes nothing.
use Prim.Native.Nat.{ℕ}
use mathlib.Core.Path.{◌≡◌, ap, ◌∙◌}
use mathlib.Core.List.{List}
use borrow.Author.Rules.{rules}
use lib.ListN.{replicate, set}
use Rattle.packet.specs.Packets.{packet_length, null_packet}
use Rattle.composer_begin.proofs.slots.write_null.Goals as goal

-- what the stores leave
abbrev stored : List ℕ → List ℕ
stored l = set (set (set l 0 0x47) 1 0x1F) 3 0x10

null_stored : (l : List ℕ) (n : ℕ) → l ≡ replicate n 0xFF → n ≡ packet_length → stored l ≡ null_packet
unfolding null_packet
null_stored l n e h = ap stored (e ∙ ap (λ (k : ℕ). replicate k 0xFF) h)

pub returns : goal.returns
returns c = search (rules, null_stored)
