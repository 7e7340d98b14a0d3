-- `clear` meets its contract: the slots before slot i are cleared. Assumes nothing.
use Prim.Native.Nat.{ℕ, ◌+◌, ◌-◌, ◌*◌}
use mathlib.Core.Path.{◌≡◌, refl, sym, ap, ◌∙◌}
use mathlib.Core.List.{List, ◌++◌}
use native.Mathlib.Omega.{arith}
use borrow.Author.Rules.{rules}
use borrow.Rule.Slice.PartMut.{mid_len}
use Rattle.slices.proofs.Toward.{toward_none, toward_kept, toward_part, toward_all}
use Rattle.packet.specs.Packets.{packet_length}
use Rattle.composer.specs.Slots.{nulls, cleared}
use Rattle.composer_begin.proofs.Nulls.{nulls-from, nulls_none}
use Rattle.composer_begin.proofs.slots.clear.Goals as goal

pub loop-i-init : goal.loop-i-init
unfolding cleared
loop-i-init c =
    let all : c.args.slots + 1 - 1 ≡ c.args.slots = omega arith in
    rw all (toward_kept (toward_none _ _) packet_length refl refl (omega arith))

pub loop-i-preserved : goal.loop-i-preserved
loop-i-preserved c =
    let loop = c.loop-i in
    let at = packet_length * loop.i in
    let slots = c.args.slots in
    let next = nulls-from slots loop.i (omega arith) ∙ ap (λ (l : List ℕ). l ++ nulls (slots + 1 - (loop.i + 1))) (sym c.write_null.ensures) in
    toward_part loop.invariant c.write_null.new.slot (at + packet_length - at) {j = packet_length * (loop.i + 1)} next (c.write_null.auto.slot ∙ mid_len at (at + packet_length) loop.frame (omega arith)) (omega arith)

pub returns : goal.returns
returns c = search (rules, toward_all, nulls_none)
