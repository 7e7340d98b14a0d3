-- `marks_at` meets its contract. Assumes nothing.
use mathlib.Core.Path.{ap, ◌∙◌}
use native.Mathlib.Omega.{arith}
use borrow.Author.Rules.{rules}
use Rattle.bits.specs.Fields.{cut}
use Rattle.bits.proofs.Laws.{bits_of-part}
use Rattle.receiver.proofs.Packing.{unpacked-part}
use Rattle.receiver_hand_out.specs.Halves.{halves_of, marked}
use Rattle.receiver_hand_out.proofs.numbered.marks_at.Goals as goal

pub returns : goal.returns
unfolding halves_of
returns c =
    let at = c.args.at in
    let bs = c.args.numbers.now in
    c.mark.ensures
    ∙ ap (marked c.args.r.0)
    (ap (cut 4 16) (bits_of-part 8 (omega arith) bs at (omega arith) c.long.ensures) ∙ unpacked-part at 8 bs c.requires.0 (search rules))
