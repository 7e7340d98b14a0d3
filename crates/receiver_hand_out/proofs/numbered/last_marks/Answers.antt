-- `last_marks` meets its contract. Assumes nothing.
use Prim.Native.Nat.{ℕ}
use mathlib.Core.Path.{sym, ap, ◌∙◌}
use mathlib.Core.List.{List, ◌++◌}
use native.Mathlib.Omega.{arith}
use borrow.Author.Rules.{rules}
use lib.ListN.{drop, replicate}
use Rattle.bits.specs.Fields.{cut}
use Rattle.bits.proofs.Laws.{bits_of-part}
use Rattle.receiver.proofs.Packing.{unpacked-part}
use Rattle.receiver_hand_out.specs.Halves.{marked}
use Rattle.receiver_hand_out.proofs.Joined.{only_low, low_halves}
use Rattle.receiver_hand_out.proofs.Marks.{marked-drop, are_marked_last}
use Rattle.receiver_hand_out.proofs.numbered.last_marks.Goals as goal

pub invariant_of-result : goal.invariant_of-result
invariant_of-result c = record { are_marks = are_marked_last _ _ _ (only_low c.mark-sixteen.result.word ∙ ap (λ (l : List ℕ). replicate 12 0 ++ l) (ap (drop 12) c.mark-sixteen.ensures ∙ sym (marked-drop c.args.r.0 12 _))) }

pub returns : goal.returns
returns c =
    let r = c.args.r.0 in
    let bs = c.args.numbers.now in
    only_low c.mark-sixteen.result.word
    ∙ ap (λ (l : List ℕ). replicate 12 0 ++ l)
    (ap (drop 12) c.mark-sixteen.ensures ∙ sym (marked-drop r 12 _)
    ∙ ap (marked r)
    (low_halves c.long.result ∙ ap (cut 4 4) (bits_of-part 2 (omega arith) bs 24 (omega arith) c.long.ensures)
    ∙ unpacked-part 24 2 bs (omega arith) (search rules)))
