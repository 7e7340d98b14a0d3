-- `count` meets its contract. Assumes nothing.
use Prim.Native.Nat.{◌+◌, ◌/◌, ◌^◌, ◌<◌}
use mathlib.Core.Path.{◌≡◌}
use native.Mathlib.Omega.{arith}
use lib.Count.{ones, ones-le}
use Rattle.receiver.specs.Store.{slots_for}
use Rattle.receiver_hand_out.specs.Halves.{halves_of}
use Rattle.receiver_hand_out.proofs.Counting.{four_words}
use Rattle.receiver_hand_out.proofs.numbered.count.Goals as goal
use Rattle.receiver_hand_out.proofs.numbered.count.Goals.{Start}

-- nothing is carried, and each bit is a slot
counted : (c : Start)
    → (c.args.a.word + c.args.b.word / 2 + c.args.c.word / 4 + c.args.d.word / 8 < 2 ^ 64)
    × (ones (c.args.a.word + c.args.b.word / 2 + c.args.c.word / 4 + c.args.d.word / 8)
    ≡ slots_for 8 (halves_of c.args.a.word) + slots_for 8 (halves_of c.args.b.word) + slots_for 8 (halves_of c.args.c.word) + slots_for 8 (halves_of c.args.d.word))
counted c =
    four_words c.args.a.word c.args.b.word c.args.c.word c.args.d.word (omega arith) (omega arith) (omega arith) (omega arith) c.args.a.are_marks c.args.b.are_marks c.args.c.are_marks c.args.d.are_marks

pub overflow_add-result : goal.overflow_add-result
overflow_add-result c =
    let all = (counted (goal.at.overflow_add-result c).Start).0 in
    omega arith

pub overflow_add-result-2 : goal.overflow_add-result-2
overflow_add-result-2 c =
    let all = (counted (goal.at.overflow_add-result-2 c).Start).0 in
    omega arith

pub overflow_add-result-3 : goal.overflow_add-result-3
overflow_add-result-3 c =
    let all = (counted (goal.at.overflow_add-result-3 c).Start).0 in
    omega arith

pub returns : goal.returns
returns c = record {
  value = (counted (goal.at.returns c).Start).1;
  upper_bound = ones-le 64 _ (counted (goal.at.returns c).Start).0;
}
