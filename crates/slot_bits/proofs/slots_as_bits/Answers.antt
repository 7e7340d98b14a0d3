-- `slots_as_bits` meets its contract: the bits of the first i slots are there. Assumes nothing.
use Prim.Native.Nat.{◌*◌}
use mathlib.Core.Path.{◌≡◌, ap, ◌∙◌}
use native.Mathlib.Omega.{arith}
use borrow.Author.Rules.{rules}
use lib.ListN.{length, length-set}
use Rattle.counters.specs.Counters.{last_slot}
use Rattle.slot_bits.proofs.Bytes.{filling_more, filling_all}
use Rattle.slot_bits.proofs.slots_as_bits.Goals as goal
use Rattle.slot_bits.proofs.slots_as_bits.Goals.{At-loop-i}

long : (c : At-loop-i) → length c.args.marks.now ≡ last_slot
long c = search rules

pub loop-i-preserved : goal.loop-i-preserved
loop-i-preserved c =
    (simp length-set c.loop-i.invariant.0, filling_more _ (long (goal.at.loop-i-preserved c).At-loop-i) c.loop-i.invariant.1 (omega arith) c.bit_of.ensures)

pub returns : goal.returns
returns c =
    ap (λ n. 2 * n) c.number_of.ensures.value ∙ filling_all _ (long (goal.at.returns c).At-loop-i) c.loop-i.invariant.1 (omega arith)
