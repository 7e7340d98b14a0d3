-- `byte_of` meets its contract: the bits before i are added up. Assumes nothing.
use Prim.Native.Nat.{ℕ, ◌+◌, ◌<◌}
use mathlib.Core.Path.{◌≡◌, sym, ap, ◌∙◌}
use mathlib.Core.List.{List}
use native.Mathlib.Numerals.{add-one}
use native.Mathlib.Omega.{arith}
use lib.ListN.{length, get_or, drop, drop_of_length-le}
use lib.Seq.{drop-cons}
use Rattle.slot_bits.specs.Bits.{total}
use Rattle.slot_bits.proofs.byte_of.Goals as goal

-- the numbers from one on are it and those behind it
total-from : (ns : List ℕ) (i : ℕ) → i < length ns → total (drop i ns) ≡ get_or ns i 0 + total (drop (i + 1) ns)
unfolding total
total-from ns i h = ap total (drop-cons ns i 0 h) ∙ ap (λ (k : ℕ). get_or ns i 0 + total (drop k ns)) (sym (add-one i))

pub loop-bit-preserved : goal.loop-bit-preserved
loop-bit-preserved c =
    let ns = c.args.bits.now in
    let more = total-from ns c.loop-bit.bit-index (omega arith) in
    (omega arith, omega (arith, more, c.loop-bit.invariant.1))

pub returns : goal.returns
unfolding total
returns c =
    let ns = c.args.bits.now in
    let none : total (drop c.loop-bit.bit-index ns) ≡ 0 = ap total (drop_of_length-le ns {i = c.loop-bit.bit-index} (omega arith)) in record {
      value = omega (arith, none, c.loop-bit.invariant.1);
      upper_bound = omega arith;
    }
