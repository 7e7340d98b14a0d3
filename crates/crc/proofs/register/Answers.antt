-- `crc::register` meets its contract: the longs and the bytes behind them are the message. Assumes nothing.
use Prim.Native.Nat.{ℕ, ◌-◌, ◌%◌, ◌^◌}
use mathlib.Core.Path.{ap, ap₂, ◌∙◌}
use mathlib.Core.List.{List}
use native.Mathlib.Nat.{le_of_eq, sub-zero}
use lib.ListN.{length, take, drop, length-drop}
use lib.Seq.{take_all}
use Rattle.bits.specs.Fields.{run}
use Rattle.crc.specs.Crc.{register_from, register_of}
use Rattle.crc.proofs.Folding.{parts_in}
use Rattle.crc.proofs.register.Goals as goal

pub returns-then-n-lt16 : goal.returns-then-n-lt16
unfolding register_of
returns-then-n-lt16 c = c.bytes_in.ensures

pub returns : goal.returns
unfolding register_of
returns c =
    c.bytes_in-2.ensures
    ∙ ap₂ (λ (r : ℕ) (l : List ℕ). register_from r (run 8 l)) (c.longs_in-r.ensures ∙ ap (λ (k : ℕ). register_of (take k m)) (sub-zero n)) (take_all (length m - n) (drop n m) (le_of_eq (length-drop n m)))
    ∙ parts_in (2 ^ 32 - 1) m n
  where
    m : List ℕ
    m = c.args.message.now

    n : ℕ
    n = length m - length m % 8
