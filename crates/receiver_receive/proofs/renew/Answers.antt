-- `renew` meets its contract: the header's numbers, and behind them the open frame's. Assumes nothing.
use Prim.Native.Nat.{ℕ}
use mathlib.Core.Path.{◌≡◌, ap₂, ◌∙◌}
use mathlib.Core.List.{List, ◌++◌}
use borrow.Author.Rules.{rules}
use lib.ListN.{take}
use Rattle.slices.proofs.Front.{copied-over}
use Rattle.receiver.specs.Packed.{packed_length}
use Rattle.receiver_receive.proofs.renew.Goals as goal

pub returns-clause-numbers_after : goal.returns-clause-numbers_after
returns-clause-numbers_after c =
    let own : c.copy-2.new.dst ≡ c.args.own.now = c.copy-2.ensures ∙ copied-over _ _ (search rules) in
    let before : c.copy.new.dst ≡ take packed_length c.args.numbers.now = c.copy.ensures ∙ copied-over _ _ (search rules) ∙ search rules in
    ap₂ (λ (x y : List ℕ). x ++ y) own before
