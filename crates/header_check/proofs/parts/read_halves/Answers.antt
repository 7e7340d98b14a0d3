-- `read_halves` meets its contract: after k turns the first 2 * k values are those of the first k bytes. Assumes nothing.
use Prim.Native.Nat.{ℕ}
use mathlib.Core.Path.{◌≡◌, ap, ◌∙◌}
use native.Mathlib.Omega.{arith}
use borrow.Author.Rules.{rules}
use lib.ListN.{length}
use Rattle.bits.specs.Fields.{run, cut}
use Rattle.header_layout.proofs.Halves.{halved_none, halved_next, halved_all}
use Rattle.header_check.proofs.parts.read_halves.Goals as goal

pub loop-k-init : goal.loop-k-init
loop-k-init c = let args = c.args in halved_none args.values.now args.part.now

pub loop-k-preserved : goal.loop-k-preserved
loop-k-preserved c =
    let turn = c.loop-k in
    halved_next turn.values c.args.part.now turn.k (omega arith) (omega arith) (search rules) turn.invariant

pub returns : goal.returns
returns c =
    let turn = c.loop-k in
    let part = c.args.part.now in
    let all : turn.k ≡ length part = omega arith in
    halved_all turn.values part (omega arith) (rw all at turn.invariant)
    ∙ ap (λ (n : ℕ). cut 4 n (run 8 part)) (turn.auto.values ∙ c.requires)
