-- `pack_halves` meets its contract: after k turns the first k bytes are packed. Assumes nothing.
use Rattle.std.proofs.Common.{◌≡◌, ap, sym, ◌∙◌, refl, length, arith}
use Rattle.std.proofs.Math.Seq.{take_all}
use Rattle.bits.specs.Fields.{run, cut}
use Rattle.bits.proofs.Halves.{halves_left, halves-packed, half_packed}
use Rattle.bits.proofs.pack_halves.Goals as goal

pub returns-then-values-part : goal.returns-then-values-part
returns-then-values-part c = halves_left _ _ (λ pairs. grind arith)

pub loop-k-init : goal.loop-k-init
unfolding cut
loop-k-init c = refl

pub loop-k-preserved : goal.loop-k-preserved
loop-k-preserved c = half_packed _ c.args.values.now (omega arith) c.loop-k.k (omega arith) c.loop-k.invariant

pub returns : goal.returns
returns c =
    let args = c.args in
    let all : c.loop-k.k ≡ length args.part.now = omega arith in
    sym (take_all c.loop-k.k c.loop-k.part (omega arith)) ∙ c.loop-k.invariant
    ∙ ap (λ n. cut 8 n (run 4 args.values.now)) all ∙ sym (halves-packed args.part.now args.values.now (omega arith))
