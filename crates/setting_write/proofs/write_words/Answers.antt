-- `write_words` meets its contract: after k turns the first k numbers are written. Assumes nothing.
use mathlib.Core.Path.{refl}
use native.Mathlib.Omega.{arith}
use Rattle.setting_bytes.specs.Words.{word_bytes}
use Rattle.setting_bytes.proofs.Numbers.{word_written}
use Rattle.setting_write.proofs.write_words.Goals as goal

pub loop-k-init : goal.loop-k-init
unfolding word_bytes
loop-k-init c = refl

pub loop-k-preserved : goal.loop-k-preserved
loop-k-preserved c =
    let fits = c.type_inv.words c.loop-k.k in
    word_written c.loop-k.part c.args.words.now c.loop-k.k (omega arith) (omega (arith, c.requires)) (rw c.to_be_bytes.ensures (omega (arith, fits)))
    (rw c.to_be_bytes.ensures (omega arith)) c.loop-k.invariant
