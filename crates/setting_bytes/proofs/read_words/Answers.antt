-- `read_words` meets its contract: after k turns the first k numbers are read. Assumes nothing.
use Prim.Native.Nat.{◌*◌}
use mathlib.Core.Path.{◌≡◌, refl, sym, ap, ◌∙◌}
use native.Mathlib.Omega.{arith}
use borrow.Author.Tests.{eq-eqb, ne_eqb}
use lib.ListN.{length}
use lib.Seq.{take_all}
use Rattle.setting_bytes.specs.Words.{words_of, words_read}
use Rattle.setting_bytes.proofs.Numbers.{word_read}
use Rattle.setting_bytes.proofs.read_words.Goals as goal

pub returns-then-part-words : goal.returns-then-part-words
unfolding words_read
returns-then-part-words c = rw (ne_eqb _ _ c.if-part-words.true)

pub loop-k-init : goal.loop-k-init
unfolding words_of
loop-k-init c = refl

pub loop-k-preserved : goal.loop-k-preserved
loop-k-preserved c = word_read _ c.args.part.now c.loop-k.k (omega arith) (omega (arith, c.if-part-words.false)) (omega arith) c.loop-k.invariant

pub returns : goal.returns
unfolding words_read
returns c =
    let turn = c.loop-k in
    let args = c.args in
    let twice = c.if-part-words.false in
    let all : turn.k ≡ length turn.words = omega arith in
    rw (eq-eqb _ _ twice)
    (sym (take_all turn.k turn.words (omega arith)) ∙ turn.invariant ∙ ap words_of (take_all (2 * turn.k) args.part.now (omega (arith, twice))))
