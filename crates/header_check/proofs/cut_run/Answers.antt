-- `cut_run` meets its contract. Assumes nothing.
use Prim.Native.Nat.{◌*◌, ◌≤◌, ◌<◌}
use mathlib.Core.Path.{refl, sym, ◌∙◌}
use native.Mathlib.Omega.{arith}
use borrow.Author.Tests.{lt-leb, le-leb}
use lib.ListN.{length}
use Rattle.header_check.specs.Cutting.{cut_into}
use Rattle.header_check.proofs.cut_run.Goals as goal

pub returns-then-width-gt8 : goal.returns-then-width-gt8
unfolding cut_into
returns-then-width-gt8 c = sym (rw (lt-leb _ 8 c.if-width-gt8.true) refl)

pub returns-then-values-gt-MOST_VALUES : goal.returns-then-values-gt-MOST_VALUES
unfolding cut_into
returns-then-values-gt-MOST_VALUES c = sym (rw (le-leb _ 8 c.if-width-gt8.false, lt-leb _ 255 c.if-values-gt-MOST_VALUES.true) refl)

pub returns-then-part-values : goal.returns-then-part-values
unfolding cut_into
returns-then-part-values c =
    let a = c.args in
    let short : length a.part.now * 8 < length a.values.now * a.width = omega (arith, rw c.from.ensures at c.if-part-values.true) in
    sym (rw (le-leb _ 8 c.if-width-gt8.false, le-leb _ 255 c.if-values-gt-MOST_VALUES.false, lt-leb _ _ short) refl)

pub returns : goal.returns
unfolding cut_into
returns c =
    let a = c.args in
    let enough : length a.values.now * a.width ≤ length a.part.now * 8 = omega (arith, rw c.from.ensures at c.if-part-values.false) in
    (rw c.from-2.ensures at c.read_run.ensures) ∙ sym (rw (le-leb _ 8 c.if-width-gt8.false, le-leb _ 255 c.if-values-gt-MOST_VALUES.false, le-leb _ _ enough) refl)
