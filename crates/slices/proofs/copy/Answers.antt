-- `copy` meets its contract: as many elements as the shorter of the two has are copied. Assumes nothing.
use Rattle.std.proofs.Common.{◌∙◌, ap, List, ◌++◌, drop}
use Rattle.slices.proofs.Whole.{all-copied}
use Rattle.slices.proofs.copy.Goals as goal

pub returns-then-n-lt-AT_A_TIME : goal.returns-then-n-lt-AT_A_TIME
returns-then-n-lt-AT_A_TIME c =
    let into = c.args.dst.now in
    let n = c.min-n.result in
    ap (λ (l : List _). l ++ drop n into) c.copy_from_slice.ensures.after ∙ all-copied into c.args.src.now n c.min-n.ensures

pub returns : goal.returns
returns c =
    let into = c.args.dst.now in
    let n = c.min-n.result in
    ap (λ (l : List _). l ++ drop n into) c.copy_long.ensures ∙ all-copied into c.args.src.now n c.min-n.ensures
