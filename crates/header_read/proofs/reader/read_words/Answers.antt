-- `read_words` meets its contract: after k turns the identifiers of the first k streams are read. Assumes nothing.
use Prim.Native.Nat.{◌+◌, ◌*◌, ◌/◌, ◌%◌}
use mathlib.Core.Path.{◌≡◌, refl, sym, ap, ◌∙◌}
use native.Mathlib.Omega.{arith}
use lib.ListN.{get_or}
use lib.Seq.{take_all}
use Rattle.setting_bytes.specs.Words.{word_bytes}
use Rattle.setting_bytes.proofs.Numbers.{word_written}
use Rattle.setting_pairs.specs.Identifiers.{ids_apart}
use Rattle.setting_pairs.proofs.Apart.{length_apart, apart_at}
use Rattle.header_read.proofs.reader.read_words.Goals as goal

pub loop-k-init : goal.loop-k-init
unfolding word_bytes
loop-k-init c = refl

pub loop-k-preserved : goal.loop-k-preserved
loop-k-preserved c =
    let turn = c.loop-k in
    let ids = c.args.ids.now in
    let n = c.args.streams in
    let ws = ids_apart 4 n ids in
    let k = turn.k in
    let fits = c.type_inv.ids (4 * k + 1) in
    let word = apart_at 4 n k ids (omega arith) in
    let high : get_or ids (4 * k) 0 ≡ get_or ws k 0 / 256 = omega (arith, fits) in
    let low : get_or ids (4 * k + 1) 0 ≡ get_or ws k 0 % 256 = omega (arith, fits) in
    let many = length_apart 4 n ids in
    word_written turn.part ws k (omega arith) (omega (arith, c.requires)) high low turn.invariant

pub returns : goal.returns
returns c =
    let turn = c.loop-k in
    let ids = c.args.ids.now in
    let n = c.args.streams in
    let many = length_apart 4 n ids in
    sym (take_all (2 * turn.k) turn.part (omega (arith, c.requires))) ∙ turn.invariant
    ∙ ap word_bytes (take_all turn.k (ids_apart 4 n ids) (omega arith))
