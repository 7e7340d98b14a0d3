-- `write_identifiers` meets its contract: after k turns the identifiers of the first k streams are written. Assumes nothing.
use Prim.Native.Nat.{ℕ, ◌+◌, ◌*◌}
use mathlib.Core.Path.{◌≡◌, refl, sym, ap, ap₂, ◌∙◌}
use mathlib.Core.List.{List}
use native.Mathlib.Omega.{arith}
use lib.ListN.{take}
use lib.Seq.{take_all}
use Rattle.bits.specs.Fields.{run}
use Rattle.bits.proofs.Laws.{fit_of}
use Rattle.counters.specs.Counters.{last_stream}
use Rattle.setting.proofs.Sizes.{resized-take}
use Rattle.setting_bytes.specs.Words.{words_of}
use Rattle.setting_bytes.proofs.Numbers.{length_words, words_of-bytes}
use Rattle.header_layout.specs.Header.{paired}
use Rattle.header_layout.proofs.Identifiers.{stream_written}
use Rattle.header_write.proofs.writer.write_identifiers.Goals as goal

pub loop-k-init : goal.loop-k-init
unfolding paired run words_of
loop-k-init c = refl

pub loop-k-preserved : goal.loop-k-preserved
loop-k-preserved c =
    let turn = c.loop-k in
    let args = c.args in
    let pre = c.requires in
    let k = turn.k in
    let t = words_of-bytes args.ts.now k (fit_of 8 args.ts.now (λ i. (c.type_inv.ts i).fits)) (omega (arith, pre)) in
    let o = words_of-bytes args.os.now k (fit_of 8 args.os.now (λ i. (c.type_inv.os i).fits)) (omega (arith, pre)) in
    let next = stream_written turn.part (words_of args.ts.now) (words_of args.os.now) k (4 * k)
    (omega (arith, pre, length_words last_stream args.ts.now pre.ts_len.0)) (omega (arith, pre, length_words last_stream args.os.now pre.ts_len.1))
    (omega (arith, pre)) turn.invariant in
    let four : 4 * (k + 1) ≡ 4 * k + 4 = omega arith in
    rw four (rw (t.0, t.1, o.0, o.1) at next)

pub returns : goal.returns
returns c =
    let at = c.loop-k in
    let args = c.args in
    let pre = c.requires in
    let n = args.streams in
    let all : at.k ≡ n = omega arith in
    ap (run 8) (sym (take_all (4 * at.k) at.part (omega (arith, pre)))) ∙ at.invariant
    ∙ ap (λ (k : ℕ). run 16 (paired (take k (words_of args.ts.now)) (take k (words_of args.os.now)))) all
    ∙ ap₂ (λ (x y : List ℕ). run 16 (paired x y))
    (sym (resized-take n (words_of args.ts.now) (omega (arith, pre, length_words last_stream args.ts.now pre.ts_len.0))))
    (sym (resized-take n (words_of args.os.now) (omega (arith, pre, length_words last_stream args.os.now pre.ts_len.1))))
