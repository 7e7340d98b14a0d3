-- `cut_statuses` meets its contract. Assumes nothing.
use Prim.Native.Nat.{ℕ, ◌-◌, ◌*◌, ◌≤◌}
use mathlib.Core.Path.{◌≡◌, refl, ap, ◌∙◌}
use native.Mathlib.Omega.{arith}
use native.Mathlib.Nat.{sub-zero}
use borrow.Author.Tests.{le-leb}
use lib.ListN.{length, take}
use lib.Seq.{length-take-le}
use Rattle.bits.specs.Fields.{run, cut}
use Rattle.bits.proofs.Laws.{length_cut}
use Rattle.counters.specs.Counters.{last_stream}
use Rattle.setting.specs.Size.{resized}
use Rattle.header_check.specs.Cutting.{cut_into}
use Rattle.header_read.proofs.Parts.{resized-part}
use Rattle.header_read.proofs.reader.cut_statuses.Goals as goal

pub returns : goal.returns
unfolding cut_into
returns c =
    let n = c.args.streams in
    let own : length (take (n - 0) c.args.part.now) ≡ n = ap (λ (k : ℕ). length (take k c.args.part.now)) (sub-zero n) ∙ length-take-le n c.args.part.now (omega (arith, c.requires)) in
    let few : n ≤ 255 = omega (arith, c.requires) in
    let cuts : c.cut_run.new.values ≡ cut 2 n (run 8 c.args.control.now) =
    c.cut_run.ensures ∙ rw (own, le-leb n 255 few, le-leb (n * 2) (length c.args.control.now * 8) c.requires.2) refl in
    resized-part c.args.part.now c.cut_run.new.values c.fill.new.dst n last_stream c.requires.0 (ap length cuts ∙ length_cut 2 n (run 8 c.args.control.now)) c.requires.1 c.fill.ensures
    ∙ ap (resized last_stream) cuts
