-- `read_numbers` meets its contract, by the kind. Assumes nothing.
use Prim.Native.Nat.{ℕ}
use mathlib.Core.Path.{◌≡◌, sym, ap, ◌∙◌}
use mathlib.Core.List.{List}
use lib.ListN.{length, take, drop}
use Rattle.bits.specs.Fields.{run, cut}
use Rattle.bits.proofs.Laws.{fit_of}
use Rattle.slices.proofs.Front.{put}
use Rattle.setting.specs.declared.Kind.{Kind}
use Rattle.header_layout.specs.Header.{reading}
use Rattle.header_check.proofs.Asked.{short_numbers}
use Rattle.header_check.proofs.parts.read_numbers.Goals as goal

pub returns-in-Short : goal.returns-in-Short
returns-in-Short c =
    let p = c.args.packet.now in
    let bytes = fit_of 8 p c.fits-packet in
    let forty : length (take 40 c.args.numbers.now) ≡ 40 = ap (λ (l : List ℕ). length (take 40 l)) c.requires in
    ap (put 0 40 c.args.numbers.now) (c.read_run.ensures ∙ ap (λ (n : ℕ). cut 3 n (run 8 (take 15 (drop 38 p)))) forty)
    ∙ ap (λ (l : List ℕ). put 0 40 l (cut 3 40 (run 8 (take 15 (drop 38 p))))) c.requires ∙ short_numbers p bytes c.told-packet
    ∙ sym (ap (λ (k : Kind). (reading k p).relative_ts_number) c.in-Short.is)
