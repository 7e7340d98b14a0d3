-- `read_long` meets its contract: what the array holds are the bytes of the numbers. Assumes nothing.
use Prim.Native.Nat.{ℕ}
use lib.ListN.{length, take, drop}
use lib.Seq.{take_all}
use mathlib.Core.Path.{◌≡◌, ap, ◌∙◌}
use mathlib.Core.List.{List}
use native.Mathlib.Omega.{arith}
use Rattle.bits.specs.Fields.{run, cut}
use Rattle.bits.proofs.Laws.{fit_of}
use Rattle.header_layout.proofs.Cut.{length_part}
use Rattle.header_check.proofs.Asked.{plain_numbers, extended_numbers}
use Rattle.header_check.proofs.parts.read_long.Goals as goal

-- the bytes of the numbers
abbrev part_of : List ℕ → List ℕ
part_of p = take 26 (drop 73 p)

pub returns-in-Some : goal.returns-in-Some
returns-in-Some c =
    let p = c.args.packet.now in
    let bytes = fit_of 8 p c.fits-packet in
    let all : length (part_of p) ≡ 26 = length_part p 73 26 (omega arith) in
    let held : c.in-Some.field-0.now ≡ part_of p = c.in-Some.ensures.cases.same ∙ take_all 26 (part_of p) (omega arith) in
    let read = c.read_halves.ensures ∙ ap (λ (l : List ℕ). cut 4 52 (run 8 l)) held in record {
      numbers_after = read ∙ plain_numbers p bytes c.told-packet;
      numbers_after_2 = read ∙ extended_numbers p bytes c.told-packet;
    }
