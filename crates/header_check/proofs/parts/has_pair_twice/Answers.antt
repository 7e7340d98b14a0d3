-- `has_pair_twice` meets its contract: what stands behind the identifiers is not compared. Assumes nothing.
use Prim.Native.Nat.{◌+◌, ◌-◌}
use mathlib.Core.Path.{◌≡◌, ◌∙◌}
use native.Mathlib.Omega.{arith}
use Rattle.bits.proofs.Laws.{fit_of}
use Rattle.setting.specs.Size.{size_of}
use Rattle.setting.proofs.Sizes.{sized}
use Rattle.header_layout.specs.Layout.{identifiers_start}
use Rattle.header_layout.specs.Places.{places_of}
use Rattle.header_layout.proofs.Cut.{length_part}
use Rattle.header_check.proofs.Identifiers.{pairs_in}
use Rattle.header_check.proofs.parts.has_pair_twice.Goals as goal

pub returns : goal.returns
unfolding places_of
returns c =
    let p = c.args.packet.now in
    let kind = c.args.kind in
    let bytes = fit_of 8 p c.fits-packet in
    let at = identifiers_start (size_of kind) in
    let here = c.places_of-at.ensures.value in
    let few = (sized kind).streams in
    let whole = c.told-packet in
    let sixty : at + 60 - at ≡ 60 = omega arith in
    let later : at + 60 - (at + 2) ≡ 58 = omega arith in
    c.has_pair_twice.ensures
    ∙ rw (here, sixty, later, length_part p at 60 (omega arith), length_part p (at + 2) 58 (omega arith), c.requires)
    (pairs_in kind p bytes whole)
