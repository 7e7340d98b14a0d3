-- `read_private` meets its contract. Assumes nothing.
use Prim.Native.Nat.{ℕ, ◌+◌, ◌-◌, ◌≤◌}
use mathlib.Core.Path.{◌≡◌, sym, ap, ◌∙◌}
use native.Mathlib.Omega.{arith}
use native.Mathlib.Nat.{sub-zero}
use lib.ListN.{length, take, drop}
use lib.Seq.{length-take-le}
use Rattle.bits.proofs.Laws.{fit_of}
use Rattle.setting.specs.Setting.{private_bytes}
use Rattle.setting.specs.Size.{resized}
use Rattle.setting.proofs.Sizes.{sized}
use Rattle.header_layout.specs.Places.{places_of}
use Rattle.header_layout.proofs.Cut.{length_part}
use Rattle.header_layout.proofs.LaidOut.{private_end}
use Rattle.header_layout.proofs.Private.{copied_all}
use Rattle.header_read.proofs.Coded.{privates_by}
use Rattle.header_read.proofs.Parts.{resized-part}
use Rattle.header_read.proofs.reader.read_private.Goals as goal
use Rattle.header_read.proofs.reader.read_private.Goals.{After-places_of-at}

-- what is known of the places
facts : (c : After-places_of-at) →
    (c.size_of-size.result.private_bytes ≤ private_bytes) × (c.places_of-at.result.private + c.size_of-size.result.private_bytes ≤ 184)
unfolding places_of
facts c = (
  rw c.size_of-size.ensures (sized c.args.kind).privates,
  rw (c.size_of-size.ensures, c.places_of-at.ensures.value) (private_end c.args.kind),
)

pub slice_bounds-copy-end : goal.slice_bounds-copy-end
slice_bounds-copy-end c = let few = facts (goal.at.slice_bounds-copy-end c).After-places_of-at in omega arith

pub slice_bounds-copy-end-2 : goal.slice_bounds-copy-end-2
slice_bounds-copy-end-2 c = let few = facts (goal.at.slice_bounds-copy-end-2 c).After-places_of-at in omega arith

pub returns : goal.returns
unfolding places_of
returns c =
    let part = c.args.part.now in
    let p = c.args.packet.now in
    let kind = c.args.kind in
    let bytes = fit_of 8 p c.fits-packet in
    let n = c.from-own.result in
    let from = c.places_of-at.result.private in
    let few = facts (goal.at.returns c).After-places_of-at in
    let own : length (take (n - 0) part) ≡ n = ap (λ (k : ℕ). length (take k part)) (sub-zero n) ∙ length-take-le n part (omega (arith, c.requires)) in
    let span : from + n - from ≡ n = omega arith in
    let there : length (take n (drop from p)) ≡ n = length_part p from n (omega arith) in
    let data_is : c.copy.new.dst ≡ take n (drop from p) =
    c.copy.ensures ∙ rw span (copied_all (take (n - 0) part) (take n (drop from p)) (own ∙ sym there)) in
    resized-part part c.copy.new.dst c.fill.new.dst n private_bytes c.requires (ap length data_is ∙ there) (omega (arith, few.0)) c.fill.ensures
    ∙ ap (resized private_bytes) data_is ∙ rw (c.from-own.ensures, c.size_of-size.ensures, c.places_of-at.ensures.value) (privates_by kind p bytes c.told-packet)
