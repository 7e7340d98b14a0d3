-- `read_announced` meets its contract: four bytes, three parts behind them and a byte. Assumes nothing.
use Prim.Native.Nat.{◌+◌, ◌*◌, ◌/◌, ◌%◌, ◌≤◌}
use mathlib.Core.Path.{◌≡◌, ap, ◌∙◌}
use native.Mathlib.Omega.{arith}
use borrow.Author.Rules.{rules}
use lib.ListN.{get_or}
use Rattle.bits.proofs.Laws.{fit_of}
use Rattle.counters.specs.Counters.{last_stream}
use Rattle.setting.specs.declared.Size.{Size}
use Rattle.setting.specs.Size.{streams_of}
use Rattle.setting.proofs.Sizes.{sized}
use Rattle.setting_bytes.specs.Words.{word_bytes}
use Rattle.header_layout.specs.Places.{places_of}
use Rattle.header_layout.proofs.LaidOut.{private_before}
use Rattle.header_layout.proofs.Said.{emergency_is}
use Rattle.header_read.proofs.Coded.{announced-written, ts_read, networks_read, statuses_read}
use Rattle.header_read.proofs.reader.read_announced.Goals as goal
use Rattle.header_read.proofs.reader.read_announced.Goals.{After-places_of-at}

-- what is known of the size and the places
streams_are : (c : After-places_of-at) → c.from-streams.result ≡ streams_of c.args.kind
streams_are c = c.from-streams.ensures ∙ ap (λ (z : Size). z.streams) c.size_of-size.ensures

facts : (c : After-places_of-at) →
    let n = c.from-streams.result in
    let r = c.places_of-at.result in
    (n ≤ last_stream) × (7 ≤ n) × ((n + 1) / 8 * 8 ≡ n + 1)
    × (r.control ≡ r.identifiers + 4 * n) × (r.numbers ≡ r.control + (n + 1) / 4) × (r.numbers ≤ 184)
unfolding places_of
facts c =
    let few = (sized c.args.kind).streams in
    let whole = (sized c.args.kind).stream_bytes in
    let last = private_before c.args.kind in
    rw (c.places_of-at.ensures.value, streams_are c) (few, omega arith, whole, omega arith, omega arith, omega arith)

pub read_ids-requires : goal.read_ids-requires
read_ids-requires c =
    let f = facts (goal.at.read_ids-requires c).After-places_of-at in
    search rules

pub slice_bounds-read_ids-count-4 : goal.slice_bounds-read_ids-count-4
slice_bounds-read_ids-count-4 c = let f = facts (goal.at.slice_bounds-read_ids-count-4 c).After-places_of-at in omega arith

pub slice_bounds-read_ids-start-4 : goal.slice_bounds-read_ids-start-4
slice_bounds-read_ids-start-4 c = let f = facts (goal.at.slice_bounds-read_ids-start-4 c).After-places_of-at in omega arith

pub read_ids-requires-2 : goal.read_ids-requires-2
read_ids-requires-2 c =
    let f = facts (goal.at.read_ids-requires-2 c).After-places_of-at in
    search rules

pub read_statuses-requires : goal.read_statuses-requires
read_statuses-requires c =
    let f = facts (goal.at.read_statuses-requires c).After-places_of-at in
    search rules

pub returns : goal.returns
unfolding places_of
returns c =
    let kind = c.args.kind in
    let p = c.args.packet.now in
    let fit = fit_of 8 p c.fits-packet in
    let whole = c.told-packet in
    let at = c.places_of-at.ensures.value in
    let n = streams_are (goal.at.returns c).After-places_of-at in
    let high : get_or c.to_be_bytes.result 0 0 ≡ c.args.availability / 256 = rw c.to_be_bytes.ensures (omega arith) in
    let low : get_or c.to_be_bytes.result 1 0 ≡ c.args.availability % 256 = rw c.to_be_bytes.ensures (omega arith) in
    let ts = rw (n, at) at c.read_ids.ensures in
    let networks = rw (n, at) at c.read_ids-2.ensures in
    let statuses = rw (n, at) at c.read_statuses.ensures in
    rw (high, low, at)
    (announced-written kind p c.args.part.now c.read_ids.new.part c.read_ids-2.new.part c.read_statuses.new.part c.args.availability _
    fit whole c.requires.part_len c.requires.availability_value
    (ts ∙ ap word_bytes (ts_read kind p fit whole))
    (networks ∙ ap word_bytes (networks_read kind p fit whole))
    (statuses ∙ statuses_read kind p fit whole)
    (emergency_is p fit whole kind))
