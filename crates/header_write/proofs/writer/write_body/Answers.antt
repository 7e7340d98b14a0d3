-- `write_body` meets its contract: six parts, one behind the other, at the places of the kind. Assumes nothing.
use Prim.Native.Nat.{◌+◌, ◌-◌, ◌*◌, ◌/◌, ◌≤◌}
use mathlib.Core.Path.{◌≡◌, sym, ap, ◌∙◌}
use native.Mathlib.Omega.{arith}
use borrow.Author.Rules.{rules}
use Rattle.bits.specs.Fields.{run}
use Rattle.counters.specs.Counters.{last_stream}
use Rattle.setting.specs.declared.Size.{Size}
use Rattle.setting.specs.declared.Setting.{Setting}
use Rattle.setting.specs.Size.{size_of, slots_of, streams_of, resized}
use Rattle.setting.proofs.Sizes.{sized}
use Rattle.setting_bytes.specs.Settings.{setting_of}
use Rattle.setting_bytes.proofs.InBytes.{setting_of-in}
use Rattle.header_layout.specs.Layout.{streams_start, private_start}
use Rattle.header_layout.specs.Places.{places_of}
use Rattle.header_layout.specs.Header.{paired}
use Rattle.header_layout.proofs.Body.{body_parts}
use Rattle.header_write.proofs.writer.write_body.Goals as goal
use Rattle.header_write.proofs.writer.write_body.Goals.{After-places_of-at}

streams_are : (c : After-places_of-at) → c.from-streams.result ≡ streams_of c.args.kind
streams_are c = c.from-streams.ensures ∙ ap (λ (z : Size). z.streams) c.size_of-size.ensures

-- how many bytes each part has
sizes : (c : After-places_of-at) →
    let n = c.from-streams.result in
    let r = c.places_of-at.result in
    let kind = c.args.kind in
    (r.identifiers - streams_start ≡ (streams_of kind + 1) / 8) × (r.control - r.identifiers ≡ 4 * n)
    × (n + 1 ≡ 4 * (r.numbers - r.control)) × (r.private - r.numbers ≡ slots_of kind * (size_of kind).number_bits / 8)
    × (184 - r.private ≡ 184 - private_start (size_of kind)) × (n ≤ last_stream) × (7 ≤ n)
unfolding places_of
sizes c =
    let few = (sized c.args.kind).streams in
    let whole = (sized c.args.kind).stream_bytes in
    rw (c.places_of-at.ensures.value, streams_are c) (omega arith, omega arith, omega arith, omega arith, omega arith, few, omega arith)

pub write_streams-requires : goal.write_streams-requires
write_streams-requires c = let f = sizes (goal.at.write_streams-requires c).After-places_of-at in search rules

pub write_identifiers-requires-clause-part_len : goal.write_identifiers-requires-clause-part_len
write_identifiers-requires-clause-part_len c =
    let f = sizes (goal.at.write_identifiers-requires-clause-part_len c).After-places_of-at in
    search rules

pub write_control-requires : goal.write_control-requires
write_control-requires c =
    let f = sizes (goal.at.write_control-requires c).After-places_of-at in
    search rules

pub write_numbers-requires : goal.write_numbers-requires
write_numbers-requires c =
    let f = sizes (goal.at.write_numbers-requires c).After-places_of-at in
    search rules

pub write_private-requires : goal.write_private-requires
write_private-requires c = let f = sizes (goal.at.write_private-requires c).After-places_of-at in search rules

pub returns : goal.returns
returns c =
    let a = c.args in
    let r = c.places_of-at.result in
    let at = goal.at.returns c in
    let b = a.setting.now in
    let z = size_of a.kind in
    let said = sym (setting_of-in b c.told-setting) in
    let n = streams_are at.After-places_of-at in
    let f = sizes at.After-places_of-at in
    body_parts a.kind a.pid (setting_of b) a.part.now _ _ _ _ _ _ streams_start r.identifiers r.control r.numbers r.private c.requires
    (search rules) (search rules) (search rules) (search rules) (search rules) (search rules) (search rules)
    (c.write_start.ensures z)
    (c.write_streams.ensures a.pid)
    (c.write_identifiers.ensures
    ∙ (λ i. run 16 (paired (resized (n i) (said i).ts_id) (resized (n i) (said i).original_network_id))))
    (c.write_control.ensures z a.pid (search rules))
    (c.write_numbers.ensures ∙ ap (λ (t : Setting). run z.number_bits (resized z.slots t.relative_ts_number)) said)
    (c.write_private.ensures a.pid)
