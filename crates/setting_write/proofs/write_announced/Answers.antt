-- `write_announced` meets its contract: five parts, one behind the other. Assumes nothing.
use Prim.Native.Nat.{◌*◌}
use mathlib.Core.Path.{◌≡◌, sym, ◌∙◌}
use native.Mathlib.Omega.{arith}
use borrow.Author.Tests.{eq-eqb}
use borrow.Rule.Slice.PartMut.{same_len_mid, mid_len}
use lib.ListN.{length, take, drop}
use Rattle.slices.proofs.Front.{put, copied-over}
use Rattle.counters.specs.Counters.{last_stream}
use Rattle.setting_bytes.specs.Settings.{ts_id_at, network_id_at, statuses_at, emergency_at, announced_length}
use Rattle.setting_bytes.proofs.Parts.{Streams, announced_parts}
use borrow.Author.Rules.{rules}
use Rattle.setting_write.proofs.write_announced.Goals as goal

pub returns : goal.returns
returns c =
    let a = c.args.a in
    let bytes = c.args.bytes.now in
    let long = c.if-bytes-ne-ANNOUNCED_BYTES.false in
    let streams : Streams a = (search rules, search rules, search rules) in
    let information = c.write_information.new.part in
    let ts = c.write_words.new.part in
    let os = c.write_words-2.new.part in
    let one = put 0 ts_id_at bytes information in
    let two = put ts_id_at (2 * last_stream) one ts in
    let three = put network_id_at (2 * last_stream) two os in
    let whole : length three ≡ announced_length =
    same_len_mid network_id_at (2 * last_stream) two os c.write_words-2.auto.part ∙ same_len_mid ts_id_at (2 * last_stream) one ts c.write_words.auto.part
    ∙ same_len_mid 0 ts_id_at bytes information c.write_information.auto.part ∙ long in
    let room = mid_len statuses_at emergency_at three (omega (arith, whole)) in
    rw (eq-eqb (length bytes) announced_length long)
    (announced_parts a bytes information ts os c.copy.new.dst long streams c.write_information.ensures c.write_words.ensures c.write_words-2.ensures
    (c.copy.ensures ∙ copied-over (take last_stream (drop statuses_at three)) a.receive_status (room ∙ sym streams.2)))
