-- `write_front` meets its contract: two parts, one behind the other, and two bytes before them. Assumes nothing.
use mathlib.Core.Path.{◌≡◌, sym, ap, ◌∙◌}
use native.Mathlib.Omega.{arith}
use borrow.Author.Tests.{eq-eqb}
use borrow.Rule.Slice.PartMut.{same_len_mid, mid_len}
use lib.ListN.{length, take, drop}
use Rattle.slices.proofs.Front.{put, copied-over}
use Rattle.counters.specs.Counters.{last_slot}
use Rattle.setting.specs.Announcing.{announced}
use Rattle.setting_bytes.specs.Settings.{announced_length, announced_bytes, announced_at, numbers_at, private_at}
use Rattle.setting_bytes.proofs.Parts.{setting_front}
use borrow.Author.Rules.{rules}
use Rattle.setting_write.proofs.write_front.Goals as goal

pub returns : goal.returns
returns c =
    let s = c.args.s in
    let part = c.args.part.now in
    let first = c.write_announced.new.bytes in
    let before = put announced_at announced_length part first in
    let room : length (take announced_length (drop announced_at part)) ≡ announced_length = mid_len announced_at numbers_at part (omega (arith, c.requires)) in
    let whole : length before ≡ private_at = same_len_mid announced_at announced_length part first c.write_announced.auto.bytes ∙ c.requires in
    let slots : length s.relative_ts_number ≡ last_slot = search rules in
    let told : first ≡ announced_bytes (announced s) =
    rw (eq-eqb (length (take announced_length (drop announced_at part))) announced_length room) at c.write_announced.ensures ∙ ap announced_bytes c.announce.ensures in
    let copied : c.copy.new.dst ≡ s.relative_ts_number =
    c.copy.ensures ∙ copied-over (take last_slot (drop numbers_at before)) s.relative_ts_number (mid_len numbers_at private_at before (omega (arith, whole)) ∙ sym slots) in
    setting_front s part first c.copy.new.dst c.requires (c.write_announced.auto.bytes ∙ room) (ap length copied ∙ slots) told copied
