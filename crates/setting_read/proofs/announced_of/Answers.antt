-- `announced_of` meets its contract. Assumes nothing.
use Prim.Native.Nat.{◌*◌}
use mathlib.Core.Path.{refl, ◌∙◌}
use native.Mathlib.Omega.{arith}
use borrow.Author.Tests.{eq-eqb, ne_eqb}
use lib.ListN.{length, replicate}
use Rattle.counters.specs.Counters.{last_stream}
use Rattle.setting.specs.Setting.{blank}
use Rattle.setting.specs.Announcing.{announced}
use Rattle.setting_bytes.specs.Settings.{part, ts_id_at, network_id_at, statuses_at, announced_length, announced_of}
use Rattle.setting_bytes.proofs.Numbers.{all_read}
use Rattle.setting_bytes.proofs.Parts.{length_part, copied-part}
use Rattle.setting_read.proofs.announced_of.Goals as goal

pub returns-then-bytes-ne-ANNOUNCED_BYTES : goal.returns-then-bytes-ne-ANNOUNCED_BYTES
unfolding announced_of announced blank
returns-then-bytes-ne-ANNOUNCED_BYTES c = rw (ne_eqb (length c.args.bytes.now) announced_length c.if-bytes-ne-ANNOUNCED_BYTES.true) refl

pub returns : goal.returns
unfolding announced_of
returns c =
    let long = c.if-bytes-ne-ANNOUNCED_BYTES.false in
    let b = c.args.bytes.now in
    rw (
      eq-eqb (length b) announced_length long,
      c.word.ensures,
      c.read_words.ensures ∙ all_read (replicate last_stream 0) (part ts_id_at (2 * last_stream) b) (length_part ts_id_at (2 * last_stream) b (omega arith)),
      c.read_words-2.ensures ∙ all_read (replicate last_stream 0) (part network_id_at (2 * last_stream) b) (length_part network_id_at (2 * last_stream) b (omega arith)),
      c.copy.ensures ∙ copied-part last_stream statuses_at b (omega arith),
    ) refl
