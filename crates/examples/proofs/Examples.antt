-- The table of examples is right: antt computes both sides of it. Assumes nothing.
use mathlib.Core.Path.{refl}
use Rattle.bits.specs.Fields.{bits_of, number, run, cut}
use Rattle.crc.specs.Crc.{register_from}
use Rattle.header_layout.specs.Rows.{pack}
use Rattle.header_layout.specs.Header.{paired, line_bits, body, header}
use Rattle.header_layout.proofs.LaidOut.{laid_out}
use Rattle.header_write.specs.Writing.{write_refusal, written}
use Rattle.setting.specs.Setting.{blank}
use Rattle.setting.specs.Size.{size_of, resized}
use Rattle.setting.specs.Refusal.{first_of}
use Rattle.setting.specs.Rules.{width_checks, absent_checks, some_unavailable, pair_twice, bonding_checks, rule_checks}
use Rattle.counters.specs.Counters.{available}
use Rattle.slices.specs.Slices.{any_below, some_at_least, some_differ}
use Rattle.setting.specs.Announcing.{announced, differ}
use Rattle.composer.specs.Composing.{next_counter, next_version}
use Rattle.receiver.specs.Table.{open_row, row_of}
use Rattle.examples.specs.Examples.{examples, ExamplesHold}
use Rattle.examples.proofs.Pair.{first-places}

pub examples_hold : ExamplesHold
unfolding examples size_of resized written write_refusal first_of width_checks absent_checks rule_checks bonding_checks some_unavailable pair_twice available any_below some_at_least header body line_bits laid_out pack paired run bits_of cut number register_from blank some_differ announced differ next_counter next_version open_row row_of
examples_hold buffer lent = (refl, rw (lent, first-places buffer lent) refl)
