-- `write_control` meets its contract: after k turns the first k bytes have the first 4 * k statuses. Assumes nothing.
use Rattle.std.proofs.Common.{◌≡◌, ◌*◌, take}
use Rattle.bits.specs.Fields.{run}
use Rattle.counters.specs.Counters.{last_stream}
use Rattle.setting_bytes.specs.Settings.{part, statuses_at}
use Rattle.setting_bytes.proofs.InBytes.{in_setting}
use Rattle.header_write.proofs.writer.write_control.Given as goal

abbrev pub invariant-loop-k : goal.invariant-loop-k
invariant-loop-k l = run 8 (take l.k l.part) ≡ run 2 (take (4 * l.k) (part (in_setting statuses_at) last_stream l.setting))
