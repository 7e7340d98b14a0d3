-- `write_identifiers` meets its contract: after k turns the identifiers of the first k streams are written. Assumes nothing.
use Rattle.std.proofs.Common.{◌≡◌, ◌*◌, take}
use Rattle.bits.specs.Fields.{run}
use Rattle.setting_bytes.specs.Words.{words_of}
use Rattle.header_layout.specs.Header.{paired}
use Rattle.header_write.proofs.writer.write_identifiers.Given as goal

abbrev pub invariant-loop-k : goal.invariant-loop-k
invariant-loop-k l = run 8 (take (4 * l.k) l.part) ≡ run 16 (paired (take l.k (words_of l.ts)) (take l.k (words_of l.os)))
