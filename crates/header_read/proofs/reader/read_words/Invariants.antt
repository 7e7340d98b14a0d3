-- `read_words` meets its contract: after k turns the identifiers of the first k streams are read. Assumes nothing.
use Rattle.std.proofs.Common.{◌≡◌, ◌*◌, take}
use Rattle.setting_bytes.specs.Words.{word_bytes}
use Rattle.setting_pairs.specs.Identifiers.{ids_apart}
use Rattle.header_read.proofs.reader.read_words.Given as goal

abbrev pub invariant-loop-k : goal.invariant-loop-k
invariant-loop-k l = take (2 * l.k) l.part ≡ word_bytes (take l.k (ids_apart 4 l.streams l.ids))
