-- `write_words` meets its contract: after k turns the first k numbers are written. Assumes nothing.
use Rattle.std.proofs.Common.{◌≡◌, ◌*◌, take}
use Rattle.setting_bytes.specs.Words.{word_bytes}
use Rattle.setting_write.proofs.write_words.Given as goal

abbrev pub invariant-loop-k : goal.invariant-loop-k
invariant-loop-k l = take (2 * l.k) l.part ≡ word_bytes (take l.k l.words)
