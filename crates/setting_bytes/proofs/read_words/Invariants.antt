-- `read_words` meets its contract: after k turns the first k numbers are read. Assumes nothing.
use Rattle.std.proofs.Common.{◌≡◌, ◌*◌, take}
use Rattle.setting_bytes.specs.Words.{words_of}
use Rattle.setting_bytes.proofs.read_words.Given as goal

abbrev pub invariant-loop-k : goal.invariant-loop-k
invariant-loop-k l = take l.k l.words ≡ words_of (take (2 * l.k) l.part)
