-- `some_half_at_least` meets its contract: it has found what is among the halves of the bytes before this one. Assumes nothing.
use mathlib.Core.Path.{◌≡◌}
use lib.ListN.{take}
use Rattle.receiver_stage.proofs.Halves.{some_half}
use Rattle.receiver_stage.proofs.some_half_at_least.Given as goal

abbrev pub invariant-loop-byte : goal.invariant-loop-byte
invariant-loop-byte l = some_half l.limit (take l.byte-index l.bytes) ≡ l.found
