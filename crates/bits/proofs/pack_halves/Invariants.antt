-- `pack_halves` meets its contract: after k turns the first k bytes are packed. Assumes nothing.
use Rattle.std.proofs.Common.{◌≡◌, take}
use Rattle.bits.specs.Fields.{run, cut}
use Rattle.bits.proofs.pack_halves.Given as goal

abbrev pub invariant-loop-k : goal.invariant-loop-k
invariant-loop-k l = take l.k l.part ≡ cut 8 l.k (run 4 l.values)
