-- `write_information` meets its contract. Assumes nothing.
use Prim.Native.Nat.{◌/◌, ◌%◌}
use mathlib.Core.Path.{◌≡◌}
use mathlib.Core.List.{[], ◌∷◌}
use native.Mathlib.Omega.{arith}
use lib.ListN.{get_or}
use Rattle.setting_bytes.specs.Words.{word_bytes}
use Rattle.slices.proofs.Front.{stored}
use Rattle.setting_write.proofs.write_information.Goals as goal

pub returns : goal.returns
unfolding word_bytes
returns c =
    let a = c.args.a in
    let high : get_or c.to_be_bytes.result 0 0 ≡ a.availability / 256 = rw c.to_be_bytes.ensures (omega arith) in
    let low : get_or c.to_be_bytes.result 1 0 ≡ a.availability % 256 = rw c.to_be_bytes.ensures (omega arith) in
    rw (high, low) (stored (a.slot_allocation_type ∷ a.frame_type ∷ a.availability / 256 ∷ a.availability % 256 ∷ []) c.args.part.now c.requires)
