-- `some_half_at_least` meets its contract: it has found what is among the halves of the bytes before this one. Assumes nothing.
use Prim.Native.Nat.{◌/◌, ◌%◌}
use mathlib.Core.Path.{ap, ◌∙◌}
use mathlib.Core.Bool.{Bool, ◌||◌, or_assoc}
use native.Mathlib.Omega.{arith}
use lib.Dec.{leb}
use lib.ListN.{get_or}
use Rattle.receiver_stage.proofs.Halves.{half_none, half_next}
use Rattle.receiver_stage.proofs.some_half_at_least.Goals as goal

pub loop-byte-init : goal.loop-byte-init
loop-byte-init c = half_none c.args.limit

pub loop-byte-preserved : goal.loop-byte-preserved
loop-byte-preserved c =
    let bs = c.args.bytes.now in
    let limit = c.args.limit in
    let i = c.loop-byte.byte-index in
    let b = get_or bs i 0 in
    half_next limit bs i (omega arith) (omega (arith, c.type_inv.bytes i))
    ∙ ap (λ (f : Bool). (f || leb limit (b / 16)) || leb limit (b % 16)) c.loop-byte.invariant
    ∙ or_assoc c.loop-byte.found (leb limit (b / 16)) (leb limit (b % 16))
