-- The slots that a put fills are slots of the frame: behind its last one the plan has zeros. Assumes nothing.
use Prim.Native.Nat.{ℕ, zero, suc, ◌+◌, ◌*◌, ◌/◌, ◌^◌, ◌<◌}
use mathlib.Core.Path.{◌≡◌}
use mathlib.Core.Bool.{Bool, true, false, cond, not, ◌&&◌}
use mathlib.Core.List.{List, [], ◌∷◌, zip_with}
use native.Mathlib.Nat.{pow-suc}
use native.Mathlib.Omega.{arith}
use borrow.Author.Tests.{ne_eqb}
use lib.Dec.{eqb}
use lib.ListN.{drop}
use lib.Pow.{pow_pos}
use Rattle.bits.specs.Fields.{Fit, more}
use Rattle.setting.specs.Rules.{some_behind}
use Rattle.setting.proofs.Fields.{fit_some}
use Rattle.packet.specs.Packets.{packet_length, frame_length}
use Rattle.composer.specs.Slots.{empty_for}
use Rattle.slot_bits.specs.Bits.{as_bits, slots_as_bits}

-- one bit more
bit-first : (b : Bool) (n k : ℕ) → n < 2 ^ k → cond b 1 0 + 2 * n < 2 ^ suc k
bit-first true n k h = let e = pow-suc 2 k in omega arith
bit-first false n k h = let e = pow-suc 2 k in omega arith

-- a plan with zeros behind its first n slots has stream r only in these
bits_few : (r n : ℕ) (plan : List ℕ) (marks : List Bool) → (r ≡ 0 → ⊥) → Fit 0 (drop n plan) → as_bits (empty_for r plan marks) < 2 ^ n
unfolding empty_for zip_with as_bits
bits_few r n [] marks s f = pow_pos n
bits_few r n (p ∷ plan) [] s f = pow_pos n
bits_few r zero (p ∷ plan) (m ∷ marks) s (more h f) =
    let other : eqb p r ≡ false = ne_eqb p r (λ e. s (omega arith)) in
    rw other (let behind = bits_few r zero plan marks s f in omega arith)
bits_few r (suc n) (p ∷ plan) (m ∷ marks) s f = bit-first (eqb p r && not m) _ n (bits_few r n plan marks s f)

-- so their bits are fewer than the frame's packets
pub bits_inside : (r slots : ℕ) {lent : ℕ} (plan : List ℕ) (marks : List Bool) → (r ≡ 0 → ⊥) → some_behind slots plan ≡ false → lent ≡ frame_length slots
    → slots_as_bits (empty_for r plan marks) < 2 ^ (lent / packet_length)
unfolding slots_as_bits as_bits
bits_inside r slots {lent} plan marks s e l =
    let packets : lent / packet_length ≡ suc slots = omega arith in
    rw packets (bit-first false _ slots (bits_few r slots plan marks s (fit_some 0 (drop slots plan) e)))
