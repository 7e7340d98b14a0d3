-- A packet of 188 bytes may stand in a slot, or is unfit; a stream's packets are so one by one. Assumes nothing.
use Prim.Native.Nat.{ℕ, suc, ◌+◌, ◌*◌, ◌/◌}
use mathlib.Core.Path.{◌≡◌, refl, sym, ap, ap₂, fun_ext, ◌∙◌}
use mathlib.Core.Bool.{Bool, true, false, not, ◌||◌}
use mathlib.Core.List.{List, [], ◌∷◌, ◌++◌}
use native.Mathlib.Omega.{arith}
use borrow.Author.Tests.{eq-eqb}
use lib.Dec.{eqb}
use lib.ListN.{length, take, drop, length-append}
use lib.Seq.{take_at, drop_at, drop-drop}
use Rattle.slices.specs.Slices.{any_below}
use Rattle.slices.proofs.Any.{any_first}
use Rattle.setting.specs.Refusal.{none, more}
use Rattle.setting.proofs.Refusals.{first_none, none_first, none_at}
use Rattle.packet.specs.Packets.{packet_length, slot, unfit, place_refusal, some_unfit_in}

pub may_stand : (pid : ℕ) (p : List ℕ) → place_refusal pid p ≡ 0 → unfit pid p ≡ false
unfolding place_refusal
may_stand pid p e = none_at (none_first ((1, not (eqb (length p) packet_length)) ∷ (12, unfit pid p) ∷ []) refl e) 1

pub may_not_stand : (pid : ℕ) (p : List ℕ) → length p ≡ packet_length → (place_refusal pid p ≡ 0 → ⊥) → unfit pid p ≡ true
unfolding place_refusal
may_not_stand pid p l h = unless_fit (unfit pid p) (λ e. h (first_none (more (ap not (eq-eqb (length p) packet_length l)) (more e none))))
  where
    unless_fit : (b : Bool) → (b ≡ false → ⊥) → b ≡ true
    unless_fit true fit = refl
    unless_fit false fit = absurd (fit refl)

-- a stream's first packet, and those behind it
pub unfit-first : (pid : ℕ) (p rest : List ℕ) → length p ≡ packet_length → some_unfit_in pid (p ++ rest) ≡ unfit pid p || some_unfit_in pid rest
unfolding some_unfit_in slot
unfit-first pid p rest l =
    let one : length (p ++ rest) / packet_length ≡ suc (length rest / packet_length) = omega (arith, length-append p rest) in
    rw (one, any_first (length rest / packet_length) (λ k. unfit pid (slot k (p ++ rest))))
    (ap₂ ◌||◌ (ap (unfit pid) (take_at p rest packet_length l)) (ap (any_below (length rest / packet_length)) (fun_ext behind)))
  where
    behind : (k : ℕ) → unfit pid (take packet_length (drop (packet_length * suc k) (p ++ rest))) ≡ unfit pid (take packet_length (drop (packet_length * k) rest))
    behind k =
        let more : packet_length * suc k ≡ packet_length + packet_length * k = omega arith in
        ap (λ (l : List ℕ). unfit pid (take packet_length l))
        (ap (λ (j : ℕ). drop j (p ++ rest)) more ∙ sym (drop-drop (packet_length * k) packet_length (p ++ rest)) ∙ ap (drop (packet_length * k)) (drop_at p rest packet_length l))
