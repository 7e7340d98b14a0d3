-- How many frames stand before a carrier's in a group. Assumes nothing.
use Prim.Native.Nat.{ℕ, zero, suc, ◌+◌, ◌*◌, ◌≤◌, ◌<◌}
use mathlib.Core.Path.{◌≡◌, refl, ap}
use mathlib.Core.List.{List, [], ◌∷◌}
use native.Mathlib.Omega.{arith}
use lib.ListN.{get_or, set}
use Rattle.counters.specs.Counters.{last_position}
use Rattle.bond_places.specs.Walk.{frames_before}

-- those of one carrier more
pub frames-next : (fs : List ℕ) (k : ℕ) → frames_before fs (suc k) ≡ frames_before fs k + get_or fs k 0
unfolding frames_before
frames-next [] zero = refl
frames-next [] (suc k) = refl
frames-next (f ∷ fs) zero = omega arith
frames-next (f ∷ fs) (suc k) = let e = frames-next fs k in omega arith

-- they do not change with a later carrier
pub frames-set : (fs : List ℕ) (i k v : ℕ) → k ≤ i → frames_before (set fs i v) k ≡ frames_before fs k
unfolding frames_before
frames-set fs i zero v h = refl
frames-set [] i (suc k) v h = refl
frames-set (f ∷ fs) zero (suc k) v h = absurd (omega arith)
frames-set (f ∷ fs) (suc i) (suc k) v h = ap (λ (n : ℕ). f + n) (frames-set fs i k v (omega arith))

-- at most four for each
pub frames_few : (fs : List ℕ) (k : ℕ) → ((i : ℕ) → get_or fs i 0 ≤ last_position) → frames_before fs k ≤ last_position * k
unfolding frames_before
frames_few fs zero h = omega arith
frames_few fs (suc k) h = let e = frames-next fs k in let l = frames_few fs k h in let s = h k in omega arith

-- a carrier's frames are among all
pub frames-within : (frames : List ℕ) (k c : ℕ) → k < c → frames_before frames k + get_or frames k 0 ≤ frames_before frames c
unfolding frames_before
frames-within frames k zero h = absurd (omega arith)
frames-within [] zero (suc c) h = omega arith
frames-within [] (suc k) (suc c) h = omega arith
frames-within (f ∷ fs) zero (suc c) h = omega arith
frames-within (f ∷ fs) (suc k) (suc c) h = let below = frames-within fs k c (omega arith) in omega arith
