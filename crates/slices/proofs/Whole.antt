-- What copying leaves of whole lists: over as many elements as there is room for. Assumes nothing.
use Prim.Native.Nat.{ℕ, ◌≤◌, min}
use mathlib.Core.Path.{◌≡◌}
use mathlib.Core.List.{List, ◌++◌}
use native.Mathlib.Omega.{arith}
use native.Mathlib.Decide.{dec_le}
use native.Mathlib.Nat.{le_refl}
use lib.ListN.{length, take, drop, drop_of_length-le}
use lib.Seq.{take_all, take-length}
use Rattle.slices.specs.Slices.{copied}

-- as many elements as the shorter of the two has: that is all that there is room for
pub all-copied : (into from : List ℕ) (i : ℕ) → i ≡ min (length from) (length into) → take i from ++ drop i into ≡ copied into from
unfolding copied
all-copied into from i e = by_length (dec_le (length from) (length into))
  where
    by_length : Dec (length from ≤ length into) → take i from ++ drop i into ≡ take (length into) from ++ drop (length from) into
    by_length (yes h) =
        let all : i ≡ length from = omega arith in
        rw (all, take-length, take_all (length into) from h)
    by_length (no h) =
        let all : i ≡ length into = omega arith in
        rw (all, drop_of_length-le into (le_refl (length into)), drop_of_length-le into {i = length from} (omega arith))
