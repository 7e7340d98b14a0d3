-- A stream's number that lies within limits, or outside. Assumes nothing.
use Prim.Native.Nat.{ℕ, ◌≤◌}
use mathlib.Core.Path.{◌≡◌, refl}
use mathlib.Core.Bool.{Bool, true, false, ◌&&◌}
use native.Mathlib.Omega.{arith}
use borrow.Author.Tests.{leb-true, lt-leb, leb-false}
use lib.Dec.{leb}
use Rattle.slices.proofs.Any.{both}
use Rattle.counters.specs.Counters.{within}

pub at_least : (first last n : ℕ) → within first last n ≡ true → first ≤ n
at_least first last n e = leb-true first n (both (leb first n) (leb n last) e).0

-- what is outside is also outside closer limits
pub outside : (first last closer n : ℕ) → closer ≤ last → within first last n ≡ false → within first closer n ≡ false
outside first last closer n h e = either (leb first n) e
  where
    either : (b : Bool) → b && leb n last ≡ false → b && leb n closer ≡ false
    either true f = let l = leb-false n last f in lt-leb n closer (omega arith)
    either false f = refl
