-- A part that is lent whole, cut to its length, and comes back. Assumes nothing.
use Prim.Native.Nat.{ℕ}
use mathlib.Core.Path.{◌≡◌, ap, ◌∙◌}
use mathlib.Core.List.{List, ◌++◌, append-nil}
use native.Mathlib.Omega.{arith}
use lib.ListN.{length, drop_of_length-le}
use Rattle.slices.proofs.Front.{put}

pub all_lent : (n : ℕ) (part back : List ℕ) → length part ≡ n → put 0 n part back ≡ back
all_lent n part back e = ap (λ (l : List ℕ). back ++ l) (drop_of_length-le part {i = n} (omega arith)) ∙ append-nil back
