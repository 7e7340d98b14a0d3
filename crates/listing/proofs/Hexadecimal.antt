-- The fewest digits that hold a number of 32 bits, if not less than eight, are eight. Assumes nothing.
use Prim.Native.Nat.{ℕ, ◌-◌, ◌^◌, ◌≤◌, ◌<◌}
use mathlib.Core.Path.{◌≡◌}
use native.Mathlib.Omega.{arith}
use native.Mathlib.Decide.{dec_le}
use native.Mathlib.Nat.{pow-le-pow_right}
use Rattle.io.specs.Digits.{IsDigitCount}

pub eight : (k n : ℕ) → n < 2 ^ 32 → IsDigitCount 16 8 n k → k ≡ 8
eight k n h f = few (dec_le k 8)
  where
    few : Dec (k ≤ 8) → k ≡ 8
    few (yes l) = let g = f.0 in omega arith
    few (no g) =
        let high : 16 ^ 8 ≤ 16 ^ (k - 1) = pow-le-pow_right {n = 16} (omega arith) {i = 8} {j = k - 1} (omega arith) in
        let low : 16 ^ (k - 1) ≤ n = f.2 (omega arith) in
        absurd (omega arith)
