-- A state's bytes once its frame was closed, written part by part. Assumes nothing.
use Prim.Native.Nat.{ℕ}
use mathlib.Core.Path.{◌≡◌, refl, sym, ◌∙◌}
use mathlib.Core.List.{List, [], ◌++◌, append_assoc}
use native.Mathlib.Omega.{arith}
use lib.ListN.{length, take}
use Rattle.slices.specs.Slices.{over}
use Rattle.slices.proofs.Front.{put, put-over, front_none, front_kept, front-part, front-all}
use Rattle.setting_bytes.specs.Settings.{numbers_at}
use Rattle.composer.specs.States.{composer_length, counter_at, open_at, open_length}

-- what the header said, and z behind it, to the end
pub ended : (b said z : List ℕ) → length b ≡ composer_length → length said ≡ numbers_at → length z ≡ open_length
    → put open_at open_length (over counter_at said b) z ≡ take counter_at b ++ (said ++ z)
ended b said z long ls lz =
    let f₁ = front_kept b [] b 0 counter_at (front_none b) (omega arith) in
    let f₂ = front-part b (take counter_at b) _ said counter_at numbers_at f₁ ls in
    let f₃ = front-part b (take counter_at b ++ said) _ z open_at open_length f₂ lz in
    rw (sym (put-over counter_at numbers_at b {ys = said} {p = said} refl ls)) (front-all b (take counter_at b ++ said ++ z) _ composer_length f₃ (omega arith) ∙ append_assoc (take counter_at b) said z)
