-- `keep` meets its contract: the copied bytes are over those behind the kind. Assumes nothing.
use Prim.Native.Nat.{ℕ, ◌+◌}
use mathlib.Core.Path.{◌≡◌, sym, ap, ◌∙◌}
use mathlib.Core.List.{◌++◌, append_assoc}
use native.Mathlib.Omega.{arith}
use lib.ListN.{length, take, drop}
use Rattle.slices.specs.Slices.{over}
use Rattle.setting_bytes.specs.Settings.{part, numbers_at}
use Rattle.setting_bytes.proofs.Parts.{length_part}
use Rattle.composer.specs.States.{counter_at, setting_at}
use Rattle.composer_close.proofs.keep.Goals as goal

pub returns : goal.returns
unfolding over
returns c =
    let b = c.args.state.now in
    let said = part setting_at numbers_at b in
    let long : length said ≡ numbers_at = length_part setting_at numbers_at b (omega arith) in
    c.copy_within.ensures.after ∙ append_assoc (take counter_at b) said (drop (counter_at + numbers_at) b)
    ∙ ap (λ (n : ℕ). take counter_at b ++ (said ++ drop (counter_at + n) b)) (sym long)
