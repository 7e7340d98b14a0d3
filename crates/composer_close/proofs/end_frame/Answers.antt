-- `end_frame` meets its contract: what the header said, and zeros behind it. Assumes nothing.
use Prim.Native.Nat.{ℕ}
use mathlib.Core.Path.{◌≡◌, ap, ◌∙◌}
use mathlib.Core.List.{List, ◌++◌}
use borrow.Author.Rules.{rules}
use lib.ListN.{length, take, replicate}
use Rattle.slices.proofs.Front.{put}
use Rattle.setting_bytes.specs.Settings.{part, numbers_at}
use Rattle.setting_bytes.proofs.Parts.{length_part}
use Rattle.composer.specs.States.{counter_at, setting_at, open_at, open_length}
use Rattle.composer_close.proofs.Ending.{ended}
use Rattle.composer_close.proofs.end_frame.Goals as goal

pub returns : goal.returns
returns c =
    let state = c.args.state.now in
    let said = part setting_at numbers_at state in
    let zeros : c.fill.new.self ≡ replicate open_length 0 = search rules in
    let as_many : length c.fill.new.self ≡ open_length = search rules in
    ap (λ (l : List ℕ). put open_at open_length l c.fill.new.self) c.keep.ensures
    ∙ ended state said c.fill.new.self (search rules) (length_part setting_at numbers_at state (search rules)) as_many
    ∙ ap (λ (z : List ℕ). take counter_at state ++ (said ++ z)) zeros
