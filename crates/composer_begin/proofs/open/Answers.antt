-- `open` meets its contract: the setting's bytes behind the open mark, and behind them no mark. Assumes nothing.
use mathlib.Core.Path.{◌≡◌, ap₂, ◌∙◌}
use mathlib.Core.List.{List, ◌∷◌, ◌++◌}
use borrow.Author.Rules.{rules}
use Prim.Native.Nat.{ℕ}
use lib.ListN.{length, take, replicate}
use Rattle.counters.specs.Counters.{last_slot}
use Rattle.setting_bytes.specs.Settings.{setting_length}
use Rattle.composer.specs.States.{open_at}
use Rattle.slices.proofs.Front.{copied-over}
use Rattle.composer_begin.proofs.Opened.{opened_parts}
use Rattle.composer_begin.proofs.open.Goals as goal

pub returns : goal.returns
returns c =
    let setting : c.copy.new.dst ≡ c.args.setting.now = c.copy.ensures ∙ copied-over _ _ (search rules) in
    let marks : c.fill.new.self ≡ replicate last_slot 0 = search rules in
    let setting_long : length c.copy.new.dst ≡ setting_length = search rules in
    let marks_long : length c.fill.new.self ≡ last_slot = search rules in
    opened_parts c.args.state.now c.copy.new.dst (search rules) setting_long c.fill.new.self marks_long
    ∙ ap₂ (λ (s : List ℕ) (m : List ℕ). take open_at c.args.state.now ++ (1 ∷ (s ++ m))) setting marks
