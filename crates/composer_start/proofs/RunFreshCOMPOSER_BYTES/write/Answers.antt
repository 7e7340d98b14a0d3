-- A fresh run is written: five bytes over zeros. Assumes nothing.
use Prim.Native.Nat.{ℕ, ◌/◌, ◌%◌}
use mathlib.Core.Path.{◌≡◌, refl, ap, ◌∙◌}
use borrow.Author.Rules.{rules}
use native.Mathlib.Omega.{arith}
use lib.ListN.{length, get_or, replicate}
use Rattle.setting_bytes.specs.Kinds.{kind_of}
use Rattle.setting_bytes.specs.Words.{word_bytes}
use Rattle.composer.specs.States.{composer_length}
use Rattle.setting_bytes.proofs.KindsBack.{kind_same}
use Rattle.composer.proofs.Same.{fresh-bytes}
use Rattle.composer_start.proofs.RunFreshCOMPOSER_BYTES.write.Goals as goal

pub returns : goal.returns
unfolding word_bytes
returns c =
    let pid = c.args.pid in
    let long : length c.args.state.now ≡ composer_length = search rules in
    let high : get_or c.to_be_bytes.result 0 0 ≡ pid / 256 = rw c.to_be_bytes.ensures (omega arith) in
    let low : get_or c.to_be_bytes.result 1 0 ≡ pid % 256 = rw c.to_be_bytes.ensures (omega arith) in
    rw (fresh-bytes (kind_of c.args.kind) pid, kind_same c.args.kind c.requires, c.fill.ensures ∙ ap (λ (n : ℕ). replicate n 0) long, high, low) refl
