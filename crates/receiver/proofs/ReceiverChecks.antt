-- Laws of the receiver's checks. Assumes nothing.
use Prim.Native.Nat.{ℕ}
use mathlib.Core.Path.{◌≡◌, refl}
use mathlib.Core.Bool.{true}
use mathlib.Core.List.{◌++◌}
use Rattle.setting.proofs.Refusals.{numbered, numbered_append}
use Rattle.setting.specs.Rules.{number_checks}
use Rattle.setting.specs.Size.{size_of, slots_of}
use Rattle.receiver.specs.declared.Stage.{Stage}
use Rattle.receiver.specs.Table.{stage_checks}
use Rattle.receiver.specs.Receiving.{Receiver, receiver_checks}

-- no check of a part has the number 0: where it answers 0, none holds

pub stage-numbered : (slots : ℕ) (stage : Stage) → numbered (stage_checks slots stage) ≡ true
unfolding stage_checks
stage-numbered slots Stage.Waiting = refl
stage-numbered slots (Stage.Open from k) = refl
stage-numbered slots (Stage.Ready from) = refl

pub receiver_numbered : (c : Receiver) → numbered (receiver_checks c) ≡ true
unfolding receiver_checks
receiver_numbered c =
    numbered_append (stage_checks (slots_of c.kind) c.stage) (number_checks (size_of c.kind) c.numbers ++ number_checks (size_of c.kind) c.before)
    (stage-numbered (slots_of c.kind) c.stage) refl
