-- What a close that was not refused had: the facts behind its checks. Assumes nothing.
use Prim.Native.Nat.{ℕ}
use mathlib.Core.Path.{◌≡◌}
use mathlib.Core.List.{◌∷◌, ◌++◌}
use Rattle.setting.proofs.Refusals.{none_first, none_before, none_behind, numbered_append}
use Rattle.setting.specs.Size.{slots_of}
use Rattle.packet.specs.Packets.{frame_length}
use Rattle.composer.specs.Composing.{Composer, state_checks, length_check, open_checks, close_refusal}
use Rattle.composer.proofs.Answers.{frame_lent}
use Rattle.composer.proofs.Refusals.{state_numbered, open_numbered}
use Rattle.composer.proofs.Passed.{none_drop, Passes, passes}

pub record ClosePassed (c : Composer) (lent : ℕ) : Type 0 where
  pub long : lent ≡ frame_length (slots_of c.kind)
  pub open_state : Passes c

pub close_passed : (c : Composer) (lent : ℕ) → close_refusal c lent ≡ 0 → ClosePassed c lent
unfolding close_refusal
close_passed c lent e =
    let h = none_first (length_check c lent ∷ (state_checks c ++ open_checks c)) (numbered_append (state_checks c) (open_checks c) (state_numbered c) (open_numbered c)) e in
    record {
      long = frame_lent c lent _ e;
      open_state = passes c (none_before (state_checks c) (open_checks c) (none_drop h 1)) (none_behind (state_checks c) (none_drop h 1));
    }
