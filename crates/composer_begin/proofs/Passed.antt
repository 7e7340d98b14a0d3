-- What a begin that was not refused had. Assumes nothing.
use Prim.Native.Nat.{ℕ, ◌^◌, ◌<◌}
use mathlib.Core.Path.{◌≡◌, sym, ap, ◌∙◌}
use mathlib.Core.Bool.{not}
use mathlib.Core.List.{List, ◌++◌}
use native.Mathlib.Decide.{ℕ_discrete}
use borrow.Author.Tests.{eq-eqb, leb-false}
use Rattle.setting.specs.Refusal.{Check, first_of}
use Rattle.setting.proofs.Refusals.{passed, at_once, none_at}
use Rattle.setting.specs.declared.Setting.{Setting}
use Rattle.setting.specs.Size.{slots_of}
use Rattle.packet.specs.Packets.{frame_length}
use Rattle.composer.specs.Composing.{Composer, state_checks, begin_refusal}
use Rattle.composer.proofs.Answers.{frame_lent}
use Rattle.composer.proofs.Refusals.{state_none}

pub begin_passed : (c : Composer) (s : Setting) (lent : ℕ) → begin_refusal c s lent ≡ 0 → lent ≡ frame_length (slots_of c.kind)
unfolding begin_refusal
begin_passed c s lent e = frame_lent c lent _ e

-- checks that do not answer before others do not answer
front_none : (cs ds : List Check) → first_of (cs ++ ds) ≡ 0 → first_of cs ≡ 0
front_none cs ds e = either (ℕ_discrete (first_of cs) 0)
  where
    either : Dec (first_of cs ≡ 0) → first_of cs ≡ 0
    either (yes z) = z
    either (no h) = absurd (h (sym (at_once cs ds h) ∙ e))

-- and the counter of its state
pub begin_counter : (c : Composer) (s : Setting) (lent : ℕ) → begin_refusal c s lent ≡ 0 → c.counter < 16
unfolding begin_refusal state_checks
begin_counter c s lent e =
    let behind = sym (passed 1 _ (ap not (eq-eqb lent (frame_length (slots_of c.kind)) (begin_passed c s lent e)))) ∙ e in
    let none = state_none c (front_none (state_checks c) _ behind) in
    leb-false (2 ^ 4) c.counter (none_at none 1)
