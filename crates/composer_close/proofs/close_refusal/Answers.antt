-- `close_refusal` meets its contract. Assumes nothing.
use Prim.Native.Nat.{ℕ}
use mathlib.Core.Path.{◌≡◌, sym, ◌∙◌}
use mathlib.Core.List.{List, ◌++◌}
use borrow.Author.Rules.{rules}
use lib.ListN.{length, get_or}
use Rattle.refusals.proofs.Refusals.{is_some_number}
use Rattle.setting.specs.declared.Kind.{Kind}
use Rattle.setting.specs.Size.{slots_of}
use Rattle.setting.specs.Refusal.{first_of, of_length}
use Rattle.setting.proofs.Refusals.{at_length}
use Rattle.setting_bytes.specs.Kinds.{kind_of}
use Rattle.composer.specs.Composing.{Composer, state_checks, open_checks, close_refusal}
use Rattle.composer.proofs.Refusals.{state_refused, state_passed}
use Rattle.composer.specs.States.{composer_length, kind_at, composer_of}
use Rattle.composer.proofs.There.{frame_off, frame_fits}
use Rattle.packet.specs.Packets.{frame_length}
use Rattle.composer_close.proofs.close_refusal.Goals as goal

module _ (state : List ℕ) (lent : ℕ) (long : length state ≡ composer_length) (k : Kind) (kind : k ≡ kind_of (get_or state kind_at 0)) {n : ℕ} (e : n ≡ frame_length (slots_of k)) where
  abbrev run : Composer
  run = composer_of state

  off : (lent ≡ n → ⊥) → 1 ≡ close_refusal run lent
  unfolding close_refusal
  off = frame_off state kind lent e _

  module _ (fits : lent ≡ n) where
    past : close_refusal run lent ≡ first_of (state_checks run ++ open_checks run)
    unfolding close_refusal
    past = frame_fits state kind lent e _ fits

    by_state : {m : ℕ} → m ≡ of_length composer_length (length state) (first_of (state_checks run)) → (m ≡ 0 → ⊥) → m ≡ close_refusal run lent
    by_state = state_refused run (length state) long (open_checks run) past

    by_frame : 0 ≡ of_length composer_length (length state) (first_of (state_checks run)) → {m : ℕ} → m ≡ of_length composer_length (length state) (first_of (open_checks run)) → m ≡ close_refusal run lent
    by_frame good told = told ∙ at_length _ _ _ long ∙ sym (state_passed run (length state) long (open_checks run) past good)

pub returns-then-lent-frame_bytes : goal.returns-then-lent-frame_bytes
returns-then-lent-frame_bytes c = search (rules, off)

pub returns-in_err-state_refusal : goal.returns-in_err-state_refusal
returns-in_err-state_refusal c = search (rules, by_state, is_some_number)

pub returns : goal.returns
returns c = search (rules, by_frame)
