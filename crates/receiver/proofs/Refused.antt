-- What every call asks of a state's bytes, test by test. Assumes nothing.
use Prim.Native.Nat.{ℕ, ◌≤◌, ◌<◌}
use mathlib.Core.Path.{◌≡◌, refl, sym, ap, ◌∙◌}
use mathlib.Core.Bool.{true, false, not}
use mathlib.Core.List.{List, ◌++◌}
use borrow.Author.Tests.{eq-eqb, lt-ltb, le-ltb}
use lib.ListN.{length, get_or}
use Rattle.setting.specs.declared.Kind.{Kind}
use Rattle.setting.specs.Refusal.{Check, of_length, first_of}
use Rattle.setting.specs.Rules.{pid_allowed, number_checks}
use Rattle.setting.specs.Size.{size_of, slots_of}
use Rattle.setting.proofs.Refusals.{answers, passed, none_first, onward, at_once}
use Rattle.setting_bytes.specs.Words.{word_at}
use Rattle.setting_bytes.specs.Kinds.{kinds, kind_of}
use Rattle.receiver.specs.Table.{stage_checks}
use Rattle.receiver.specs.Receiving.{receiver_checks}
use Rattle.receiver.specs.Bytes.{pid_at, kind_at, stage_at, counter_at, stored_at, receiver_length, stage_of, receiver_of}
use Rattle.receiver.specs.Calls.{lent_refusal, state_refused}
use Rattle.receiver.proofs.LentRefusal.{no_length}
use Rattle.receiver.proofs.ReceiverChecks.{stage-numbered}

module _ (b : List ℕ) where
  pub no_state : (length b ≡ receiver_length → ⊥) → 1 ≡ state_refused b
  unfolding state_refused
  no_state h = no_length b _ h

  module _ (l : length b ≡ receiver_length) where
    pub own : state_refused b ≡ first_of (receiver_checks (receiver_of b))
    unfolding state_refused lent_refusal of_length
    own = rw (eq-eqb (length b) receiver_length l) refl

    abbrev kind : Kind
    kind = kind_of (get_or b kind_at 0)

    -- what is asked of the slots' numbers, behind all else
    abbrev pub numbers_asked : List Check
    numbers_asked = number_checks (size_of kind) (receiver_of b).numbers ++ number_checks (size_of kind) (receiver_of b).before

    pub no_pid : pid_allowed (word_at pid_at b) ≡ false → state_refused b ≡ 2
    unfolding receiver_checks receiver_of
    no_pid p = own ∙ answers 2 _ (ap not p)

    module _ (p : pid_allowed (word_at pid_at b) ≡ true) where
      past_pid : state_refused b ≡ first_of (stage_checks (slots_of kind) (receiver_of b).stage ++ numbers_asked)
      unfolding receiver_checks receiver_of
      past_pid = own ∙ passed 2 _ (ap not p)

      pub no_kind : kinds ≤ get_or b kind_at 0 → state_refused b ≡ 17
      unfolding receiver_of stage_checks first_of
      no_kind h = past_pid ∙ rw (le-ltb (get_or b kind_at 0) kinds h) refl

      module _ (h : get_or b kind_at 0 < kinds) where
        abbrev stage : List Check
        stage = stage_checks (slots_of kind) (stage_of (get_or b stage_at 0) (get_or b counter_at 0) (get_or b stored_at 0))

        past_kind : state_refused b ≡ first_of (stage ++ numbers_asked)
        unfolding receiver_of
        past_kind = past_pid ∙ rw (lt-ltb (get_or b kind_at 0) kinds h) refl

        -- the stage is refused, or it is not and the numbers may be
        pub when_no_stage : {n : ℕ} → n ≡ first_of stage → (n ≡ 0 → ⊥) → n ≡ state_refused b
        when_no_stage e d = e ∙ sym (past_kind ∙ at_once stage numbers_asked (λ z. d (e ∙ z)))

        pub its_numbers : first_of stage ≡ 0 → state_refused b ≡ first_of numbers_asked
        its_numbers e = past_kind ∙ onward numbers_asked (none_first stage (stage-numbered (slots_of kind) _) e)
