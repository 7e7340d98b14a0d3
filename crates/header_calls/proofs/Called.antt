-- What a call was handed that is not refused for its own arguments, and that only then it is not. Assumes nothing.
use Prim.Native.Nat.{ℕ}
use mathlib.Core.Path.{◌≡◌, refl, ap}
use mathlib.Core.Bool.{true, not}
use mathlib.Core.List.{[], ◌∷◌}
use lib.Dec.{eqb}
use borrow.Author.Tests.{eqb-true, eq-eqb, not-false}
use Rattle.setting.specs.Refusal.{none, more}
use Rattle.setting.specs.Rules.{pid_allowed}
use Rattle.setting.proofs.Refusals.{none_first, first_none, none_at}
use Rattle.header_layout.specs.Header.{header_length}
use Rattle.setting_bytes.specs.Kinds.{is_kind}
use Rattle.setting_bytes.specs.Settings.{setting_length}
use Rattle.header_calls.specs.Calls.{call_refused}

pub record Called (packet setting pid kind : ℕ) : Type 0 where
  pub packet_long : packet ≡ header_length
  pub setting_long : setting ≡ setting_length
  pub pid-allowed : pid_allowed pid ≡ true
  pub known_kind : is_kind kind ≡ true

module _ (packet setting pid kind : ℕ) where
  pub called : call_refused packet setting pid kind ≡ 0 → Called packet setting pid kind
  unfolding call_refused
  called e =
      let n = none_first ((1, not (eqb packet header_length)) ∷ (1, not (eqb setting setting_length)) ∷ (2, not (pid_allowed pid)) ∷ (17, not (is_kind kind)) ∷ []) refl e in
      record {
        packet_long = eqb-true packet header_length (not-false _ (none_at n 0));
        setting_long = eqb-true setting setting_length (not-false _ (none_at n 1));
        pid-allowed = not-false (pid_allowed pid) (none_at n 2);
        known_kind = not-false (is_kind kind) (none_at n 3);
      }

  pub right_call : Called packet setting pid kind → call_refused packet setting pid kind ≡ 0
  unfolding call_refused
  right_call c =
      first_none
      (more (ap not (eq-eqb packet header_length c.packet_long)) (more (ap not (eq-eqb setting setting_length c.setting_long))
      (more (ap not c.pid-allowed) (more (ap not c.known_kind) none))))
