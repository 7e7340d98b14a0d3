-- What a call answers by the check of what it is lent that it stopped at. Assumes nothing.
use Prim.Native.Nat.{ℕ}
use mathlib.Core.Path.{◌≡◌, ap, ◌∙◌}
use mathlib.Core.Bool.{true, false, not}
use mathlib.Core.List.{List, ◌++◌}
use borrow.Author.Tests.{eq-eqb, ne_eqb}
use Rattle.setting.specs.Refusal.{Check, first_of}
use Rattle.setting.specs.Rules.{pid_allowed}
use Rattle.setting.proofs.Refusals.{answers, passed}
use Rattle.header_layout.specs.Header.{header_length, call_checks}

module _ (pid lent : ℕ) (rest : List Check) where
  -- 1
  pub wrong_length : (lent ≡ header_length → ⊥) → first_of (call_checks pid lent ++ rest) ≡ 1
  wrong_length h = answers 1 _ (ap not (ne_eqb lent header_length h))

  -- 2
  pub wrong_pid : lent ≡ header_length → pid_allowed pid ≡ false → first_of (call_checks pid lent ++ rest) ≡ 2
  wrong_pid h e = passed 1 _ (ap not (eq-eqb lent header_length h)) ∙ answers 2 _ (ap not e)

  pub right_call : lent ≡ header_length → pid_allowed pid ≡ true → first_of (call_checks pid lent ++ rest) ≡ first_of rest
  right_call h e = passed 1 _ (ap not (eq-eqb lent header_length h)) ∙ passed 2 _ (ap not e)
