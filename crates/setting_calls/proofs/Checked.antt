-- What a call answers that runs checks on a setting. Assumes nothing.
use Prim.Native.Nat.{ℕ}
use mathlib.Core.Path.{◌≡◌, refl, sym, ◌∙◌}
use mathlib.Core.Bool.{not}
use mathlib.Core.List.{List, [], ◌∷◌}
use borrow.Author.Tests.{ne_eqb, eqb-true, not-false}
use lib.Dec.{eqb}
use lib.ListN.{length}
use Rattle.setting.specs.declared.Kind.{Kind}
use Rattle.setting.specs.declared.Setting.{Setting}
use Rattle.setting.specs.Refusal.{Check, first_of, of_length}
use Rattle.setting.proofs.Refusals.{at_length, none_first, none_at}
use Rattle.setting_bytes.specs.Kinds.{is_kind, kind_of}
use Rattle.setting_bytes.specs.Settings.{setting_length, setting_of}
use Rattle.setting_calls.specs.Calls.{call_refused, checks_refused}

module _ (checks : Kind → Setting → List Check) (setting : List ℕ) (kind call : ℕ) (e : call ≡ call_refused (length setting) kind) where
  -- the call itself is refused
  pub when_call_refused : (call ≡ 0 → ⊥) → call ≡ checks_refused checks setting kind
  unfolding checks_refused
  when_call_refused h = rw (sym e, ne_eqb call 0 h)

  -- it is not: the checks decide
  pub then_checked : (k : Kind) (answer : ℕ) → call ≡ 0 → k ≡ kind_of kind → answer ≡ of_length setting_length (length setting) (first_of (checks k (setting_of setting))) → answer ≡ checks_refused checks setting kind
  unfolding checks_refused call_refused
  then_checked k answer none same told =
      let long = eqb-true _ _ (not-false _ (none_at (none_first ((1, not (eqb (length setting) setting_length)) ∷ (17, not (is_kind kind)) ∷ []) refl (sym e ∙ none)) 0)) in
      rw (sym e ∙ none, sym same) (told ∙ at_length _ _ _ long)
