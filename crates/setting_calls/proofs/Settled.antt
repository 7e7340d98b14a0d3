-- A call that is not refused was lent a setting of the right length. Assumes nothing.
use Prim.Native.Nat.{ℕ}
use mathlib.Core.Path.{◌≡◌, refl}
use mathlib.Core.Bool.{not}
use mathlib.Core.List.{List, [], ◌∷◌}
use lib.Dec.{eqb}
use borrow.Author.Tests.{eqb-true, not-false}
use Rattle.setting.specs.Refusal.{Check, NoneHolds, more}
use Rattle.setting.proofs.Refusals.{none_first}
use Rattle.setting_bytes.specs.Kinds.{is_kind}
use Rattle.setting_bytes.specs.Settings.{setting_length}
use Rattle.setting_calls.specs.Calls.{call_refused}

first : {s : ℕ} {cs : List Check} → NoneHolds ((1, not (eqb s setting_length)) ∷ cs) → s ≡ setting_length
first {s} (more h _) = eqb-true s setting_length (not-false _ h)

pub settled : (setting kind : ℕ) → call_refused setting kind ≡ 0 → setting ≡ setting_length
unfolding call_refused
settled setting kind e = first (none_first ((1, not (eqb setting setting_length)) ∷ (17, not (is_kind kind)) ∷ []) refl e)
