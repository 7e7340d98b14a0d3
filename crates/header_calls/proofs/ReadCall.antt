-- What a read call answers and leaves: by its own refusal, or by what the reader answers. Assumes nothing.
use Prim.Native.Nat.{ℕ}
use mathlib.Core.Path.{◌≡◌, refl, sym, ap, ◌∙◌}
use mathlib.Core.List.{List}
use native.Mathlib.Omega.{arith}
use borrow.Author.Tests.{ne_eqb}
use lib.ListN.{length}
use Rattle.setting.specs.Refusal.{leaves}
use Rattle.setting.proofs.Refusals.{never_first}
use Rattle.setting_bytes.specs.Kinds.{kind_of}
use Rattle.setting_bytes.specs.Settings.{setting_length}
use Rattle.header_check.specs.OnPaper.{Refusal}
use Rattle.header_check.specs.Checking.{refusal_by}
use Rattle.header_read.specs.Reader.{into_refused, into_memory}
use Rattle.header_read.proofs.Calls.{refusal_into}
use Rattle.header_calls.specs.Calls.{call_refused, then_refused, read_refused, read_remainder, read_memory}

-- the call's own arguments are never refused by 7
pub not_of_call : (packet setting pid kind : ℕ) → call_refused packet setting pid kind ≡ 7 → ⊥
unfolding call_refused
not_of_call packet setting pid kind e = never_first 7 _ (omega arith) refl e

module _ (packet : List ℕ) (pid kind : ℕ) (setting : List ℕ) where
  -- what is asked of the answer, of the remainder and of the bytes then
  abbrev pub Answers : ℕ → ℕ → List ℕ → Type 0
  Answers n remainder after =
      (n ≡ read_refused packet pid kind setting)
      × ((remainder ≡ read_remainder packet pid kind setting) × (after ≡ read_memory packet pid kind setting))

  pub when_call_refused : {n : ℕ} → n ≡ call_refused (length packet) (length setting) pid kind → (n ≡ 0 → ⊥) → Answers n 0 setting
  unfolding read_refused read_remainder read_memory then_refused leaves refusal_by
  when_call_refused {n} e h =
      let stops = ne_eqb n 0 h in
      let seven = ne_eqb n 7 (λ z. not_of_call (length packet) (length setting) pid kind (sym e ∙ z)) in
      rw (sym e, stops, stops, seven) (refl, (refl, refl))

  -- bytes of a setting's length are refused for the packet alone
  pub call_granted : call_refused (length packet) (length setting) pid kind ≡ 0 → length setting ≡ setting_length → {r : Refusal} {after : List ℕ}
      → r ≡ into_refused (kind_of kind) pid packet setting → after ≡ into_memory (kind_of kind) pid packet setting → Answers r.number r.remainder after
  unfolding read_refused read_remainder read_memory then_refused into_memory refusal_by
  call_granted none long e m =
      let shown = e ∙ refusal_into (kind_of kind) pid packet setting long in
      let number = ap (λ (x : Refusal). x.number) (refusal_into (kind_of kind) pid packet setting long) in
      rw none (ap (λ (x : Refusal). x.number) shown, (ap (λ (x : Refusal). x.remainder) shown, rw number at m))
