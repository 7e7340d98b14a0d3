-- What a write leaves by its refusal, and when it has none. Assumes nothing.
use Prim.Native.Nat.{ℕ}
use mathlib.Core.Path.{◌≡◌, sym, ap}
use mathlib.Core.Bool.{not}
use mathlib.Core.List.{List}
use lib.ListN.{length}
use borrow.Author.Tests.{eq-eqb, ne_eqb}
use Rattle.setting.specs.declared.Kind.{Kind}
use Rattle.setting.specs.declared.Setting.{Setting}
use Rattle.setting.specs.Refusal.{more}
use Rattle.setting.proofs.Refusals.{first_none}
use Rattle.header_layout.specs.Header.{header_length, header}
use Rattle.header_layout.specs.Meets.{MeetsRules}
use Rattle.header_write.specs.Writing.{write_refusal, written}

module _ (kind : Kind) (pid : ℕ) (s : Setting) (buffer : List ℕ) where
  -- a refusal leaves the buffer
  pub left : {n : ℕ} → write_refusal kind pid s (length buffer) ≡ n → (n ≡ 0 → ⊥) → buffer ≡ written kind pid s buffer
  unfolding written
  left e h = sym (rw (e, ne_eqb _ 0 h))

  pub made : write_refusal kind pid s (length buffer) ≡ 0 → header kind pid s ≡ written kind pid s buffer
  unfolding written
  made e = sym (rw e)

-- a setting that meets the rules is not refused
pub not_refused : (kind : Kind) (pid lent : ℕ) (s : Setting) → MeetsRules kind pid s → lent ≡ header_length → write_refusal kind pid s lent ≡ 0
unfolding write_refusal
not_refused kind pid lent s m e = first_none (more (ap not (eq-eqb lent header_length e)) (more (ap not m.pid-allowed) m.fields))
