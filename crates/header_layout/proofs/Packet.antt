-- What the first bytes of a packet show, and the checks of 3 to 7 on them. Assumes nothing.
use Prim.Native.Nat.{ℕ, ◌/◌, ◌%◌}
use mathlib.Core.Path.{◌≡◌, refl, sym, ap, ◌∙◌}
use mathlib.Core.Bool.{true, false, not, decide}
use mathlib.Core.List.{List}
use native.Mathlib.Omega.{arith}
use borrow.Author.Tests.{eq-eqb, ne_eqb}
use lib.Dec.{eqb}
use lib.ListN.{length, get_or}
use Rattle.bits.specs.Fields.{Fit, cut}
use Rattle.bits.proofs.Laws.{fit_get_d}
use Rattle.setting.specs.Refusal.{first_of, NoneHolds}
use Rattle.setting.proofs.Refusals.{none_first}
use Rattle.header_layout.specs.Rows.{place, row_at}
use Rattle.header_layout.specs.Layout.{Field, start_table, row_with}
use Rattle.header_layout.specs.Header.{header_length, start_value, packet_checks}
use Rattle.header_layout.proofs.Cut.{byte_field, word_field, word_at}

-- a test by the number that a field is seen to have
pub differs : {v x : ℕ} (n : ℕ) → v ≡ x → (x ≡ n → ⊥) → not (eqb v n) ≡ true
differs {v} n e h = ap not (ne_eqb v n (λ d. h (sym e ∙ d)))

pub agrees : {v x : ℕ} (n : ℕ) → v ≡ x → x ≡ n → not (eqb v n) ≡ false
agrees {v} n e h = ap not (eq-eqb v n (e ∙ h))

module _ (p : List ℕ) (f : Fit 8 p) (l : length p ≡ header_length) where
  pub reads_sync_byte : start_value p Field.sync_byte_field ≡ get_or p 0 0
  unfolding start_table row_with decide row_at place cut
  reads_sync_byte = byte_field p 0 0 8 0 (omega arith) refl ∙ omega (arith, fit_get_d f 0)

  pub zeros : start_value p Field.zeros ≡ get_or p 1 0 / 32
  unfolding start_table row_with decide row_at place cut
  zeros = byte_field p 1 0 3 5 (omega arith) refl ∙ omega (arith, fit_get_d f 1)

  pub header-pid : start_value p Field.header-pid ≡ word_at p 1 % 8192
  unfolding start_table row_with decide row_at place cut
  header-pid = word_field p 1 3 13 0 f (omega arith) refl ∙ omega arith

  pub one : start_value p Field.payload ≡ get_or p 3 0 / 16
  unfolding start_table row_with decide row_at place cut
  one = byte_field p 3 0 4 4 (omega arith) refl ∙ omega (arith, fit_get_d f 3)

  pub reads_tsmf_sync : start_value p Field.tsmf_sync_field ≡ word_at p 4 % 8192
  unfolding start_table row_with decide row_at place cut
  reads_tsmf_sync = word_field p 4 3 13 0 f (omega arith) refl ∙ omega arith

pub packet_none : (pid : ℕ) (p : List ℕ) → first_of (packet_checks pid p) ≡ 0 → NoneHolds (packet_checks pid p)
unfolding packet_checks
packet_none pid p e = none_first (packet_checks pid p) refl e
