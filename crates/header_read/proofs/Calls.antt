-- What a read answers and leaves by its refusal. Assumes nothing.
use Prim.Native.Nat.{ℕ}
use mathlib.Core.Path.{◌≡◌, refl, sym, ap, ◌∙◌}
use mathlib.Core.Bool.{cond}
use mathlib.Core.List.{List}
use lib.Dec.{eqb}
use lib.ListN.{length}
use borrow.Author.Tests.{eq-eqb, ne_eqb}
use Rattle.setting.specs.declared.Kind.{Kind}
use Rattle.setting.specs.Setting.{blank}
use Rattle.setting.specs.Refusal.{of_length, leaves}
use Rattle.setting_bytes.specs.Settings.{setting_length, setting_bytes, setting_of}
use Rattle.setting_bytes.proofs.Back.{back}
use Rattle.header_layout.specs.Header.{reading}
use Rattle.header_read.specs.Reader.{Reading}
use Rattle.header_check.specs.Checking.{read_refusal, bare, refusal_by}
use Rattle.header_read.specs.Reader.{read_of, into_refused, into_memory}
use Rattle.header_read.proofs.Coded.{reading-long}

module _ (kind : Kind) (pid : ℕ) (p : List ℕ) where
  pub number_is : read_refusal kind pid p ≡ (read_of kind pid p).refusal.number
  unfolding read_of refusal_by
  number_is = refl

  -- a refusal answers zeros beside it
  pub refused : (read_refusal kind pid p ≡ 0 → ⊥) → (r : Reading) → r.refusal ≡ refusal_by (read_refusal kind pid p) p → r.setting ≡ blank → r ≡ read_of kind pid p
  unfolding read_of
  refused h r f g =
      let zeros : cond (eqb (read_refusal kind pid p) 0) (reading kind p) blank ≡ blank = rw (ne_eqb _ 0 h) in
      λ i. record { refusal = f i; setting = (g ∙ sym zeros) i }

  pub accepted : read_refusal kind pid p ≡ 0 → (r : Reading) → r.refusal ≡ refusal_by (read_refusal kind pid p) p → r.setting ≡ reading kind p → r ≡ read_of kind pid p
  unfolding read_of
  accepted e r f g =
      let said : cond (eqb (read_refusal kind pid p) 0) (reading kind p) blank ≡ reading kind p = rw e in
      λ i. record { refusal = f i; setting = (g ∙ sym said) i }

  -- bytes of any other length than a setting's are refused and stay
  pub other_length : (lent : List ℕ) → (length lent ≡ setting_length → ⊥) → (bare 1 ≡ into_refused kind pid p lent) × (lent ≡ into_memory kind pid p lent)
  unfolding into_refused into_memory of_length leaves refusal_by
  other_length lent h = rw (ne_eqb (length lent) setting_length h) (refl, refl)

-- bytes of a setting's length are refused for the packet alone
module _ (kind : Kind) (pid : ℕ) (p lent : List ℕ) (long : length lent ≡ setting_length) where
  pub refusal_into : into_refused kind pid p lent ≡ refusal_by (read_refusal kind pid p) p
  unfolding into_refused of_length
  refusal_into = rw (eq-eqb (length lent) setting_length long)

  pub when_refused : (read_refusal kind pid p ≡ 0 → ⊥) → into_memory kind pid p lent ≡ lent
  unfolding into_memory leaves refusal_by
  when_refused h = rw (refusal_into, ne_eqb (read_refusal kind pid p) 0 h)

  pub written_by : read_refusal kind pid p ≡ 0 → into_memory kind pid p lent ≡ setting_bytes (reading kind p)
  unfolding into_memory leaves read_of refusal_by
  written_by e = rw (refusal_into, e)

  -- and say what the packet says
  pub when_accepted : read_refusal kind pid p ≡ 0 → setting_of (into_memory kind pid p lent) ≡ reading kind p
  when_accepted e = ap setting_of (written_by e) ∙ back (reading kind p) (reading-long kind p)
