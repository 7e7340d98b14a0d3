-- The refusal of a call over a lent state, by whether that has its length. Assumes nothing.
use Prim.Native.Nat.{ℕ}
use mathlib.Core.Path.{◌≡◌, refl, sym, ◌∙◌}
use mathlib.Core.Bool.{Bool, true, false, cond}
use mathlib.Core.List.{List}
use native.Mathlib.Decide.{ℕ_discrete}
use native.Mathlib.Omega.{arith}
use borrow.Author.Tests.{eq-eqb, ne_eqb}
use lib.Dec.{eqb}
use lib.ListN.{length}
use Rattle.setting.specs.Refusal.{of_length}
use Rattle.setting.proofs.Refusals.{off_length}
use Rattle.receiver.specs.Bytes.{receiver_length}
use Rattle.receiver.specs.Calls.{lent_refusal}

module _ (state : List ℕ) (refusal : ℕ) {n : ℕ} where
  pub own_refusal : length state ≡ receiver_length → n ≡ lent_refusal state refusal → n ≡ refusal
  unfolding lent_refusal of_length
  own_refusal l e = rw (eq-eqb (length state) receiver_length l) at e

  pub other_refusal : (length state ≡ receiver_length → ⊥) → n ≡ lent_refusal state refusal → n ≡ 1
  unfolding lent_refusal of_length
  other_refusal h e = rw (ne_eqb (length state) receiver_length h) at e

  pub lent_accepted : n ≡ lent_refusal state refusal → n ≡ 0 → (length state ≡ receiver_length) × (refusal ≡ 0)
  lent_accepted e z = by_length (ℕ_discrete (length state) receiver_length)
    where
      by_length : Dec (length state ≡ receiver_length) → (length state ≡ receiver_length) × (refusal ≡ 0)
      by_length (yes l) = (l, sym (own_refusal l e) ∙ z)
      by_length (no d) = absurd (omega (arith, other_refusal d e, z))

-- a state of another length
pub no_length : (state : List ℕ) (refusal : ℕ) → (length state ≡ receiver_length → ⊥) → 1 ≡ lent_refusal state refusal
unfolding lent_refusal
no_length state refusal h = sym (off_length receiver_length (length state) refusal h)

-- where something else has a wrong length, that of the state does not matter
pub one_anyway : (state : List ℕ) (refusal : ℕ) → refusal ≡ 1 → 1 ≡ lent_refusal state refusal
unfolding lent_refusal of_length
one_anyway state refusal e = sym (by_test (eqb (length state) receiver_length))
  where
    by_test : (t : Bool) → cond t refusal 1 ≡ 1
    by_test true = e
    by_test false = refl
