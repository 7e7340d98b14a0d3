-- What sort of packet comes, by whether it may stand in a slot and what the reader says of it. Assumes nothing.
use Prim.Native.Nat.{ℕ}
use mathlib.Core.Path.{◌≡◌, refl, sym, ap, ◌∙◌}
use mathlib.Core.Bool.{Bool, true, false, cond}
use mathlib.Core.List.{List}
use borrow.Author.Tests.{eq-eqb, ne_eqb}
use lib.Dec.{eqb}
use Rattle.setting.specs.declared.Kind.{Kind}
use Rattle.header_check.specs.OnPaper.{Checked}
use Rattle.header_layout.specs.Header.{reading}
use Rattle.header_check.specs.OnPaper.{Refusal}
use Rattle.header_check.specs.Checking.{read_refusal, parts_of, parts_beside, checked_of}
use Rattle.header_check.proofs.Asked.{refusal-shown, refusal_is}
use Rattle.packet.specs.Packets.{unfit}
use Rattle.receiver.specs.Table.{good, broken, other}
use Rattle.receiver.specs.declared.Stage.{Stage}
use Rattle.receiver.specs.Arriving.{shown_remainder, sort_of, store_after}
use Rattle.receiver.proofs.Sorts.{not_good}

no_other : (b : Bool) (r slots : ℕ) (stage : Stage) (p store : List ℕ) → store_after slots stage (cond b good (broken r)) p store ≡ store
unfolding store_after
no_other true r slots stage p store = refl
no_other false r slots stage p store = refl

module _ (kind : Kind) (pid : ℕ) (p : List ℕ) where
  pub other_sort : unfit pid p ≡ false → sort_of kind pid p ≡ other
  unfolding sort_of
  other_sort e = rw (ne_eqb (read_refusal kind pid p) 0 (not_good kind pid p e), e)

  pub broken_sort : unfit pid p ≡ true → (read_refusal kind pid p ≡ 0 → ⊥) → sort_of kind pid p ≡ broken (shown_remainder kind pid p)
  unfolding sort_of
  broken_sort e h = rw (ne_eqb (read_refusal kind pid p) 0 h, e)

  pub good_sort : read_refusal kind pid p ≡ 0 → sort_of kind pid p ≡ good
  unfolding sort_of
  good_sort r = rw (eq-eqb (read_refusal kind pid p) 0 r)

  -- what the check says
  module _ {r : Checked} (e : r ≡ checked_of kind pid p) where
    pub checked-refusal : r.refusal.number ≡ read_refusal kind pid p
    checked-refusal = sym (refusal_is kind pid p r e)

    pub checked_remainder : r.refusal.remainder ≡ shown_remainder kind pid p
    checked_remainder = ap (λ (t : Refusal). t.remainder) (refusal-shown kind pid p r e)

    pub checked_counter : read_refusal kind pid p ≡ 0 → r.continuity_counter ≡ (reading kind p).continuity_counter
    unfolding checked_of parts_beside parts_of
    checked_counter z = ap (λ (t : Checked). t.continuity_counter) e ∙ rw (eq-eqb (read_refusal kind pid p) 0 z) refl

  -- a packet that may stand in no slot is not stored
  pub not_stored : unfit pid p ≡ true → (slots : ℕ) (stage : Stage) (store : List ℕ) → store_after slots stage (sort_of kind pid p) p store ≡ store
  unfolding sort_of
  not_stored u slots stage store = rw u (no_other (eqb (read_refusal kind pid p) 0) (shown_remainder kind pid p) slots stage p store)
