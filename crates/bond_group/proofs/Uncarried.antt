-- A header that does not carry the stream has no bonded slot, and so has a group of which no header carries it. Assumes nothing.
use Prim.Native.Nat.{ℕ, zero, suc, ◌+◌}
use mathlib.Core.Path.{◌≡◌, refl, sym, ap, ap₂, ◌∙◌}
use mathlib.Core.Bool.{Bool, true, false, ◌||◌, true≢false}
use mathlib.Core.List.{List}
use borrow.Author.Tests.{eqb-true, not-false}
use lib.Count.{ones}
use Rattle.counters.specs.Counters.{first_slot, last_slot}
use Rattle.slot_bits.specs.Bits.{as_bits, slots_as_bits}
use Rattle.setting.specs.declared.Setting.{Setting}
use Rattle.bond_group.specs.declared.Bond.{Bond}
use Rattle.bond_group.specs.Group.{said, number_of, carries, has_number, bonded_slot}
use Rattle.bond_group.specs.Plan.{passing, marks, nothing_seen, seen, plan_after}

-- the numbers and the stream's are those of the setting that the packet says
pub marked : (b : Bond) (s : Setting) {ns : List ℕ} {n : ℕ} → ns ≡ s.relative_ts_number → n ≡ number_of b s → slots_as_bits (passing (has_number ns n) first_slot last_slot) ≡ marks b s
unfolding marks bonded_slot
marked b s same number = ap₂ (λ (ns : List ℕ) (n : ℕ). slots_as_bits (passing (has_number ns n) first_slot last_slot)) same number

-- no slot has the number 0
pub no_marks : (ns : List ℕ) → slots_as_bits (passing (has_number ns 0) first_slot last_slot) ≡ 0
unfolding slots_as_bits as_bits passing
no_marks ns = refl

pub no_ones : ones 0 ≡ 0
unfolding ones
no_ones = refl

-- of a header that does not carry it
module _ (b : Bond) (s : Setting) (h : carries b s ≡ false) where
  number_0 : number_of b s ≡ 0
  unfolding carries
  number_0 = eqb-true (number_of b s) 0 (not-false _ h)

  none_bonded : ones (marks b s) ≡ 0
  none_bonded = ap ones (sym (sym (no_marks s.relative_ts_number) ∙ marked b s refl (sym number_0))) ∙ no_ones

neither : (x y : Bool) → x || y ≡ false → (x ≡ false) × (y ≡ false)
neither true y e = absurd (true≢false e)
neither false y e = (refl, e)

pub uncarried : (b : Bond) (group : List ℕ) (j : ℕ) → (plan_after b group j).is_carried ≡ false → (plan_after b group j).packets ≡ 0
unfolding plan_after seen nothing_seen
uncarried b group zero e = refl
uncarried b group (suc j) e =
    let both = neither (plan_after b group j).is_carried (carries b (said group j)) e in
    ap₂ ◌+◌ (uncarried b group j both.0) (none_bonded b (said group j) both.1)
