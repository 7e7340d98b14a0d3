-- What a kind does not have, asked of bytes all at once. Assumes nothing.
use Prim.Native.Nat.{ℕ, ◌+◌, ◌≤◌, ◌<◌}
use mathlib.Core.Path.{◌≡◌, refl, sym, ap, ◌∙◌, subst}
use mathlib.Core.Bool.{Bool, true, false, cond}
use mathlib.Core.List.{List, [], ◌∷◌}
use native.Mathlib.Omega.{arith}
use borrow.Author.Tests.{lt-leb, leb-false}
use lib.Dec.{leb}
use lib.ListN.{length, get_or, take, drop, take-append-drop, drop_of_length-le}
use lib.Seq.{drop-cons, drop-drop, take-take, get_or-take, get_or-drop}
use Rattle.bits.specs.Fields.{Fit}
use Rattle.bits.proofs.Laws.{fit_get_d, fit_take, fit_append}
use Rattle.slices.specs.Slices.{some_at_least}
use Rattle.slices.proofs.Front.{drop-take}
use Rattle.setting.specs.declared.Kind.{Kind}
use Rattle.setting.specs.Setting.{private_bytes, auxiliary_bytes}
use Rattle.setting.specs.Refusal.{first_of, NoneHolds}
use Rattle.setting.specs.Rules.{absent_checks}
use Rattle.setting.proofs.Fields.{some_fit, fit_some}
use Rattle.setting.proofs.Refusals.{first_none, none_first, none_at}
use Rattle.setting_bytes.specs.Settings.{part, private_at, auxiliary_at, group_at, carriers_at, sequence_at, frames_at, position_at, setting_length, setting_from}
use Rattle.setting_checks.specs.Absent.{bonding_absent_in, absent_in}

-- what six rows of 17 answer
abbrev seventeen : (p q r s t u : Bool) → ℕ
seventeen p q r s t u = cond p 17 (cond q 17 (cond r 17 (cond s 17 (cond t 17 (cond u 17 0)))))

module _ (b : List ℕ) (long : length b ≡ setting_from auxiliary_at) where
  -- the five bytes behind the auxiliary information
  five : drop auxiliary_bytes b ≡ get_or b 28 0 ∷ get_or b 29 0 ∷ get_or b 30 0 ∷ get_or b 31 0 ∷ get_or b 32 0 ∷ []
  five =
      drop-cons b 28 0 (omega arith) ∙ ap (λ (l : List ℕ). get_or b 28 0 ∷ l)
      (drop-cons b 29 0 (omega arith) ∙ ap (λ (l : List ℕ). get_or b 29 0 ∷ l)
      (drop-cons b 30 0 (omega arith) ∙ ap (λ (l : List ℕ). get_or b 30 0 ∷ l)
      (drop-cons b 31 0 (omega arith) ∙ ap (λ (l : List ℕ). get_or b 31 0 ∷ l)
      (drop-cons b 32 0 (omega arith) ∙ ap (λ (l : List ℕ). get_or b 32 0 ∷ l) (let end : length b ≤ 33 = omega arith in drop_of_length-le b end)))))

  -- zeros alone: none of the rows holds
  zeros_none : some_at_least 1 b ≡ false → NoneHolds (bonding_absent_in b)
  zeros_none e =
      let f = fit_some 0 b e in
      NoneHolds.more (some_fit 0 (take auxiliary_bytes b) (fit_take auxiliary_bytes f))
      (NoneHolds.more (lt-leb 1 (get_or b 28 0) (fit_get_d f 28)) (NoneHolds.more (lt-leb 1 (get_or b 29 0) (fit_get_d f 29)) (NoneHolds.more (lt-leb 1 (get_or b 30 0) (fit_get_d f 30))
      (NoneHolds.more (lt-leb 1 (get_or b 31 0) (fit_get_d f 31)) (NoneHolds.more (lt-leb 1 (get_or b 32 0) (fit_get_d f 32)) NoneHolds.none)))))

  -- and the other way round
  none_zeros : NoneHolds (bonding_absent_in b) → some_at_least 1 b ≡ false
  none_zeros h =
      let rest : Fit 0 (get_or b 28 0 ∷ get_or b 29 0 ∷ get_or b 30 0 ∷ get_or b 31 0 ∷ get_or b 32 0 ∷ []) =
      Fit.more (leb-false 1 (get_or b 28 0) (none_at h 1)) (Fit.more (leb-false 1 (get_or b 29 0) (none_at h 2)) (Fit.more (leb-false 1 (get_or b 30 0) (none_at h 3))
      (Fit.more (leb-false 1 (get_or b 31 0) (none_at h 4)) (Fit.more (leb-false 1 (get_or b 32 0) (none_at h 5)) Fit.none)))) in
      some_fit 0 b (subst (Fit 0) (take-append-drop auxiliary_bytes b) (fit_append (fit_some 0 (take auxiliary_bytes b) (none_at h 0)) (subst (Fit 0) (sym five) rest)))

  pub zeros-answer : some_at_least 1 b ≡ false → first_of (bonding_absent_in b) ≡ 0
  zeros-answer e = first_none (zeros_none e)

  -- rows of 17 answer 17 or 0
  pub other_answer : some_at_least 1 b ≡ true → first_of (bonding_absent_in b) ≡ 17
  unfolding first_of
  other_answer e = by (some_at_least 1 (take auxiliary_bytes b)) (leb 1 (get_or b 28 0)) (leb 1 (get_or b 29 0)) (leb 1 (get_or b 30 0)) (leb 1 (get_or b 31 0)) (leb 1 (get_or b 32 0))
      (λ z. true_false (sym e ∙ none_zeros (none_first (bonding_absent_in b) refl z)))
    where
      true_false : true ≡ false → ⊥
      true_false p = subst (λ (t : Bool). cond t Unit ⊥) p tt

      by : (p q r s t u : Bool) → (seventeen p q r s t u ≡ 0 → ⊥) → seventeen p q r s t u ≡ 17
      by true q r s t u h = refl
      by false true r s t u h = refl
      by false false true s t u h = refl
      by false false false true t u h = refl
      by false false false false true u h = refl
      by false false false false false true h = refl
      by false false false false false false h = absurd (h refl)

-- the last bytes of a setting
pub absent_checks-in : (kind : Kind) (b : List ℕ) → length b ≡ setting_length
    → absent_in kind (part private_at (setting_from private_at) b)
    ≡ absent_checks kind (part private_at private_bytes b) (part auxiliary_at auxiliary_bytes b)
    (get_or b group_at 0) (get_or b carriers_at 0) (get_or b sequence_at 0) (get_or b frames_at 0) (get_or b position_at 0)
absent_checks-in kind b h =
    λ i. absent_checks kind (privates i) (auxiliaries i) (byte 159 (omega arith) i) (byte 160 (omega arith) i) (byte 161 (omega arith) i) (byte 162 (omega arith) i) (byte 163 (omega arith) i)
  where
    l : List ℕ
    l = drop private_at b

    privates : take private_bytes (take 164 l) ≡ take private_bytes l
    privates = take-take private_bytes 164 l (omega arith)

    auxiliaries : part private_bytes auxiliary_bytes (take 164 l) ≡ part auxiliary_at auxiliary_bytes b
    auxiliaries =
        ap (take auxiliary_bytes) (drop-take private_bytes 33 l) ∙ take-take auxiliary_bytes 33 (drop private_bytes l) (omega arith)
        ∙ ap (take auxiliary_bytes) (drop-drop private_bytes private_at b)

    byte : (k : ℕ) → k < 164 → get_or (take 164 (drop private_at b)) k 0 ≡ get_or b (private_at + k) 0
    byte k j = get_or-take 164 (drop private_at b) k 0 j ∙ get_or-drop private_at b k 0
