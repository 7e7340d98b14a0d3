-- A plan with zeros behind the last slot of its kind: the slots carry what they do without these. Assumes nothing.
use Prim.Native.Nat.{ℕ, zero, suc, ◌+◌, ◌-◌, ◌/◌, ◌≤◌}
use mathlib.Core.Path.{◌≡◌, refl, sym, ap, ap₂, ◌∙◌}
use mathlib.Core.Bool.{Bool, true, false, cond, not, ◌&&◌, ◌||◌}
use mathlib.Core.List.{List, [], ◌∷◌, ◌++◌, zip_with}
use native.Mathlib.Nat.{sub-zero}
use native.Mathlib.Omega.{arith}
use borrow.Author.Tests.{ne_eqb, le-leb}
use lib.Arith.{lt-one}
use lib.Dec.{eqb}
use lib.ListN.{length, take, drop, replicate}
use Rattle.bits.specs.Fields.{Fit, none, more}
use Rattle.setting.specs.Size.{resized}
use Rattle.setting.specs.Rules.{some_behind}
use Rattle.setting.proofs.Fields.{fit_some}
use Rattle.packet.specs.Packets.{packet_length, unfit}
use Rattle.composer.specs.Slots.{empty_for, first_slots, filled_by, slots_with}
use Rattle.composer.proofs.Slots.{slots-over}
use Rattle.receiver.specs.Store.{numbered, slots_for}
use Rattle.runs.specs.Work.{numbers_filled}
use Rattle.runs.proofs.Filled.{marks_filled, unfit_filled}
use Rattle.runs.proofs.Carried.{by_slot, length-marks}

-- ---- zeros behind

all-zeros : {ns : List ℕ} → Fit 0 ns → ns ≡ replicate (length ns) 0
all-zeros none = refl
all-zeros (more h f) = ap₂ (λ (x : ℕ) (l : List ℕ). x ∷ l) (lt-one h) (all-zeros f)

-- the first n numbers, and zeros
cut-zeros : (n : ℕ) (ns : List ℕ) → n ≤ length ns → Fit 0 (drop n ns) → ns ≡ resized n ns ++ replicate (length ns - n) 0
unfolding resized
cut-zeros zero ns h f = all-zeros f ∙ ap (λ (k : ℕ). replicate k 0) (sym (sub-zero (length ns)))
cut-zeros (suc n) [] h f = absurd (omega arith)
cut-zeros (suc n) (v ∷ vs) h f =
    let same : length vs - n ≡ suc (length vs) - suc n = omega arith in
    ap (λ (l : List ℕ). v ∷ l) (cut-zeros n vs (omega arith) f ∙ ap (λ (k : ℕ). resized n vs ++ replicate k 0) same)

-- ---- m zeros behind a plan

module _ (m : ℕ) where
  zeros-marks : (k : ℕ) (lent : ℕ → List ℕ) → marks_filled (replicate k 0) lent ≡ replicate k false
  unfolding marks_filled
  zeros-marks zero lent = refl
  zeros-marks (suc k) lent = ap (λ (l : List Bool). false ∷ l) (zeros-marks k lent)

  marks-zeros : (ns : List ℕ) (lent : ℕ → List ℕ) → marks_filled (ns ++ replicate m 0) lent ≡ marks_filled ns lent ++ replicate m false
  unfolding marks_filled
  marks-zeros =
      by_slot (λ ns lent. marks_filled (ns ++ replicate m 0) lent ≡ marks_filled ns lent ++ replicate m false) (λ lent. zeros-marks m lent)
      (λ n ns lent z q ih. rw (ne_eqb n 0 z, le-leb packet_length (length (lent n)) q) (ap (λ (l : List Bool). true ∷ l) ih))
      (λ n ns lent e ih. rw e (ap (λ (l : List Bool). false ∷ l) ih))

  zeros_numbers : (k : ℕ) (lent : ℕ → List ℕ) → numbers_filled (replicate k 0) lent ≡ replicate k 0
  unfolding numbers_filled
  zeros_numbers zero lent = refl
  zeros_numbers (suc k) lent = ap (λ (l : List ℕ). 0 ∷ l) (zeros_numbers k lent)

  numbers_zeros : (ns : List ℕ) (lent : ℕ → List ℕ) → numbers_filled (ns ++ replicate m 0) lent ≡ numbers_filled ns lent ++ replicate m 0
  unfolding numbers_filled
  numbers_zeros =
      by_slot (λ ns lent. numbers_filled (ns ++ replicate m 0) lent ≡ numbers_filled ns lent ++ replicate m 0) (λ lent. zeros_numbers m lent)
      (λ n ns lent z q ih. rw (ne_eqb n 0 z, le-leb packet_length (length (lent n)) q) (ap (λ (l : List ℕ). n ∷ l) ih))
      (λ n ns lent e ih. rw e (ap (λ (l : List ℕ). 0 ∷ l) ih))

  zeros_fit : (pid k : ℕ) (lent : ℕ → List ℕ) → unfit_filled pid (replicate k 0) lent ≡ false
  unfolding unfit_filled
  zeros_fit pid zero lent = refl
  zeros_fit pid (suc k) lent = zeros_fit pid k lent

  fit_zeros : (pid : ℕ) (ns : List ℕ) (lent : ℕ → List ℕ) → unfit_filled pid (ns ++ replicate m 0) lent ≡ unfit_filled pid ns lent
  unfolding unfit_filled
  fit_zeros pid =
      by_slot (λ ns lent. unfit_filled pid (ns ++ replicate m 0) lent ≡ unfit_filled pid ns lent) (λ lent. zeros_fit pid m lent)
      (λ n ns lent z q ih. rw (ne_eqb n 0 z, le-leb packet_length (length (lent n)) q) (ap (λ (b : Bool). unfit pid (take packet_length (lent n)) || b) ih))
      (λ n ns lent e ih. rw e ih)

  zeros-first : (n k : ℕ) → first_slots n (replicate k false) ≡ replicate k false
  unfolding first_slots
  zeros-first n zero = refl
  zeros-first n (suc k) = ap (λ (l : List Bool). false ∷ l) (zeros-first n k)

  first-zeros : (n : ℕ) (bs : List Bool) → first_slots n (bs ++ replicate m false) ≡ first_slots n bs ++ replicate m false
  unfolding first_slots
  first-zeros n [] = zeros-first n m
  first-zeros n (false ∷ bs) = ap (λ (l : List Bool). false ∷ l) (first-zeros n bs)
  first-zeros zero (true ∷ bs) = ap (λ (l : List Bool). false ∷ l) (first-zeros zero bs)
  first-zeros (suc n) (true ∷ bs) = ap (λ (l : List Bool). true ∷ l) (first-zeros n bs)

  with_zeros : (bs : List Bool) (stream slots : List ℕ) → slots_with (bs ++ replicate m false) stream slots ≡ slots_with bs stream slots
  unfolding slots_with
  with_zeros [] stream slots = slots-over m stream slots
  with_zeros (false ∷ bs) stream slots = ap (λ (l : List ℕ). take packet_length slots ++ l) (with_zeros bs stream (drop packet_length slots))
  with_zeros (true ∷ bs) stream slots =
      ap (λ (l : List ℕ). take packet_length stream ++ l) (with_zeros bs (drop packet_length stream) (drop packet_length slots))

  -- no stream has the number 0
  module _ (r : ℕ) (z : r ≡ 0 → ⊥) where
    zeros-empty : (k : ℕ) → empty_for r (replicate k 0) (replicate k false) ≡ replicate k false
    unfolding empty_for zip_with
    zeros-empty zero = refl
    zeros-empty (suc k) = rw (ne_eqb 0 r (λ e. z (sym e))) (ap (λ (l : List Bool). false ∷ l) (zeros-empty k))

    empty-zeros : (ns : List ℕ) (ms : List Bool) → length ms ≡ length ns
        → empty_for r (ns ++ replicate m 0) (ms ++ replicate m false) ≡ empty_for r ns ms ++ replicate m false
    unfolding empty_for zip_with
    empty-zeros [] [] e = zeros-empty m
    empty-zeros [] (b ∷ ms) e = absurd (omega arith)
    empty-zeros (n ∷ ns) [] e = absurd (omega arith)
    empty-zeros (n ∷ ns) (b ∷ ms) e = ap (λ (l : List Bool). (eqb n r && not b) ∷ l) (empty-zeros ns ms (omega arith))

    zeros_for : (k : ℕ) → slots_for r (replicate k 0) ≡ 0
    unfolding slots_for
    zeros_for zero = refl
    zeros_for (suc k) = rw (ne_eqb 0 r (λ e. z (sym e))) (omega (arith, zeros_for k))

    for_zeros : (ns : List ℕ) → slots_for r (ns ++ replicate m 0) ≡ slots_for r ns
    unfolding slots_for
    for_zeros [] = zeros_for m
    for_zeros (n ∷ ns) = ap (λ (k : ℕ). cond (eqb n r) 1 0 + k) (for_zeros ns)

    zeros-numbered : (k : ℕ) (bytes : List ℕ) → numbered r (replicate k 0) bytes ≡ []
    unfolding numbered
    zeros-numbered zero bytes = refl
    zeros-numbered (suc k) bytes = rw (ne_eqb 0 r (λ e. z (sym e))) (zeros-numbered k (drop packet_length bytes))

    numbered-zeros : (ns bytes : List ℕ) → numbered r (ns ++ replicate m 0) bytes ≡ numbered r ns bytes
    unfolding numbered
    numbered-zeros [] bytes = zeros-numbered m bytes
    numbered-zeros (n ∷ ns) bytes = rw (numbered-zeros ns (drop packet_length bytes)) refl

    -- a put writes the same slots
    with_put : (ns : List ℕ) (lent : ℕ → List ℕ) (stream slots : List ℕ)
        → slots_with (filled_by stream (empty_for r (ns ++ replicate m 0) (marks_filled (ns ++ replicate m 0) lent))) stream slots
        ≡ slots_with (filled_by stream (empty_for r ns (marks_filled ns lent))) stream slots
    unfolding filled_by
    with_put ns lent stream slots =
        let empty = empty_for r ns (marks_filled ns lent) in
        ap (λ (ms : List Bool). slots_with (first_slots (length stream / packet_length) (empty_for r (ns ++ replicate m 0) ms)) stream slots) (marks-zeros ns lent)
        ∙ ap (λ (bs : List Bool). slots_with (first_slots (length stream / packet_length) bs) stream slots) (empty-zeros ns (marks_filled ns lent) (length-marks ns lent))
        ∙ ap (λ (bs : List Bool). slots_with bs stream slots) (first-zeros (length stream / packet_length) empty)
        ∙ with_zeros (first_slots (length stream / packet_length) empty) stream slots

-- ---- the slots of a kind that has n

module _ (n : ℕ) (plan : List ℕ) (h : n ≤ length plan) (b : some_behind n plan ≡ false) where
  split : plan ≡ resized n plan ++ replicate (length plan - n) 0
  split = cut-zeros n plan h (fit_some 0 (drop n plan) b)

  pub front_fit : (pid : ℕ) (lent : ℕ → List ℕ) → unfit_filled pid plan lent ≡ unfit_filled pid (resized n plan) lent
  front_fit pid lent = ap (λ (ns : List ℕ). unfit_filled pid ns lent) split ∙ fit_zeros (length plan - n) pid (resized n plan) lent

  module _ (r : ℕ) (z : r ≡ 0 → ⊥) where
    pub front_for : slots_for r plan ≡ slots_for r (resized n plan)
    front_for = ap (slots_for r) split ∙ for_zeros (length plan - n) r z (resized n plan)

    pub front-numbered : (lent : ℕ → List ℕ) (bytes : List ℕ) → numbered r (numbers_filled plan lent) bytes ≡ numbered r (numbers_filled (resized n plan) lent) bytes
    front-numbered lent bytes =
        ap (λ (ns : List ℕ). numbered r (numbers_filled ns lent) bytes) split
        ∙ ap (λ (ns : List ℕ). numbered r ns bytes) (numbers_zeros (length plan - n) (resized n plan) lent)
        ∙ numbered-zeros (length plan - n) r z (numbers_filled (resized n plan) lent) bytes

    pub front-put : (lent : ℕ → List ℕ) (stream slots : List ℕ)
        → slots_with (filled_by stream (empty_for r plan (marks_filled plan lent))) stream slots
        ≡ slots_with (filled_by stream (empty_for r (resized n plan) (marks_filled (resized n plan) lent))) stream slots
    front-put lent stream slots =
        ap (λ (ns : List ℕ). slots_with (filled_by stream (empty_for r ns (marks_filled ns lent))) stream slots) split
        ∙ with_put (length plan - n) r z (resized n plan) lent stream slots
