-- What the puts of a frame placed for a stream: as much of what was lent as it has slots. Assumes nothing.
use Prim.Native.Nat.{ℕ, suc, ◌+◌, ◌-◌, ◌*◌, ◌/◌, ◌≤◌, min}
use mathlib.Core.Path.{◌≡◌, sym, ap, ap₂, ◌∙◌}
use mathlib.Core.Bool.{Bool, true, false, not, ◌&&◌, and-false, true≢false}
use mathlib.Core.List.{List, ◌∷◌, ◌++◌, zip_with, append-nil}
use native.Mathlib.Nat.{min-eq_left, min-eq_right}
use native.Mathlib.Omega.{arith}
use native.Mathlib.Decide.{ℕ_discrete, dec_le}
use borrow.Author.Tests.{eq-eqb, ne_eqb, le-leb}
use lib.Dec.{leb, eqb}
use lib.ListN.{length, take, length-drop}
use lib.Seq.{take_all, take-append-le, take-append-add}
use Rattle.packet.specs.Packets.{packet_length}
use Rattle.composer.specs.Slots.{empty_for, slots_in, filled_by, placed_by}
use Rattle.composer.proofs.Slots.{first_many}
use Rattle.receiver.specs.Store.{slots_for}
use Rattle.runs.specs.Work.{carries, taken}
use Rattle.runs.proofs.Filled.{marks_filled, Whole, EachWhole, whole_none, whole-taken, carried, idle}
use Rattle.runs.proofs.Carried.{by_slot, for_own, for_other}

-- ---- the empty slots of a stream

module _ (r n : ℕ) (ns : List ℕ) (m : Bool) (ms : List Bool) where
  slots_skip : eqb n r && not m ≡ false → slots_in (empty_for r (n ∷ ns) (m ∷ ms)) ≡ slots_in (empty_for r ns ms)
  unfolding empty_for slots_in zip_with
  slots_skip e = rw e

  slots-one : eqb n r && not m ≡ true → slots_in (empty_for r (n ∷ ns) (m ∷ ms)) ≡ suc (slots_in (empty_for r ns ms))
  unfolding empty_for slots_in zip_with
  slots-one e = rw e

module _ (r : ℕ) (z : r ≡ 0 → ⊥) where
  -- they are those that what was lent leaves
  abbrev Left : List ℕ → (ℕ → List ℕ) → Type 0
  Left plan lent = EachWhole lent → packet_length * slots_in (empty_for r plan (marks_filled plan lent)) ≡ packet_length * slots_for r plan - length (lent r)

  left_full : (n : ℕ) (ns : List ℕ) (lent : ℕ → List ℕ) → (n ≡ 0 → ⊥) → packet_length ≤ length (lent n) → Left ns (taken n lent) → Left (n ∷ ns) lent
  left_full n ns lent d q ih w = by_number (ℕ_discrete n r)
    where
      same : slots_in (empty_for r (n ∷ ns) (marks_filled (n ∷ ns) lent)) ≡ slots_in (empty_for r ns (marks_filled ns (taken n lent)))
      same = ap (λ (ms : List Bool). slots_in (empty_for r (n ∷ ns) ms)) (carried 0 n ns lent d q).marks ∙ slots_skip r n ns true (marks_filled ns (taken n lent)) (and-false (eqb n r))

      later : packet_length * slots_in (empty_for r ns (marks_filled ns (taken n lent))) ≡ packet_length * slots_for r ns - length (taken n lent r)
      later = ih (whole-taken n lent w q)

      by_number : Dec (n ≡ r) → packet_length * slots_in (empty_for r (n ∷ ns) (marks_filled (n ∷ ns) lent)) ≡ packet_length * slots_for r (n ∷ ns) - length (lent r)
      by_number (yes e) =
          let slots : slots_for r (n ∷ ns) ≡ 1 + slots_for r ns = ap (λ (k : ℕ). slots_for r (k ∷ ns)) e ∙ for_own r ns in
          let rest : length (taken n lent r) ≡ length (lent r) - packet_length = rw (eq-eqb r n (sym e)) (length-drop packet_length (lent r)) in
          let enough : packet_length ≤ length (lent r) = rw (sym e) q in
          omega (arith, same, later, slots, rest, enough)
      by_number (no f) =
          let rest : length (taken n lent r) ≡ length (lent r) = rw (ne_eqb r n (λ g. f (sym g))) in
          omega (arith, same, later, for_other r n ns f, rest)

  left_empty : (n : ℕ) (ns : List ℕ) (lent : ℕ → List ℕ) → carries n lent ≡ false → Left ns lent → Left (n ∷ ns) lent
  left_empty n ns lent c ih w = by_number (ℕ_discrete n r)
    where
      marks : marks_filled (n ∷ ns) lent ≡ false ∷ marks_filled ns lent
      marks = (idle 0 n ns lent c).marks

      by_number : Dec (n ≡ r) → packet_length * slots_in (empty_for r (n ∷ ns) (marks_filled (n ∷ ns) lent)) ≡ packet_length * slots_for r (n ∷ ns) - length (lent r)
      by_number (no f) =
          let same = ap (λ (ms : List Bool). slots_in (empty_for r (n ∷ ns) ms)) marks ∙ slots_skip r n ns false (marks_filled ns lent) (rw (ne_eqb n r f)) in
          omega (arith, same, ih w, for_other r n ns f)
      by_number (yes e) =
          let one = ap (λ (ms : List Bool). slots_in (empty_for r (n ∷ ns) ms)) marks ∙ slots-one r n ns false (marks_filled ns lent) (rw (eq-eqb n r e)) in
          let slots : slots_for r (n ∷ ns) ≡ 1 + slots_for r ns = ap (λ (k : ℕ). slots_for r (k ∷ ns)) e ∙ for_own r ns in
          omega (arith, one, ih w, slots, nothing e)
        where
          nothing : n ≡ r → length (lent r) ≡ 0
          nothing f = by_length (dec_le packet_length (length (lent r)))
            where
              by_length : Dec (packet_length ≤ length (lent r)) → length (lent r) ≡ 0
              by_length (no q) = ap length (whole_none (lent r) (w r) (omega arith))
              by_length (yes q) =
                  absurd (true≢false (sym (ap₂ (λ (a b : Bool). not a && b) (ne_eqb n 0 (λ g. z (sym f ∙ g))) (ap (λ (k : ℕ). leb packet_length (length (lent k))) f ∙ le-leb packet_length (length (lent r)) q)) ∙ c))

  left : (plan : List ℕ) (lent : ℕ → List ℕ) → Left plan lent
  unfolding empty_for slots_in zip_with marks_filled slots_for
  left = by_slot Left (λ lent w. omega arith) left_full left_empty

  -- ---- what was placed before, with what a put places now

  module _ (plan : List ℕ) (lent : ℕ → List ℕ) (stream : List ℕ) (w : EachWhole lent) (v : Whole stream) where
    abbrev empty : ℕ
    empty = slots_in (empty_for r plan (marks_filled plan lent))

    abbrev placed : ℕ
    placed = placed_by r plan (marks_filled plan lent) stream

    placed_is : placed ≡ min (length stream / packet_length) empty
    unfolding placed_by filled_by
    placed_is = first_many (length stream / packet_length) (empty_for r plan (marks_filled plan lent))

    -- the stream, as far as there are empty slots
    taken_now : take (packet_length * placed) stream ≡ take (packet_length * empty) stream
    taken_now = by_room (dec_le (length stream / packet_length) empty)
      where
        by_room : Dec (length stream / packet_length ≤ empty) → take (packet_length * placed) stream ≡ take (packet_length * empty) stream
        by_room (yes h) =
            let all : placed ≡ length stream / packet_length = placed_is ∙ min-eq_left h in
            take_all (packet_length * placed) stream (omega (arith, all, v)) ∙ sym (take_all (packet_length * empty) stream (omega (arith, v)))
        by_room (no h) = ap (λ (k : ℕ). take (packet_length * k) stream) (placed_is ∙ min-eq_right (omega arith))

    pub front-more : take (packet_length * slots_for r plan) (lent r) ++ take (packet_length * placed) stream ≡ take (packet_length * slots_for r plan) (lent r ++ stream)
    front-more = ap (λ (l : List ℕ). take (packet_length * slots_for r plan) (lent r) ++ l) taken_now ∙ by_lent (dec_le (packet_length * slots_for r plan) (length (lent r)))
      where
        slots : ℕ
        slots = packet_length * slots_for r plan

        still : packet_length * empty ≡ slots - length (lent r)
        still = left plan lent w

        by_lent : Dec (slots ≤ length (lent r)) → take slots (lent r) ++ take (packet_length * empty) stream ≡ take slots (lent r ++ stream)
        by_lent (yes h) =
            let none : packet_length * empty ≡ 0 = omega (arith, still) in
            ap (λ (k : ℕ). take slots (lent r) ++ take k stream) none ∙ append-nil (take slots (lent r)) ∙ sym (take-append-le slots (lent r) stream h)
        by_lent (no h) =
            let sum : length (lent r) + packet_length * empty ≡ slots = omega (arith, still) in
            ap (λ (l : List ℕ). l ++ take (packet_length * empty) stream) (take_all slots (lent r) (omega arith))
            ∙ sym (take-append-add (lent r) stream (packet_length * empty)) ∙ ap (λ (k : ℕ). take k (lent r ++ stream)) sum
