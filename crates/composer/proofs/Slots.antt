-- The slots that a put fills, slot by slot. Assumes nothing.
use Prim.Native.Nat.{ℕ, zero, suc, ◌*◌, ◌/◌, ◌≤◌, ◌<◌, min}
use mathlib.Core.Path.{◌≡◌, refl, sym, ap, ◌∙◌}
use mathlib.Core.Bool.{Bool, true, false, not, ◌&&◌, ◌||◌}
use mathlib.Core.List.{List, [], ◌∷◌, ◌++◌, zip_with}
use native.Mathlib.Nat.{min-zero, zero-min, suc-min-suc, min-le_left}
use native.Mathlib.Omega.{arith}
use lib.Dec.{eqb}
use lib.ListN.{length, get_or, take, drop, replicate, length-drop, take-append-drop}
use Rattle.packet.specs.Packets.{packet_length}
use Rattle.composer.specs.Slots.{empty_for, first_slots, slots_in, filled_by, placed_by, marks_after, slots_with}

-- two lists, element by element
length_zip : {A B C : Type 0} (f : A → B → C) (xs : List A) (ys : List B) → length xs ≡ length ys → length (zip_with f xs ys) ≡ length xs
unfolding zip_with
length_zip f [] [] e = refl
length_zip f [] (y ∷ ys) e = refl
length_zip f (x ∷ xs) [] e = absurd (omega arith)
length_zip f (x ∷ xs) (y ∷ ys) e = ap suc (length_zip f xs ys (omega arith))

zip_at : {A B C : Type 0} (f : A → B → C) (xs : List A) (ys : List B) (i : ℕ) (a : A) (b : B) (c : C) → i < length xs → i < length ys
    → get_or (zip_with f xs ys) i c ≡ f (get_or xs i a) (get_or ys i b)
unfolding zip_with
zip_at f [] ys i a b c h g = absurd (omega arith)
zip_at f (x ∷ xs) [] i a b c h g = absurd (omega arith)
zip_at f (x ∷ xs) (y ∷ ys) zero a b c h g = refl
zip_at f (x ∷ xs) (y ∷ ys) (suc i) a b c h g = zip_at f xs ys i a b c (omega arith) (omega arith)

module _ (r : ℕ) (plan : List ℕ) (marks : List Bool) where
  pub length-empty : length plan ≡ length marks → length (empty_for r plan marks) ≡ length plan
  unfolding empty_for
  length-empty e = length_zip _ plan marks e

  pub empty-at : (i : ℕ) → i < length plan → i < length marks → get_or (empty_for r plan marks) i false ≡ eqb (get_or plan i 0) r && not (get_or marks i false)
  unfolding empty_for
  empty-at i h g = zip_at _ plan marks i 0 false false h g

length-first : (n : ℕ) (bs : List Bool) → length (first_slots n bs) ≡ length bs
unfolding first_slots
length-first n [] = refl
length-first n (false ∷ bs) = ap suc (length-first n bs)
length-first zero (true ∷ bs) = ap suc (length-first zero bs)
length-first (suc n) (true ∷ bs) = ap suc (length-first n bs)

-- as many as there are, and at most n
pub first_many : (n : ℕ) (bs : List Bool) → slots_in (first_slots n bs) ≡ min n (slots_in bs)
unfolding slots_in first_slots
first_many n [] = sym (min-zero n)
first_many n (false ∷ bs) = first_many n bs
first_many zero (true ∷ bs) = first_many zero bs ∙ zero-min (slots_in bs) ∙ sym (zero-min (suc (slots_in bs)))
first_many (suc n) (true ∷ bs) = ap suc (first_many n bs) ∙ sym (suc-min-suc n (slots_in bs))

-- a put places no more than it was lent
pub placed-within : (r : ℕ) (plan : List ℕ) (marks : List Bool) (stream : List ℕ) → packet_length * placed_by r plan marks stream ≤ length stream
unfolding placed_by filled_by
placed-within r plan marks stream =
    let empty = empty_for r plan marks in
    omega (arith, first_many (length stream / packet_length) empty, min-le_left (length stream / packet_length) (slots_in empty))

-- as many marks as before
pub length-after : (r : ℕ) (plan : List ℕ) (marks : List Bool) (stream : List ℕ) → length plan ≡ length marks
    → length (marks_after r plan marks stream) ≡ length marks
unfolding marks_after filled_by
length-after r plan marks stream same =
    length_zip ◌||◌ marks (filled_by stream (empty_for r plan marks))
    (sym (length-first (length stream / packet_length) (empty_for r plan marks) ∙ length-empty r plan marks same ∙ same))

-- none of a set
first_none : (b : Bool) (bs : List Bool) → first_slots 0 (b ∷ bs) ≡ false ∷ first_slots 0 bs
unfolding first_slots
first_none true bs = refl
first_none false bs = refl

module _ (r n : ℕ) (ns : List ℕ) (m : Bool) (ms : List Bool) (stream : List ℕ) where
  -- a slot that is planned for another stream or is filled
  pub filled_other : eqb n r && not m ≡ false → filled_by stream (empty_for r (n ∷ ns) (m ∷ ms)) ≡ false ∷ filled_by stream (empty_for r ns ms)
  unfolding filled_by empty_for first_slots zip_with
  filled_other e = rw e

  -- one for which no packet is left
  pub filled_late : length stream < packet_length → filled_by stream (empty_for r (n ∷ ns) (m ∷ ms)) ≡ false ∷ filled_by stream (empty_for r ns ms)
  unfolding filled_by empty_for zip_with
  filled_late h =
      let none : length stream / packet_length ≡ 0 = omega arith in
      rw none (first_none (eqb n r && not m) (empty_for r ns ms))

  -- one that takes the next packet
  pub filled_one : eqb n r && not m ≡ true → packet_length ≤ length stream
      → filled_by stream (empty_for r (n ∷ ns) (m ∷ ms)) ≡ true ∷ filled_by (drop packet_length stream) (empty_for r ns ms)
  unfolding filled_by empty_for first_slots zip_with
  filled_one e h =
      let one : length stream / packet_length ≡ suc (length (drop packet_length stream) / packet_length) = omega (arith, length-drop packet_length stream) in
      rw (one, e)

-- no slot of a set: all stay as they are
pub slots-over : (n : ℕ) (stream slots : List ℕ) → slots_with (replicate n false) stream slots ≡ slots
unfolding slots_with
slots-over zero stream slots = refl
slots-over (suc n) stream slots =
    ap (λ (l : List ℕ). take packet_length slots ++ l) (slots-over n stream (drop packet_length slots)) ∙ take-append-drop packet_length slots
