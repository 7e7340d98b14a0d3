-- What a put adds to the slots of a frame: they carry what was lent for each stream, one packet behind the other. Assumes nothing.
use Prim.Native.Nat.{ℕ, suc, ◌+◌, ◌*◌, ◌%◌, ◌≤◌, ◌<◌}
use mathlib.Core.Path.{◌≡◌, refl, sym, ap, ap₂, subst, ◌∙◌}
use mathlib.Core.Bool.{Bool, true, false, cond, not, ◌&&◌, ◌||◌, and-false, or-false}
use mathlib.Core.List.{List, [], ◌∷◌, ◌++◌, zip_with}
use native.Mathlib.Omega.{arith}
use native.Mathlib.Decide.{ℕ_discrete, dec_le}
use borrow.Author.Tests.{eq-eqb, ne_eqb, le-leb, lt-leb}
use lib.Dec.{leb, eqb}
use lib.ListN.{length, take, drop, length-append, length-drop}
use lib.Seq.{take_at, drop_at, take-add, take-append-le, drop-append-le, length-take-le}
use Rattle.slices.proofs.Any.{neither}
use Rattle.packet.specs.Packets.{packet_length, null_packet, unfit, some_unfit_in}
use Rattle.packet.proofs.Fit.{unfit-first}
use Rattle.composer.specs.Slots.{empty_for, first_slots, slots_in, filled_by, placed_by, some_unfit, marks_after, slots_with}
use Rattle.composer.proofs.Slots.{filled_other, filled_late, filled_one}
use Rattle.runs.specs.Work.{added, carries, taken, slots_filled, numbers_filled}

-- which slots carry a packet, and whether one of those packets is unfit
unfoldable pub marks_filled : List ℕ → (ℕ → List ℕ) → List Bool
marks_filled [] lent = []
marks_filled (n ∷ ns) lent = cond (carries n lent) (true ∷ marks_filled ns (taken n lent)) (false ∷ marks_filled ns lent)

unfoldable pub unfit_filled : ℕ → List ℕ → (ℕ → List ℕ) → Bool
unfit_filled pid [] lent = false
unfit_filled pid (n ∷ ns) lent =
    cond (carries n lent) (unfit pid (take packet_length (lent n)) || unfit_filled pid ns (taken n lent)) (unfit_filled pid ns lent)

-- whole packets
abbrev pub Whole : List ℕ → Type 0
Whole xs = length xs % packet_length ≡ 0

abbrev pub EachWhole : (ℕ → List ℕ) → Type 0
EachWhole lent = (n : ℕ) → Whole (lent n)

-- less than a packet of whole packets is nothing
pub whole_none : (xs : List ℕ) → Whole xs → length xs < packet_length → xs ≡ []
whole_none [] w h = refl
whole_none (x ∷ xs) w h = absurd (omega arith)

pub whole_drop : (xs : List ℕ) → Whole xs → packet_length ≤ length xs → Whole (drop packet_length xs)
whole_drop xs w h = rw length-drop (omega arith)

pub whole_append : (xs ys : List ℕ) → Whole xs → Whole ys → Whole (xs ++ ys)
whole_append xs ys v w = rw length-append (omega arith)

pub whole-taken : (n : ℕ) (lent : ℕ → List ℕ) → EachWhole lent → packet_length ≤ length (lent n) → EachWhole (taken n lent)
whole-taken n lent w h m = by_number (ℕ_discrete m n)
  where
    by_number : Dec (m ≡ n) → Whole (taken n lent m)
    by_number (yes e) = rw (eq-eqb m n e) (whole_drop (lent m) (w m) (rw e h))
    by_number (no d) = rw (ne_eqb m n d) (w m)

pub whole-added : (r : ℕ) (stream : List ℕ) (lent : ℕ → List ℕ) → EachWhole lent → Whole stream → EachWhole (added r stream lent)
whole-added r stream lent w v m = by_number (ℕ_discrete m r)
  where
    by_number : Dec (m ≡ r) → Whole (added r stream lent m)
    by_number (yes e) = rw (eq-eqb m r e) (whole_append (lent m) stream (w m) v)
    by_number (no d) = rw (ne_eqb m r d) (w m)

-- ---- what was lent, with a packet taken and a stream added

module _ (r n : ℕ) (stream : List ℕ) (lent : ℕ → List ℕ) where
  -- for another stream
  taken-added : (n ≡ r → ⊥) → taken n (added r stream lent) ≡ added r stream (taken n lent)
  taken-added d = λ i m. at m (ℕ_discrete m n) i
    where
      at : (m : ℕ) → Dec (m ≡ n) → taken n (added r stream lent) m ≡ added r stream (taken n lent) m
      at m (yes e) = rw (eq-eqb m n e, ne_eqb m r (λ f. d (sym e ∙ f)))
      at m (no h) = rw (ne_eqb m n h)

module _ (r : ℕ) (stream : List ℕ) (lent : ℕ → List ℕ) where
  -- for the same stream, of which a packet is left
  taken-before : packet_length ≤ length (lent r) → taken r (added r stream lent) ≡ added r stream (taken r lent)
  taken-before h = λ i m. at m (ℕ_discrete m r) i
    where
      at : (m : ℕ) → Dec (m ≡ r) → taken r (added r stream lent) m ≡ added r stream (taken r lent) m
      at m (yes e) = rw (eq-eqb m r e) (drop-append-le packet_length (lent m) stream (rw e h))
      at m (no d) = rw (ne_eqb m r d)

  -- for the same stream, of which nothing is left
  taken_new : lent r ≡ [] → taken r (added r stream lent) ≡ added r (drop packet_length stream) lent
  taken_new h = λ i m. at m (ℕ_discrete m r) i
    where
      at : (m : ℕ) → Dec (m ≡ r) → taken r (added r stream lent) m ≡ added r (drop packet_length stream) lent m
      at m (yes e) = rw (eq-eqb m r e, ap lent e ∙ h)
      at m (no d) = rw (ne_eqb m r d)

-- ---- one slot

pub length_null : length null_packet ≡ packet_length
unfolding null_packet
length_null = refl

-- a slot's packet, number and mark by what is lent, and whether the packets from it on are fit
pub record Slot (pid n : ℕ) (ns : List ℕ) (lent : ℕ → List ℕ) (p : List ℕ) (number : ℕ) (mark : Bool) (rest : ℕ → List ℕ) (bad : Bool) : Type 0 where
  pub slots : slots_filled (n ∷ ns) lent ≡ p ++ slots_filled ns rest
  pub numbers : numbers_filled (n ∷ ns) lent ≡ number ∷ numbers_filled ns rest
  pub marks : marks_filled (n ∷ ns) lent ≡ mark ∷ marks_filled ns rest
  pub unfits : unfit_filled pid (n ∷ ns) lent ≡ bad || unfit_filled pid ns rest
  pub long : length p ≡ packet_length

module _ (pid n : ℕ) (ns : List ℕ) (lent : ℕ → List ℕ) where
  pub carried : (n ≡ 0 → ⊥) → packet_length ≤ length (lent n)
      → Slot pid n ns lent (take packet_length (lent n)) n true (taken n lent) (unfit pid (take packet_length (lent n)))
  unfolding slots_filled numbers_filled marks_filled unfit_filled
  carried d h =
      record {
        slots = rw (ne_eqb n 0 d, le-leb packet_length (length (lent n)) h);
        numbers = rw (ne_eqb n 0 d, le-leb packet_length (length (lent n)) h);
        marks = rw (ne_eqb n 0 d, le-leb packet_length (length (lent n)) h);
        unfits = rw (ne_eqb n 0 d, le-leb packet_length (length (lent n)) h);
        long = length-take-le packet_length (lent n) h;
      }

  pub idle : carries n lent ≡ false → Slot pid n ns lent null_packet 0 false lent false
  unfolding slots_filled numbers_filled marks_filled unfit_filled
  idle e = record { slots = rw e; numbers = rw e; marks = rw e; unfits = rw e; long = length_null }

-- a carried packet and what is left, under other names
carried_as : (pid n : ℕ) (ns : List ℕ) (lent : ℕ → List ℕ) (p : List ℕ) (rest : ℕ → List ℕ) → (n ≡ 0 → ⊥) → packet_length ≤ length (lent n)
    → take packet_length (lent n) ≡ p → taken n lent ≡ rest → Slot pid n ns lent p n true rest (unfit pid p)
carried_as pid n ns lent p rest d h e f =
    subst (λ (x : List ℕ). Slot pid n ns lent x n true rest (unfit pid x)) e
    (subst (λ (x : ℕ → List ℕ). Slot pid n ns lent (take packet_length (lent n)) n true x (unfit pid (take packet_length (lent n)))) f
    (carried pid n ns lent d h))

-- ---- a put, slot by slot

-- what a put for stream r leaves is what the slots carry with the stream added; where the packets before and those placed are fit,
-- so are those that are carried then
pub record Added (pid r : ℕ) (plan : List ℕ) (lent : ℕ → List ℕ) (stream : List ℕ) : Type 0 where
  pub slots : slots_with (filled_by stream (empty_for r plan (marks_filled plan lent))) stream (slots_filled plan lent) ≡ slots_filled plan (added r stream lent)
  pub marks : marks_after r plan (marks_filled plan lent) stream ≡ marks_filled plan (added r stream lent)
  pub fit : unfit_filled pid plan lent ≡ false → some_unfit pid r plan (marks_filled plan lent) stream ≡ false
      → unfit_filled pid plan (added r stream lent) ≡ false

module _ (pid r n : ℕ) (ns : List ℕ) (lent : ℕ → List ℕ) (stream : List ℕ) where
  -- a slot that the put does not fill
  kept : (p : List ℕ) (k : ℕ) (m : Bool) (rest : ℕ → List ℕ) (bad : Bool) → Slot pid n ns lent p k m rest bad
      → Slot pid n ns (added r stream lent) p k m (added r stream rest) bad
      → filled_by stream (empty_for r (n ∷ ns) (m ∷ marks_filled ns rest)) ≡ false ∷ filled_by stream (empty_for r ns (marks_filled ns rest))
      → Added pid r ns rest stream → Added pid r (n ∷ ns) lent stream
  unfolding slots_with marks_after zip_with some_unfit placed_by slots_in
  kept p k m rest bad b a e ih =
      let fs = filled_by stream (empty_for r ns (marks_filled ns rest)) in
      let filled = ap (λ (ms : List Bool). filled_by stream (empty_for r (n ∷ ns) ms)) b.marks ∙ e in
      record {
        slots =
            ap₂ (λ (bs : List Bool) (l : List ℕ). slots_with bs stream l) filled b.slots
            ∙ ap₂ (λ (x y : List ℕ). x ++ slots_with fs stream y) (take_at p (slots_filled ns rest) packet_length b.long) (drop_at p (slots_filled ns rest) packet_length b.long)
            ∙ ap (λ (l : List ℕ). p ++ l) ih.slots ∙ sym a.slots;
        marks = ap₂ (zip_with ◌||◌) b.marks filled ∙ ap₂ (λ (x : Bool) (ms : List Bool). x ∷ ms) (or-false m) ih.marks ∙ sym a.marks;
        fit = λ u s.
            let before = neither bad (unfit_filled pid ns rest) (sym b.unfits ∙ u) in
            let placed = sym (ap (λ (bs : List Bool). some_unfit_in pid (take (packet_length * slots_in bs) stream)) filled) ∙ s in
            a.unfits ∙ ap₂ ◌||◌ before.0 (ih.fit before.1 placed);
      }

  -- one that takes the stream's next packet
  placed : Slot pid n ns lent null_packet 0 false lent false
      → Slot pid n ns (added r stream lent) (take packet_length stream) n true (added r (drop packet_length stream) lent) (unfit pid (take packet_length stream))
      → filled_by stream (empty_for r (n ∷ ns) (false ∷ marks_filled ns lent)) ≡ true ∷ filled_by (drop packet_length stream) (empty_for r ns (marks_filled ns lent))
      → packet_length ≤ length stream → Added pid r ns lent (drop packet_length stream) → Added pid r (n ∷ ns) lent stream
  unfolding slots_with marks_after zip_with some_unfit placed_by slots_in
  placed b a e h ih =
      let rest = drop packet_length stream in
      let fs = filled_by rest (empty_for r ns (marks_filled ns lent)) in
      let filled = ap (λ (ms : List Bool). filled_by stream (empty_for r (n ∷ ns) ms)) b.marks ∙ e in
      let more : packet_length * suc (slots_in fs) ≡ packet_length + packet_length * slots_in fs = omega arith in
      record {
        slots =
            ap₂ (λ (bs : List Bool) (l : List ℕ). slots_with bs stream l) filled b.slots
            ∙ ap (λ (y : List ℕ). take packet_length stream ++ slots_with fs rest y) (drop_at null_packet (slots_filled ns lent) packet_length b.long)
            ∙ ap (λ (l : List ℕ). take packet_length stream ++ l) ih.slots ∙ sym a.slots;
        marks = ap₂ (zip_with ◌||◌) b.marks filled ∙ ap (λ (ms : List Bool). true ∷ ms) ih.marks ∙ sym a.marks;
        fit = λ u s.
            let both =
            neither (unfit pid (take packet_length stream)) (some_unfit_in pid (take (packet_length * slots_in fs) rest))
            (sym (ap (λ (bs : List Bool). some_unfit_in pid (take (packet_length * slots_in bs) stream)) filled
            ∙ ap (some_unfit_in pid) (ap (λ (k : ℕ). take k stream) more ∙ take-add packet_length (packet_length * slots_in fs) stream)
            ∙ unfit-first pid (take packet_length stream) (take (packet_length * slots_in fs) rest) (length-take-le packet_length stream h)) ∙ s) in
            a.unfits ∙ ap₂ ◌||◌ both.0 (ih.fit (sym b.unfits ∙ u) both.1);
      }

module _ (pid r n : ℕ) (ns : List ℕ) (lent : ℕ → List ℕ) (stream : List ℕ) (w : EachWhole lent) (v : Whole stream)
    (ih : (l : ℕ → List ℕ) (s : List ℕ) → EachWhole l → Whole s → Added pid r ns l s) where
  -- a slot that is planned for another stream, or for none
  other_slot : (n ≡ r → ⊥) → Added pid r (n ∷ ns) lent stream
  other_slot d = by_number (ℕ_discrete n 0) (dec_le packet_length (length (lent n)))
    where
      same : added r stream lent n ≡ lent n
      same = rw (ne_eqb n r d)

      untaken : (m : Bool) (ms : List Bool) → filled_by stream (empty_for r (n ∷ ns) (m ∷ ms)) ≡ false ∷ filled_by stream (empty_for r ns ms)
      untaken m ms = filled_other r n ns m ms stream (rw (ne_eqb n r d))

      nothing : carries n lent ≡ false → Added pid r (n ∷ ns) lent stream
      nothing e =
          kept pid r n ns lent stream null_packet 0 false lent false (idle pid n ns lent e)
          (idle pid n ns (added r stream lent) (ap (λ (l : List ℕ). not (eqb n 0) && leb packet_length (length l)) same ∙ e))
          (untaken false (marks_filled ns lent)) (ih lent stream w v)

      by_number : Dec (n ≡ 0) → Dec (packet_length ≤ length (lent n)) → Added pid r (n ∷ ns) lent stream
      by_number (yes e) q = nothing (rw (eq-eqb n 0 e))
      by_number (no z) (no q) = nothing (rw (ne_eqb n 0 z, lt-leb packet_length (length (lent n)) (omega arith)))
      by_number (no z) (yes q) =
          kept pid r n ns lent stream (take packet_length (lent n)) n true (taken n lent) (unfit pid (take packet_length (lent n)))
          (carried pid n ns lent z q)
          (carried_as pid n ns (added r stream lent) (take packet_length (lent n)) (added r stream (taken n lent)) z (rw same q)
          (ap (take packet_length) same) (taken-added r n stream lent d))
          (untaken true (marks_filled ns (taken n lent))) (ih (taken n lent) stream (whole-taken n lent w q) v)

module _ (pid r : ℕ) (ns : List ℕ) (lent : ℕ → List ℕ) (stream : List ℕ) (w : EachWhole lent) (v : Whole stream) (z : r ≡ 0 → ⊥)
    (ih : (l : ℕ → List ℕ) (s : List ℕ) → EachWhole l → Whole s → Added pid r ns l s) where
  -- a slot that is planned for the stream
  own_slot : Added pid r (r ∷ ns) lent stream
  own_slot = by_lent (dec_le packet_length (length (lent r))) (dec_le packet_length (length stream))
    where
      behind : added r stream lent r ≡ lent r ++ stream
      behind = rw (eq-eqb r r refl)

      by_lent : Dec (packet_length ≤ length (lent r)) → Dec (packet_length ≤ length stream) → Added pid r (r ∷ ns) lent stream
      by_lent (yes q) s =
          kept pid r r ns lent stream (take packet_length (lent r)) r true (taken r lent) (unfit pid (take packet_length (lent r)))
          (carried pid r ns lent z q)
          (carried_as pid r ns (added r stream lent) (take packet_length (lent r)) (added r stream (taken r lent)) z
          (rw (behind, length-append) (omega arith)) (ap (take packet_length) behind ∙ take-append-le packet_length (lent r) stream q)
          (taken-before r stream lent q))
          (filled_other r r ns true (marks_filled ns (taken r lent)) stream (and-false (eqb r r))) (ih (taken r lent) stream (whole-taken r lent w q) v)
      by_lent (no q) (yes s) =
          let e = whole_none (lent r) (w r) (omega arith) in
          let all : added r stream lent r ≡ stream = behind ∙ ap (λ (l : List ℕ). l ++ stream) e in
          placed pid r r ns lent stream (idle pid r ns lent (rw (ne_eqb r 0 z, lt-leb packet_length (length (lent r)) (omega arith))))
          (carried_as pid r ns (added r stream lent) (take packet_length stream) (added r (drop packet_length stream) lent) z
          (rw all s) (ap (take packet_length) all) (taken_new r stream lent e))
          (filled_one r r ns false (marks_filled ns lent) stream (rw (eq-eqb r r refl)) s) s
          (ih lent (drop packet_length stream) w (whole_drop stream v s))
      by_lent (no q) (no s) =
          let e = whole_none (lent r) (w r) (omega arith) in
          let f = whole_none stream v (omega arith) in
          kept pid r r ns lent stream null_packet 0 false lent false
          (idle pid r ns lent (rw (ne_eqb r 0 z, lt-leb packet_length (length (lent r)) (omega arith))))
          (idle pid r ns (added r stream lent) (rw (ne_eqb r 0 z, behind, e, f)))
          (filled_late r r ns false (marks_filled ns lent) stream (omega arith)) (ih lent stream w v)

pub put_adds : (pid r : ℕ) → (r ≡ 0 → ⊥) → (plan : List ℕ) (lent : ℕ → List ℕ) (stream : List ℕ) → EachWhole lent → Whole stream
    → Added pid r plan lent stream
unfolding slots_with marks_after zip_with slots_filled marks_filled unfit_filled filled_by empty_for first_slots
put_adds pid r z [] lent stream w v = record { slots = refl; marks = refl; fit = λ u s. u }
put_adds pid r z (n ∷ ns) lent stream w v = by_number (λ l s. put_adds pid r z ns l s) (ℕ_discrete n r)
  where
    by_number : ((l : ℕ → List ℕ) (s : List ℕ) → EachWhole l → Whole s → Added pid r ns l s) → Dec (n ≡ r) → Added pid r (n ∷ ns) lent stream
    by_number ih (yes e) = subst (λ (k : ℕ). Added pid r (k ∷ ns) lent stream) (sym e) (own_slot pid r ns lent stream w v z ih)
    by_number ih (no d) = other_slot pid r n ns lent stream w v ih d
