-- What the slots of a frame carry: their numbers, their lengths, a stream's packets, and that each is fit. Assumes nothing.
use Prim.Native.Nat.{ℕ, zero, suc, ◌+◌, ◌*◌, ◌≤◌, ◌<◌}
use mathlib.Core.Path.{◌≡◌, refl, sym, ap, ap₂, ◌∙◌}
use mathlib.Core.Bool.{Bool, true, false, not, ◌&&◌, and-false, true≢false, decide}
use mathlib.Core.List.{List, [], ◌∷◌, ◌++◌}
use native.Mathlib.Omega.{arith}
use native.Mathlib.Decide.{ℕ_discrete, dec_le}
use borrow.Author.Tests.{eq-eqb, ne_eqb, le-leb, lt-leb}
use lib.Dec.{leb, eqb}
use lib.ListN.{length, take, drop, replicate, length-append}
use lib.Seq.{take_at, drop_at, drop-drop, take-add, take-nil}
use Rattle.slices.proofs.Any.{neither}
use Rattle.bits.specs.Fields.{bits_of, number, run, cut}
use Rattle.header_layout.specs.Rows.{place, row_at}
use Rattle.header_layout.specs.Layout.{start_table, row_with}
use Rattle.packet.specs.Packets.{packet_length, null_packet, slot, unfit}
use Rattle.composer.specs.Slots.{nulls, numbers_of}
use Rattle.receiver.specs.Store.{numbered, slots_for}
use Rattle.runs.specs.Work.{carries, taken, slots_filled, numbers_filled}
use Rattle.runs.proofs.Filled.{marks_filled, unfit_filled, EachWhole, whole_none, whole-taken, Slot, carried, idle}

-- ---- by whether the first slot carries a packet

-- a statement about a plan follows slot by slot, from a slot that carries a packet and from one that does not
pub by_slot : (P : List ℕ → (ℕ → List ℕ) → Type 0) → ((lent : ℕ → List ℕ) → P [] lent)
    → ((n : ℕ) (ns : List ℕ) (lent : ℕ → List ℕ) → (n ≡ 0 → ⊥) → packet_length ≤ length (lent n) → P ns (taken n lent) → P (n ∷ ns) lent)
    → ((n : ℕ) (ns : List ℕ) (lent : ℕ → List ℕ) → carries n lent ≡ false → P ns lent → P (n ∷ ns) lent)
    → (plan : List ℕ) (lent : ℕ → List ℕ) → P plan lent
by_slot P none full empty [] lent = none lent
by_slot P none full empty (n ∷ ns) lent = by (λ l. by_slot P none full empty ns l) (ℕ_discrete n 0) (dec_le packet_length (length (lent n)))
  where
    by : ((l : ℕ → List ℕ) → P ns l) → Dec (n ≡ 0) → Dec (packet_length ≤ length (lent n)) → P (n ∷ ns) lent
    by ih (yes e) q = empty n ns lent (rw (eq-eqb n 0 e)) (ih lent)
    by ih (no z) (no q) = empty n ns lent (rw (ne_eqb n 0 z, lt-leb packet_length (length (lent n)) (omega arith))) (ih lent)
    by ih (no z) (yes q) = full n ns lent z q (ih (taken n lent))

-- ---- numbers and lengths

pub numbers_of-filled : (plan : List ℕ) (lent : ℕ → List ℕ) → numbers_of plan (marks_filled plan lent) ≡ numbers_filled plan lent
unfolding numbers_of marks_filled numbers_filled
numbers_of-filled =
    by_slot (λ plan lent. numbers_of plan (marks_filled plan lent) ≡ numbers_filled plan lent) (λ lent. refl)
    (λ n ns lent z q ih. rw (ne_eqb n 0 z, le-leb packet_length (length (lent n)) q) (ap (λ (l : List ℕ). n ∷ l) ih))
    (λ n ns lent e ih. rw e (ap (λ (l : List ℕ). 0 ∷ l) ih))

pub length-slots : (plan : List ℕ) (lent : ℕ → List ℕ) → length (slots_filled plan lent) ≡ packet_length * length plan
unfolding slots_filled
length-slots =
    by_slot (λ plan lent. length (slots_filled plan lent) ≡ packet_length * length plan) (λ lent. refl)
    (λ n ns lent z q ih.
    let s = carried 0 n ns lent z q in
    ap length s.slots ∙ length-append (take packet_length (lent n)) (slots_filled ns (taken n lent)) ∙ omega (arith, ih, s.long))
    (λ n ns lent e ih.
    let s = idle 0 n ns lent e in
    ap length s.slots ∙ length-append null_packet (slots_filled ns lent) ∙ omega (arith, ih, s.long))

pub length-marks : (plan : List ℕ) (lent : ℕ → List ℕ) → length (marks_filled plan lent) ≡ length plan
unfolding marks_filled
length-marks =
    by_slot (λ plan lent. length (marks_filled plan lent) ≡ length plan) (λ lent. refl)
    (λ n ns lent z q ih. rw (ne_eqb n 0 z, le-leb packet_length (length (lent n)) q) (ap suc ih))
    (λ n ns lent e ih. rw e (ap suc ih))

-- nothing was lent yet
pub slots_none : (plan : List ℕ) → slots_filled plan (λ n. []) ≡ nulls (length plan)
unfolding slots_filled nulls
slots_none [] = refl
slots_none (n ∷ ns) = rw (idle_none n) (ap (λ (l : List ℕ). null_packet ++ l) (slots_none ns))
  where
    idle_none : (n : ℕ) → carries n (λ m. []) ≡ false
    idle_none n = and-false (not (eqb n 0))

pub marks_none : (plan : List ℕ) → marks_filled plan (λ n. []) ≡ replicate (length plan) false
unfolding marks_filled
marks_none [] = refl
marks_none (n ∷ ns) = rw (and-false (not (eqb n 0))) (ap (λ (l : List Bool). false ∷ l) (marks_none ns))

pub unfit_none : (pid : ℕ) (plan : List ℕ) → unfit_filled pid plan (λ n. []) ≡ false
unfolding unfit_filled
unfit_none pid [] = refl
unfit_none pid (n ∷ ns) = rw (and-false (not (eqb n 0))) (unfit_none pid ns)

-- ---- a stream's packets

numbered_own : (r : ℕ) (ns p bytes : List ℕ) → length p ≡ packet_length → numbered r (r ∷ ns) (p ++ bytes) ≡ p ++ numbered r ns bytes
unfolding numbered
numbered_own r ns p bytes l = rw (eq-eqb r r refl, take_at p bytes packet_length l, drop_at p bytes packet_length l)

numbered_other : (r n : ℕ) (ns p bytes : List ℕ) → length p ≡ packet_length → (n ≡ r → ⊥) → numbered r (n ∷ ns) (p ++ bytes) ≡ numbered r ns bytes
unfolding numbered
numbered_other r n ns p bytes l d = rw (ne_eqb n r d, drop_at p bytes packet_length l)

pub for_own : (r : ℕ) (ns : List ℕ) → slots_for r (r ∷ ns) ≡ 1 + slots_for r ns
unfolding slots_for
for_own r ns = rw (eq-eqb r r refl)

pub for_other : (r n : ℕ) (ns : List ℕ) → (n ≡ r → ⊥) → slots_for r (n ∷ ns) ≡ slots_for r ns
unfolding slots_for
for_other r n ns d = rw (ne_eqb n r d) (omega arith)

take_more : (k : ℕ) (l : List ℕ) → take (packet_length * (1 + k)) l ≡ take packet_length l ++ take (packet_length * k) (drop packet_length l)
take_more k l =
    let e : packet_length * (1 + k) ≡ packet_length + packet_length * k = omega arith in
    ap (λ (n : ℕ). take n l) e ∙ take-add packet_length (packet_length * k) l

module _ (r : ℕ) (z : r ≡ 0 → ⊥) where
  -- the packets that the slots carry for stream r, and as many of what was lent as there are slots
  abbrev Fronted : List ℕ → (ℕ → List ℕ) → Type 0
  Fronted plan lent =
      EachWhole lent → numbered r (numbers_filled plan lent) (slots_filled plan lent) ≡ take (packet_length * slots_for r plan) (lent r)

  front-full : (n : ℕ) (ns : List ℕ) (lent : ℕ → List ℕ) → (n ≡ 0 → ⊥) → packet_length ≤ length (lent n) → Fronted ns (taken n lent) → Fronted (n ∷ ns) lent
  front-full n ns lent d q ih w = by_number (ℕ_discrete n r)
    where
      s : Slot 0 n ns lent (take packet_length (lent n)) n true (taken n lent) (unfit 0 (take packet_length (lent n)))
      s = carried 0 n ns lent d q

      later : numbered r (numbers_filled ns (taken n lent)) (slots_filled ns (taken n lent)) ≡ take (packet_length * slots_for r ns) (taken n lent r)
      later = ih (whole-taken n lent w q)

      by_number : Dec (n ≡ r) → numbered r (numbers_filled (n ∷ ns) lent) (slots_filled (n ∷ ns) lent) ≡ take (packet_length * slots_for r (n ∷ ns)) (lent r)
      by_number (yes e) =
          ap₂ (numbered r) s.numbers s.slots
          ∙ ap (λ (k : ℕ). numbered r (k ∷ numbers_filled ns (taken n lent)) (take packet_length (lent n) ++ slots_filled ns (taken n lent))) e
          ∙ numbered_own r (numbers_filled ns (taken n lent)) (take packet_length (lent n)) (slots_filled ns (taken n lent)) s.long
          ∙ ap₂ (λ (a b : List ℕ). a ++ b) (ap (λ (k : ℕ). take packet_length (lent k)) e)
          (later ∙ ap (take (packet_length * slots_for r ns)) (rw (eq-eqb r n (sym e))))
          ∙ sym (take_more (slots_for r ns) (lent r))
          ∙ ap (λ (k : ℕ). take (packet_length * k) (lent r)) (sym (for_own r ns) ∙ ap (λ (k : ℕ). slots_for r (k ∷ ns)) (sym e))
      by_number (no f) =
          ap₂ (numbered r) s.numbers s.slots
          ∙ numbered_other r n (numbers_filled ns (taken n lent)) (take packet_length (lent n)) (slots_filled ns (taken n lent)) s.long f
          ∙ later ∙ ap₂ (λ (k : ℕ) (l : List ℕ). take (packet_length * k) l) (sym (for_other r n ns f)) (rw (ne_eqb r n (λ g. f (sym g))))

  front-empty : (n : ℕ) (ns : List ℕ) (lent : ℕ → List ℕ) → carries n lent ≡ false → Fronted ns lent → Fronted (n ∷ ns) lent
  front-empty n ns lent e ih w =
      ap₂ (numbered r) s.numbers s.slots
      ∙ numbered_other r 0 (numbers_filled ns lent) null_packet (slots_filled ns lent) s.long (λ f. z (sym f))
      ∙ ih w ∙ by_number (ℕ_discrete n r) (dec_le packet_length (length (lent r)))
    where
      s : Slot 0 n ns lent null_packet 0 false lent false
      s = idle 0 n ns lent e

      by_number : Dec (n ≡ r) → Dec (packet_length ≤ length (lent r)) → take (packet_length * slots_for r ns) (lent r) ≡ take (packet_length * slots_for r (n ∷ ns)) (lent r)
      by_number (no f) q = ap (λ (k : ℕ). take (packet_length * k) (lent r)) (sym (for_other r n ns f))
      by_number (yes f) (no q) = rw (whole_none (lent r) (w r) (omega arith)) (take-nil (packet_length * slots_for r ns) ∙ sym (take-nil (packet_length * slots_for r (n ∷ ns))))
      by_number (yes f) (yes q) =
          absurd (true≢false (sym (ap₂ (λ (a b : Bool). not a && b) (ne_eqb n 0 (λ g. z (sym f ∙ g))) (ap (λ (k : ℕ). leb packet_length (length (lent k))) f ∙ le-leb packet_length (length (lent r)) q)) ∙ e))

  pub front_lent : (plan : List ℕ) (lent : ℕ → List ℕ) → Fronted plan lent
  unfolding numbered numbers_filled slots_filled slots_for
  front_lent = by_slot Fronted (λ lent w. refl) front-full front-empty

-- ---- each packet

pub slot-first : (p bytes : List ℕ) → length p ≡ packet_length → slot 0 (p ++ bytes) ≡ p
unfolding slot
slot-first p bytes l = take_at p bytes packet_length l

pub slot_next : (p bytes : List ℕ) (i : ℕ) → length p ≡ packet_length → slot (suc i) (p ++ bytes) ≡ slot i bytes
unfolding slot
slot_next p bytes i l =
    let e : packet_length * suc i ≡ packet_length + packet_length * i = omega arith in
    ap (λ (k : ℕ). take packet_length (drop k (p ++ bytes))) e
    ∙ ap (take packet_length) (sym (drop-drop (packet_length * i) packet_length (p ++ bytes)) ∙ ap (drop (packet_length * i)) (drop_at p bytes packet_length l))

pub null_fit : (pid : ℕ) → pid ≤ 8190 → unfit pid null_packet ≡ false
unfolding unfit null_packet start_table row_with decide row_at place cut run bits_of number
null_fit pid h = ne_eqb 8191 pid (λ e. omega arith)

module _ (pid : ℕ) (h : pid ≤ 8190) where
  abbrev EachFit : List ℕ → (ℕ → List ℕ) → Type 0
  EachFit plan lent = unfit_filled pid plan lent ≡ false → (i : ℕ) → i < length plan → unfit pid (slot i (slots_filled plan lent)) ≡ false

  -- the slot's own packet, then those behind it
  fit_more : (n : ℕ) (ns : List ℕ) (lent : ℕ → List ℕ) (p : List ℕ) (k : ℕ) (m : Bool) (rest : ℕ → List ℕ) (bad : Bool)
      → Slot pid n ns lent p k m rest bad → unfit pid p ≡ false → (unfit_filled pid (n ∷ ns) lent ≡ false → unfit_filled pid ns rest ≡ false)
      → EachFit ns rest → EachFit (n ∷ ns) lent
  fit_more n ns lent p k m rest bad s f g ih u zero l = ap (λ (b : List ℕ). unfit pid (slot 0 b)) s.slots ∙ ap (unfit pid) (slot-first p (slots_filled ns rest) s.long) ∙ f
  fit_more n ns lent p k m rest bad s f g ih u (suc i) l =
      ap (λ (b : List ℕ). unfit pid (slot (suc i) b)) s.slots ∙ ap (unfit pid) (slot_next p (slots_filled ns rest) i s.long) ∙ ih (g u) i (omega arith)

  pub each_fit : (plan : List ℕ) (lent : ℕ → List ℕ) → EachFit plan lent
  each_fit =
      by_slot EachFit (λ lent u i l. absurd (omega arith))
      (λ n ns lent d q ih u.
      let s = carried pid n ns lent d q in
      let both = neither (unfit pid (take packet_length (lent n))) (unfit_filled pid ns (taken n lent)) (sym s.unfits ∙ u) in
      fit_more n ns lent (take packet_length (lent n)) n true (taken n lent) (unfit pid (take packet_length (lent n))) s both.0 (λ v. both.1) ih u)
      (λ n ns lent e ih.
      let s = idle pid n ns lent e in
      fit_more n ns lent null_packet 0 false lent false s (null_fit pid h) (λ u. sym s.unfits ∙ u) ih)
