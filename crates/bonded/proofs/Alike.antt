-- A buffer of composed frames with good packets written over slots: cut into frames, each is a good frame still. Assumes nothing.
use Prim.Native.Nat.{◌%◌, ℕ, suc, ◌+◌, ◌*◌, ◌≤◌, ◌<◌}
use mathlib.Core.Path.{◌≡◌, sym, ap, subst, ◌∙◌}
use mathlib.Core.Bool.{false}
use mathlib.Core.List.{List, [], ◌∷◌, ◌++◌, flatten, append_assoc}
use native.Mathlib.Omega.{arith}
use lib.ListN.{length, take, drop, length-append, length-drop, take-append-drop}
use lib.Seq.{length-take-le, drop_at, drop-drop}
use Rattle.setting.specs.declared.Kind.{Kind}
use Rattle.counters.specs.Counters.{last_slot}
use Rattle.setting.specs.Size.{slots_of}
use Rattle.packet.specs.Packets.{packet_length, frame_length, slot, unfit}
use Rattle.runs.proofs.Vouched.{GoodHeader, GoodFrame}
use Rattle.runs.proofs.Lost.{slot-behind, Counted, and_then}
use Rattle.bond_places.specs.Order.{frame_packets}
use Rattle.bond.proofs.Placed.{slot-front}
use Rattle.bonded.specs.Carriers.{frames_from}

-- as long, with the same headers, and each packet fit that was
pub record Alike (pid : ℕ) (g h : List ℕ) : Type 0 where
  pub long : length h ≡ length g
  pub header : (j : ℕ) → slot (frame_packets * j) h ≡ slot (frame_packets * j) g
  pub fit : (m : ℕ) → packet_length * m + packet_length ≤ length g → unfit pid (slot m g) ≡ false → unfit pid (slot m h) ≡ false

-- ---- packets of the first frame, and of the others

slot-first : (m : ℕ) (g : List ℕ) → packet_length * m + packet_length ≤ frame_length last_slot → frame_length last_slot ≤ length g
    → slot m (take (frame_length last_slot) g) ≡ slot m g
slot-first m g h l =
    let e : length (take (frame_length last_slot) g) ≡ frame_length last_slot = length-take-le (frame_length last_slot) g l in
    sym (slot-front m (take (frame_length last_slot) g) (drop (frame_length last_slot) g) (omega (arith, h, e))) ∙ ap (slot m) (take-append-drop (frame_length last_slot) g)

pub slot_later : (m : ℕ) (g : List ℕ) → slot m (drop (frame_length last_slot) g) ≡ slot (m + frame_packets) g
unfolding slot
slot_later m g =
    let e : frame_length last_slot + packet_length * m ≡ packet_length * (m + frame_packets) = omega arith in
    ap (take packet_length) (drop-drop (packet_length * m) (frame_length last_slot) g) ∙ ap (λ (k : ℕ). take packet_length (drop k g)) e

-- of a kind that has all slots
module _ (kind : Kind) (pid : ℕ) (slots : slots_of kind ≡ last_slot) where
  -- ---- the first frame is a good one

  module _ (n : ℕ) (f rest g h : List ℕ) (good : GoodFrame kind pid n f) (cut : g ≡ f ++ rest) (a : Alike pid g h) where
    room : frame_length last_slot ≤ length g
    room = let e = ap length cut ∙ length-append f rest in omega (arith, e, good.long, slots)

    first-long : length (take (frame_length last_slot) h) ≡ frame_length last_slot
    first-long = length-take-le (frame_length last_slot) h (omega (arith, room, a.long))

    slot_now : (m : ℕ) → packet_length * m + packet_length ≤ frame_length last_slot → slot m (take (frame_length last_slot) h) ≡ slot m h
    slot_now m l = slot-first m h l (omega (arith, room, a.long))

    slot_then : (m : ℕ) → packet_length * m + packet_length ≤ frame_length last_slot → slot m g ≡ slot m f
    slot_then m l = ap (slot m) cut ∙ slot-front m f rest (omega (arith, l, good.long, slots))

    first_fit : (i : ℕ) → i < slots_of kind → unfit pid (slot i (drop packet_length (take (frame_length last_slot) h))) ≡ false
    first_fit i l =
        let inside : packet_length * suc i + packet_length ≤ frame_length last_slot = omega (arith, l, slots) in
        ap (unfit pid) (slot-behind i (take (frame_length last_slot) h) ∙ slot_now (suc i) inside)
        ∙ a.fit (suc i) (omega (arith, inside, room)) (ap (unfit pid) (slot_then (suc i) inside ∙ sym (slot-behind i f)) ∙ good.fit i l)

    first_good : GoodFrame kind pid n (take (frame_length last_slot) h)
    first_good =
        record {
          header = subst (GoodHeader kind pid n) (sym (slot_now 0 (omega arith) ∙ a.header 0 ∙ slot_then 0 (omega arith))) good.header;
          long = first-long ∙ ap (λ (n : ℕ). packet_length * (n + 1)) (sym slots);
          fit = first_fit;
        }

  -- ---- the others are alike

  later_alike : (g h : List ℕ) → Alike pid g h → Alike pid (drop (frame_length last_slot) g) (drop (frame_length last_slot) h)
  later_alike g h a =
      record {
        long = length-drop (frame_length last_slot) h ∙ omega (arith, a.long, length-drop (frame_length last_slot) g);
        header = λ j.
            let e : frame_packets * j + frame_packets ≡ frame_packets * (j + 1) = omega arith in
            slot_later (frame_packets * j) h ∙ ap (λ (k : ℕ). slot k h) e ∙ a.header (j + 1)
            ∙ sym (slot_later (frame_packets * j) g ∙ ap (λ (k : ℕ). slot k g) e);
        fit = λ m l u.
            ap (unfit pid) (slot_later m h)
            ∙ a.fit (m + frame_packets) (omega (arith, l, length-drop (frame_length last_slot) g)) (ap (unfit pid) (sym (slot_later m g)) ∙ u);
      }

  -- ---- the frames of one carrier, and what stands behind them

  pub record Cut (n : ℕ) (fs tail : List (List ℕ)) (rest h : List ℕ) : Type 0 where
    pub counts : Counted kind pid n (frames_from (length fs) h ++ tail)
    pub behind : Alike pid rest (drop (frame_length last_slot * length fs) h)

  -- other frames may stand behind them then, where those count on as well
  pub cut-frames : (n : ℕ) (fs old new : List (List ℕ)) (rest g h : List ℕ) → Counted kind pid n (fs ++ old)
      → ((m : ℕ) → Counted kind pid m old → Counted kind pid m new) → g ≡ flatten fs ++ rest → Alike pid g h → Cut n fs new rest h
  unfolding frames_from flatten
  cut-frames n [] old new rest g h c on e a = record { counts = on n c; behind = subst (λ (x : List ℕ). Alike pid x h) e a }
  cut-frames n (f ∷ fs) old new rest g h (and_then good c) on e a =
      let first : g ≡ f ++ (flatten fs ++ rest) = e ∙ append_assoc f (flatten fs) rest in
      let later : drop (frame_length last_slot) g ≡ flatten fs ++ rest =
      ap (drop (frame_length last_slot)) first ∙ drop_at f (flatten fs ++ rest) (frame_length last_slot) (good.long ∙ ap (λ (n : ℕ). packet_length * (n + 1)) slots) in
      let ih = cut-frames ((n + 1) % 16) fs old new rest (drop (frame_length last_slot) g) (drop (frame_length last_slot) h) c on later (later_alike g h a) in
      let at : frame_length last_slot + frame_length last_slot * length fs ≡ frame_length last_slot * suc (length fs) = omega arith in
      record {
        counts = and_then (first_good n f (flatten fs ++ rest) g h good first a) ih.counts;
        behind = subst (Alike pid rest) (drop-drop (frame_length last_slot * length fs) (frame_length last_slot) h ∙ ap (λ (k : ℕ). drop k h) at) ih.behind;
      }
