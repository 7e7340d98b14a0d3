-- The slots with one number, gone through in turn: how many there are, and their packets one behind the other. Assumes nothing.
use Prim.Native.Nat.{ℕ, ◌+◌, ◌*◌, ◌≤◌, ◌<◌}
use mathlib.Core.Path.{◌≡◌, refl, sym, ap, ap₂, subst, ◌∙◌}
use mathlib.Core.Bool.{Bool, true, false, cond}
use mathlib.Core.List.{List, [], ◌∷◌, ◌++◌, append_assoc}
use native.Mathlib.Nat.{zero-add}
use native.Mathlib.Numerals.{add-one}
use native.Mathlib.Omega.{arith}
use lib.Dec.{eqb}
use lib.ListN.{length, get_or, take, drop, length-drop}
use lib.Seq.{drop-cons, drop-drop, length-take-le}
use Rattle.slices.proofs.Front.{put}
use Rattle.slices.proofs.Toward.{Toward, toward_none, toward_kept, toward_part, toward_all}
use Rattle.packet.specs.Packets.{packet_length}
use Rattle.slices.specs.Slices.{over}
use Rattle.receiver.specs.Store.{numbered, slots_for, HasPackets}
use Rattle.receiver.proofs.Store.{length-numbered}

-- no slot, no packet
none_numbered : (r : ℕ) (ns bytes : List ℕ) → slots_for r ns ≡ 0 → numbered r ns bytes ≡ []
unfolding slots_for numbered
none_numbered r [] bytes z = refl
none_numbered r (n ∷ ns) bytes z = by_number (eqb n r) z (none_numbered r ns (drop packet_length bytes))
  where
    by_number : (t : Bool) → cond t 1 0 + slots_for r ns ≡ 0 → (slots_for r ns ≡ 0 → numbered r ns (drop packet_length bytes) ≡ [])
        → cond t (take packet_length bytes ++ numbered r ns (drop packet_length bytes)) (numbered r ns (drop packet_length bytes)) ≡ []
    by_number true z later = absurd (omega arith)
    by_number false z later = later (omega arith)

module _ (r : ℕ) (ns : List ℕ) (i : ℕ) where
  module _ (h : i < length ns) {t : Bool} (e : eqb (get_or ns i 0) r ≡ t) where
    -- slot i
    count-from : slots_for r (drop i ns) ≡ cond t 1 0 + slots_for r (drop (i + 1) ns)
    unfolding slots_for
    count-from =
        ap (slots_for r) (drop-cons ns i 0 h) ∙ ap₂ (λ (b : Bool) (k : ℕ). cond b 1 0 + slots_for r (drop k ns)) e (sym (add-one i))

    numbered-from : (store : List ℕ)
        → numbered r (drop i ns) (drop (packet_length * i) store)
        ≡ cond t
        (take packet_length (drop (packet_length * i) store) ++ numbered r (drop (i + 1) ns) (drop (packet_length * (i + 1)) store))
        (numbered r (drop (i + 1) ns) (drop (packet_length * (i + 1)) store))
    unfolding numbered
    numbered-from store =
        let bytes = drop (packet_length * i) store in
        let next : packet_length * i + packet_length ≡ packet_length * (i + 1) = omega arith in
        ap (λ (l : List ℕ). numbered r l bytes) (drop-cons ns i 0 h ∙ ap (λ (k : ℕ). get_or ns i 0 ∷ drop k ns) (sym (add-one i)))
        ∙ ap₂ (λ (b : Bool) (l : List ℕ). cond b (take packet_length bytes ++ numbered r (drop (i + 1) ns) l) (numbered r (drop (i + 1) ns) l))
        e (drop-drop packet_length (packet_length * i) store ∙ ap (λ (k : ℕ). drop k store) next)

-- i slots were gone through, and the bytes from at₀ to `at` stand over the buffer
module _ (r : ℕ) (ns store out₀ : List ℕ) (at₀ : ℕ) where
  pub record HandingOut (out : List ℕ) (i at : ℕ) : Type 0 where
    pub front : Toward
        (over at₀ (numbered r ns store) out₀)
        out₀
        out
        (numbered r (drop i ns) (drop (packet_length * i) store) ++ drop (at₀ + packet_length * slots_for r ns) out₀)
        at
    pub left : at + packet_length * slots_for r (drop i ns) ≡ at₀ + packet_length * slots_for r ns

  pub handing_none : HasPackets r ns store → at₀ ≤ length out₀ → HandingOut out₀ 0 at₀
  unfolding over
  handing_none h g =
      record {
        front =
            toward_kept (toward_none out₀ (over at₀ (numbered r ns store) out₀)) at₀
            (ap (λ (k : ℕ). take at₀ out₀ ++ (numbered r ns store ++ drop (at₀ + k) out₀)) (length-numbered r ns store h))
            (zero-add at₀) g;
        left = refl;
      }

  module _ {out : List ℕ} {i at : ℕ} (w : HandingOut out i at) where
    module _ (h : i < length ns) where
      abbrev rest : List ℕ
      rest = numbered r (drop (i + 1) ns) (drop (packet_length * (i + 1)) store)

      -- a slot with the number, whose packet is copied to k lent bytes
      pub handing_one : eqb (get_or ns i 0) r ≡ true → (k : ℕ) → k ≡ packet_length → (ys : List ℕ)
          → ys ≡ take packet_length (drop (packet_length * i) store) → packet_length * (i + 1) ≤ length store → HandingOut (put at k out ys) (i + 1) (at + packet_length)
      handing_one e k l ys y g =
          let more = count-from r ns i h e in
          let before = w.left in
          record {
            front =
                toward_part w.front ys k
                (ap (λ (p : List ℕ). p ++ drop (at₀ + packet_length * slots_for r ns) out₀) (numbered-from r ns i h e store)
                ∙ append_assoc (take packet_length (drop (packet_length * i) store)) rest (drop (at₀ + packet_length * slots_for r ns) out₀)
                ∙ ap (λ (p : List ℕ). p ++ (rest ++ drop (at₀ + packet_length * slots_for r ns) out₀)) (sym y))
                (ap length y ∙ length-take-le packet_length (drop (packet_length * i) store) (rw length-drop (omega arith)) ∙ sym l)
                (omega arith);
            left = omega arith;
          }

      -- a slot with another
      pub handing_passed : eqb (get_or ns i 0) r ≡ false → HandingOut out (i + 1) at
      handing_passed e =
          let more = count-from r ns i h e in
          let before = w.left in
          record {
            front =
                subst (λ (p : List ℕ). Toward (over at₀ (numbered r ns store) out₀) out₀ out (p ++ drop (at₀ + packet_length * slots_for r ns) out₀) at)
                (numbered-from r ns i h e store)
                w.front;
            left = omega arith;
          }

      -- there is room for one more
      pub room_for : eqb (get_or ns i 0) r ≡ true → at₀ + packet_length * slots_for r ns ≤ length out₀ → at + packet_length ≤ length out₀
      room_for e g =
          let more = count-from r ns i h e in
          let before = w.left in
          omega arith

    -- where no slot is left with the number
    module _ (none : slots_for r (drop i ns) ≡ 0) where
      pub handed : at ≡ at₀ + packet_length * slots_for r ns
      handed =
          let before = w.left in
          omega arith

      pub handing_all : out ≡ over at₀ (numbered r ns store) out₀
      handing_all =
          toward_all w.front
          (ap (λ (k : ℕ). drop k out₀) handed
          ∙ ap (λ (l : List ℕ). l ++ drop (at₀ + packet_length * slots_for r ns) out₀) (sym (none_numbered r (drop i ns) (drop (packet_length * i) store) none)))
