-- Bytes that have the packets with one number, and how many bytes these are. Assumes nothing.
use Prim.Native.Nat.{ℕ, zero, suc, ◌+◌, ◌*◌, ◌≤◌}
use mathlib.Core.Path.{◌≡◌, refl, ap₂, ◌∙◌}
use mathlib.Core.Bool.{Bool, true, false, cond}
use mathlib.Core.List.{List, [], ◌∷◌, ◌++◌}
use native.Mathlib.Omega.{arith}
use borrow.Author.Tests.{eqb-true, ne_eqb}
use lib.Dec.{eqb}
use lib.ListN.{length, take, drop, length-append, length-drop}
use lib.Seq.{length-take-le}
use Rattle.bits.specs.Fields.{Fit, more as fit_more}
use Rattle.slices.specs.Slices.{some_at_least}
use Rattle.setting.proofs.Fields.{fit_some}
use Rattle.packet.specs.Packets.{packet_length}
use Rattle.receiver.specs.Store.{numbered, slots_for, HasPackets, none, more}

-- as many bytes as slots with the number have
pub length-numbered : (r : ℕ) (ns bytes : List ℕ) → HasPackets r ns bytes → length (numbered r ns bytes) ≡ packet_length * slots_for r ns
unfolding numbered slots_for
length-numbered r [] bytes h = refl
length-numbered r (n ∷ ns) bytes (more h t) = by_number (eqb n r) h (length-numbered r ns (drop packet_length bytes) t)
  where
    by_number : (t : Bool) → (t ≡ true → packet_length ≤ length bytes) → length (numbered r ns (drop packet_length bytes)) ≡ packet_length * slots_for r ns
        → length (cond t (take packet_length bytes ++ numbered r ns (drop packet_length bytes)) (numbered r ns (drop packet_length bytes))) ≡ packet_length * (cond t 1 0 + slots_for r ns)
    by_number true h later =
        length-append (take packet_length bytes) (numbered r ns (drop packet_length bytes)) ∙ ap₂ ◌+◌ (length-take-le packet_length bytes (h refl)) later ∙ omega arith
    by_number false h later = later ∙ omega arith

-- where every number is zero, no stream has a slot
no_packets : (r : ℕ) (ns bytes : List ℕ) → 1 ≤ r → Fit 0 ns → HasPackets r ns bytes
no_packets r [] bytes h f = none
no_packets r (n ∷ ns) bytes h (fit_more l f) = more (λ (e : eqb n r ≡ true). absurd (omega (arith, eqb-true n r e, l, h))) (no_packets r ns (drop packet_length bytes) h f)

-- a packet for each of k slots, and no number behind them
pub has_packets : (r k : ℕ) (ns bytes : List ℕ) → 1 ≤ r → some_at_least 1 (drop k ns) ≡ false → packet_length * k ≤ length bytes → HasPackets r ns bytes
has_packets r k ns bytes h e l = by_slot k ns bytes (fit_some 0 (drop k ns) e) l
  where
    by_slot : (k : ℕ) (ns bytes : List ℕ) → Fit 0 (drop k ns) → packet_length * k ≤ length bytes → HasPackets r ns bytes
    by_slot zero ns bytes f l = no_packets r ns bytes h f
    by_slot (suc k) [] bytes f l = none
    by_slot (suc k) (n ∷ ns) bytes f l = more {bytes = bytes} (λ (e : eqb n r ≡ true). omega arith) (by_slot k ns (drop packet_length bytes) f (rw length-drop (omega arith)))

-- no stream's number is that of more than k slots, where no number stands behind these
pub for_at_most : (r k : ℕ) (ns : List ℕ) → 1 ≤ r → some_at_least 1 (drop k ns) ≡ false → slots_for r ns ≤ k
unfolding slots_for
for_at_most r k ns h e = by_slot k ns (fit_some 0 (drop k ns) e)
  where
    by_test : (b : Bool) (k m : ℕ) → m ≤ k → cond b 1 0 + m ≤ suc k
    by_test true k m h = omega arith
    by_test false k m h = omega arith

    by_slot : (k : ℕ) (ns : List ℕ) → Fit 0 (drop k ns) → slots_for r ns ≤ k
    by_slot k [] f = omega arith
    by_slot zero (n ∷ ns) (fit_more l f) =
        let other : eqb n r ≡ false = ne_eqb n r (λ (e : n ≡ r). omega (arith, e, l, h)) in
        rw other (omega (arith, by_slot zero ns f))
    by_slot (suc k) (n ∷ ns) f = by_test (eqb n r) k (slots_for r ns) (by_slot k ns f)
