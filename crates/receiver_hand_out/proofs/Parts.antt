-- The slots with one number, sixteen at a time: what a word of marks says of them, and what is copied word by word. Assumes nothing.
use Prim.Native.Nat.{ℕ, zero, suc, ◌+◌, ◌*◌, ◌≤◌}
use mathlib.Core.Path.{◌≡◌, refl, sym, ap, ap₂, subst, ◌∙◌}
use mathlib.Core.Bool.{Bool, true, false, cond}
use mathlib.Core.List.{List, [], ◌∷◌, ◌++◌, append_assoc}
use native.Mathlib.Nat.{zero-add, add_assoc}
use native.Mathlib.Omega.{arith}
use lib.Dec.{eqb}
use lib.ListN.{length, take, drop, replicate, length-append, take-append-drop}
use lib.Seq.{take_all, take_at, drop-drop, drop-append-add, take-add, length-take-le}
use Rattle.slices.specs.Slices.{over}
use Rattle.counters.specs.Counters.{last_slot}
use Rattle.packet.specs.Packets.{packet_length}
use Rattle.receiver.specs.Store.{numbered, slots_for, HasPackets}
use Rattle.receiver.proofs.Store.{length-numbered}
use Rattle.receiver_hand_out.specs.Halves.{halves_of, marked}
use Rattle.receiver_hand_out.proofs.Marks.{marked-slots, marked-numbered, marked-held}
use Rattle.receiver_hand_out.proofs.Packets.{has_take, has_drop, has_passed}

-- ---- numbers in two parts

slots_append : (r : ℕ) (xs ys : List ℕ) → slots_for r (xs ++ ys) ≡ slots_for r xs + slots_for r ys
unfolding slots_for
slots_append r [] ys = sym (zero-add (slots_for r ys))
slots_append r (x ∷ xs) ys =
    ap (λ (k : ℕ). cond (eqb x r) 1 0 + k) (slots_append r xs ys) ∙ sym (add_assoc (cond (eqb x r) 1 0) (slots_for r xs) (slots_for r ys))

numbered_append : (r : ℕ) (xs ys bytes : List ℕ) → numbered r (xs ++ ys) bytes ≡ numbered r xs bytes ++ numbered r ys (drop (packet_length * length xs) bytes)
unfolding numbered
numbered_append r [] ys bytes = refl
numbered_append r (x ∷ xs) ys bytes =
    let next : packet_length + packet_length * length xs ≡ packet_length * suc (length xs) = omega arith in
    by_number (eqb x r) (numbered r xs (drop packet_length bytes)) (numbered r ys (drop (packet_length * suc (length xs)) bytes))
    (numbered_append r xs ys (drop packet_length bytes)
    ∙ ap (λ (l : List ℕ). numbered r xs (drop packet_length bytes) ++ numbered r ys l)
    (drop-drop (packet_length * length xs) packet_length bytes ∙ ap (λ (k : ℕ). drop k bytes) next))
  where
    by_number : (t : Bool) {all : List ℕ} (front back : List ℕ) → all ≡ front ++ back
        → cond t (take packet_length bytes ++ all) all ≡ cond t (take packet_length bytes ++ front) front ++ back
    by_number true front back e = ap (λ (l : List ℕ). take packet_length bytes ++ l) e ∙ sym (append_assoc (take packet_length bytes) front back)
    by_number false front back e = e

-- ---- what a word says

-- the marks of m are those of the slots whose numbers are hs, behind k others
pub record Says (r m : ℕ) (hs : List ℕ) (k : ℕ) : Type 0 where
  pub count : slots_for 8 (halves_of m) ≡ slots_for r hs
  pub packets : (bytes : List ℕ) → numbered 8 (halves_of m) bytes ≡ numbered r hs (drop (packet_length * k) bytes)
  pub held : (bytes : List ℕ) → HasPackets r hs (drop (packet_length * k) bytes) → HasPackets 8 (halves_of m) bytes

pub says : (r m : ℕ) {hs : List ℕ} → halves_of m ≡ marked r hs → Says r m hs 0
says r m {hs} e =
    record {
      count = ap (slots_for 8) e ∙ marked-slots r hs;
      packets = λ bytes. ap (λ (l : List ℕ). numbered 8 l bytes) e ∙ marked-numbered r hs bytes;
      held = λ bytes h. subst (λ (l : List ℕ). HasPackets 8 l bytes) (sym e) (marked-held h);
    }

-- of the last four
passed_slots : (k : ℕ) (hs : List ℕ) → slots_for 8 (replicate k 0 ++ hs) ≡ slots_for 8 hs
unfolding slots_for
passed_slots zero hs = refl
passed_slots (suc k) hs = zero-add (slots_for 8 (replicate k 0 ++ hs)) ∙ passed_slots k hs

passed_numbered : (k : ℕ) (hs bytes : List ℕ) → numbered 8 (replicate k 0 ++ hs) bytes ≡ numbered 8 hs (drop (packet_length * k) bytes)
unfolding numbered
passed_numbered zero hs bytes = refl
passed_numbered (suc k) hs bytes =
    let next : packet_length + packet_length * k ≡ packet_length * suc k = omega arith in
    passed_numbered k hs (drop packet_length bytes)
    ∙ ap (numbered 8 hs) (drop-drop (packet_length * k) packet_length bytes ∙ ap (λ (n : ℕ). drop n bytes) next)

pub says_last : (r m : ℕ) (hs : List ℕ) → halves_of m ≡ replicate 12 0 ++ marked r hs → Says r m hs 12
says_last r m hs e =
    record {
      count = ap (slots_for 8) e ∙ passed_slots 12 (marked r hs) ∙ marked-slots r hs;
      packets = λ bytes.
          ap (λ (l : List ℕ). numbered 8 l bytes) e ∙ passed_numbered 12 (marked r hs) bytes ∙ marked-numbered r hs (drop (packet_length * 12) bytes);
      held = λ bytes h. subst (λ (l : List ℕ). HasPackets 8 l bytes) (sym e) (has_passed 12 (marked-held h));
    }

-- ---- what is copied

over-next : (p q out₀ : List ℕ) (at : ℕ) → length p ≡ at → over at q (over 0 p out₀) ≡ over 0 (p ++ q) out₀
unfolding over
over-next p q out₀ at l =
    let tail = drop (0 + length p) out₀ in
    let behind : at + length q ≡ length p + length q = omega arith in
    let both = length-append p q in
    let whole : 0 + length p + length q ≡ 0 + length (p ++ q) = omega arith in
    ap₂ (λ (x y : List ℕ). x ++ (q ++ y))
    (take_at p tail at l)
    (ap (λ (k : ℕ). drop k (p ++ tail)) behind ∙ drop-append-add p tail (length q) ∙ drop-drop (length q) (0 + length p) out₀ ∙ ap (λ (k : ℕ). drop k out₀) whole)
    ∙ sym (append_assoc p q (drop (0 + length (p ++ q)) out₀))

-- the packets of the first o slots were copied, `at` bytes
module _ (r : ℕ) (ns store out₀ : List ℕ) (long : length ns ≡ last_slot) (stored : HasPackets r ns store) where
  pub record Gone (out : List ℕ) (o at : ℕ) : Type 0 where
    pub is : out ≡ over 0 (numbered r (take o ns) store) out₀
    pub bytes : at ≡ packet_length * slots_for r (take o ns)

  pub gone_none : Gone out₀ 0 0
  unfolding over numbered slots_for
  gone_none = record { is = refl; bytes = refl }

  slots_to : (o n : ℕ) → slots_for r (take (o + n) ns) ≡ slots_for r (take o ns) + slots_for r (take n (drop o ns))
  slots_to o n = ap (slots_for r) (take-add o n ns) ∙ slots_append r (take o ns) (take n (drop o ns))

  -- all of them, word by word
  pub slots-all : slots_for r (take 16 ns) + slots_for r (take 16 (drop 16 ns)) + slots_for r (take 16 (drop 32 ns)) + slots_for r (take 4 (drop 48 ns)) ≡ slots_for r ns
  slots-all =
      let all = ap (slots_for r) (take_all last_slot ns (omega arith)) in
      let c = slots_to 48 4 in
      let b = slots_to 32 16 in
      let a = slots_to 16 16 in
      omega arith

  module _ {out : List ℕ} {o at : ℕ} (g : Gone out o at) (m n k f : ℕ) (s : Says r m (take n (drop o ns)) k) (h : o + n ≤ last_slot) where
    -- the next n, of a word whose first slot is the one behind f
    pub gone_more : f + k ≡ o → {next : List ℕ} {at' : ℕ}
        → next ≡ over at (numbered 8 (halves_of m) (drop (packet_length * f) store)) out
        → at' ≡ at + packet_length * slots_for 8 (halves_of m)
        → Gone next (o + n) at'
    gone_more e {next} {at'} x a =
        let done = take o ns in
        let front : length done ≡ o = length-take-le o ns (omega arith) in
        let end : packet_length * f + packet_length * k ≡ packet_length * length done = omega arith in
        let more = slots_to o n in
        let here = s.count in
        let before = g.bytes in
        let long-enough : length (numbered r done store) ≡ at = length-numbered r done store (has_take o stored) ∙ sym before in
        record {
          is =
              x
              ∙ ap₂ (over at)
              (s.packets (drop (packet_length * f) store)
              ∙ ap (numbered r (take n (drop o ns))) (drop-drop (packet_length * k) (packet_length * f) store ∙ ap (λ (i : ℕ). drop i store) end))
              g.is
              ∙ over-next (numbered r done store) (numbered r (take n (drop o ns)) (drop (packet_length * length done) store)) out₀ at long-enough
              ∙ ap (λ (l : List ℕ). over 0 l out₀)
              (sym (numbered_append r done (take n (drop o ns)) store) ∙ ap (λ (l : List ℕ). numbered r l store) (sym (take-add o n ns)));
          bytes = omega arith;
        }

    -- the store has its packets
    pub gone_held : f + k ≡ o → HasPackets 8 (halves_of m) (drop (packet_length * f) store)
    gone_held e =
        let end : packet_length * f + packet_length * k ≡ packet_length * o = omega arith in
        s.held (drop (packet_length * f) store)
        (subst (HasPackets r (take n (drop o ns))) (sym (drop-drop (packet_length * k) (packet_length * f) store ∙ ap (λ (i : ℕ). drop i store) end)) (has_take n (has_drop o stored)))

    pub gone_room : packet_length * slots_for r ns ≤ length out₀ → at + packet_length * slots_for 8 (halves_of m) ≤ length out₀
    gone_room e =
        let more = slots_to o n in
        let rest = slots_append r (take (o + n) ns) (drop (o + n) ns) in
        let whole = ap (slots_for r) (take-append-drop (o + n) ns) in
        let here = s.count in
        let before = g.bytes in
        omega arith

  pub gone_all : {out : List ℕ} {at : ℕ} → Gone out last_slot at → out ≡ over 0 (numbered r ns store) out₀
  gone_all g = g.is ∙ ap (λ (l : List ℕ). over 0 (numbered r l store) out₀) (take_all last_slot ns (omega arith))
