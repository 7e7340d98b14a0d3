-- A frame into which a stream is being placed, slot after slot: what the loop needs that does it. Assumes nothing.
use Prim.Native.Nat.{ℕ, zero, suc, ◌+◌, ◌-◌, ◌*◌, ◌/◌, ◌^◌, ◌≤◌, ◌<◌}
use mathlib.Core.Path.{◌≡◌, refl, sym, ap, ap₂, ◌∙◌}
use mathlib.Core.Bool.{Bool, true, false, ◌||◌, or-true, or-false}
use mathlib.Core.Logic.{◌⊎◌, inl, inr, ⊎_elim}
use mathlib.Core.List.{List, [], ◌∷◌, ◌++◌, map, zip_with, append_assoc}
use native.Mathlib.Decide.{dec_lt}
use native.Mathlib.Omega.{arith}
use lib.Count.{count_trailing_zeros}
use lib.Dec.{eqb}
use lib.Pow.{pow_mono}
use lib.ListN.{length, take, drop, set, replicate, length-append, length-drop, length-map, length-replicate}
use lib.Seq.{take_at, drop_at, take-add, drop-drop, length-take-le}
use Rattle.slices.proofs.Front.{put}
use Rattle.counters.specs.Counters.{last_slot}
use Rattle.packet.specs.Packets.{packet_length, rest_of}
use Rattle.composer.specs.Slots.{first_slots, slots_in, filled_by, slots_with}
use Rattle.composer.specs.States.{mark_byte, marks_of}
use Rattle.composer.proofs.Slots.{slots-over}
use Rattle.slot_bits.specs.Bits.{as_bits, slots_as_bits}
use Rattle.slot_bits.proofs.Bits.{FirstSlot, first_slot}

-- ---- slots of which the first t are passed over

abbrev passing : ℕ → List Bool → List Bool
passing t bs = replicate t false ++ bs

first_pass : (n t : ℕ) (bs : List Bool) → first_slots n (passing t bs) ≡ passing t (first_slots n bs)
unfolding first_slots
first_pass n zero bs = refl
first_pass n (suc t) bs = ap (λ (l : List Bool). false ∷ l) (first_pass n t bs)

many_pass : (t : ℕ) (bs : List Bool) → slots_in (passing t bs) ≡ slots_in bs
unfolding slots_in
many_pass zero bs = refl
many_pass (suc t) bs = many_pass t bs

slots_pass : (t : ℕ) (bs : List Bool) (stream slots : List ℕ)
    → slots_with (passing t bs) stream slots ≡ take (packet_length * t) slots ++ slots_with bs stream (drop (packet_length * t) slots)
unfolding slots_with
slots_pass zero bs stream slots = refl
slots_pass (suc t) bs stream slots =
    let more : packet_length + packet_length * t ≡ packet_length * suc t = omega arith in
    ap (λ (l : List ℕ). take packet_length slots ++ l) (slots_pass t bs stream (drop packet_length slots))
    ∙ sym (append_assoc (take packet_length slots) (take (packet_length * t) (drop packet_length slots)) _)
    ∙ ap₂ (λ (x y : List ℕ). x ++ slots_with bs stream y) (sym (take-add packet_length (packet_length * t) slots)) (drop-drop (packet_length * t) packet_length slots)
    ∙ ap (λ (n : ℕ). take n slots ++ slots_with bs stream (drop n slots)) more

-- the next one takes packet p: once it is there, the slot is one of those that stay
slots-one : (t : ℕ) (later : List Bool) (stream slots p : List ℕ) (k : ℕ) → k ≡ packet_length → length p ≡ packet_length → packet_length * t ≤ length slots
    → p ≡ take packet_length stream
    → slots_with (passing t (false ∷ later)) (drop packet_length stream) (put (packet_length * t) k slots p) ≡ slots_with (passing t (true ∷ later)) stream slots
unfolding slots_with
slots-one t later stream slots p k l long h e =
    let at = packet_length * t in
    let front = length-take-le at slots h in
    let behind = p ++ drop k (drop at slots) in
    slots_pass t (false ∷ later) (drop packet_length stream) (put at k slots p)
    ∙ ap₂ (λ (x y : List ℕ). x ++ (take packet_length y ++ slots_with later (drop packet_length stream) (drop packet_length y)))
    (take_at (take at slots) behind at front) (drop_at (take at slots) behind at front)
    ∙ ap₂ (λ (x y : List ℕ). take at slots ++ (x ++ slots_with later (drop packet_length stream) y))
    (take_at p _ packet_length long ∙ e) (drop_at p _ packet_length long ∙ ap (λ (n : ℕ). drop n (drop at slots)) l)
    ∙ sym (slots_pass t (true ∷ later) stream slots)

-- none is left, or no packet
none_left : (n : ℕ) (bs : List Bool) → (as_bits bs ≡ 0) ⊎ (n ≡ 0) → first_slots n bs ≡ replicate (length bs) false
unfolding first_slots as_bits
none_left n [] none = refl
none_left n (false ∷ bs) none = ap (λ (l : List Bool). false ∷ l) (none_left n bs (⊎_elim (λ z. inl (omega arith)) (λ z. inr z) none))
none_left zero (true ∷ bs) none = ap (λ (l : List Bool). false ∷ l) (none_left zero bs (inr refl))
none_left (suc n) (true ∷ bs) none = absurd (⊎_elim (λ z. omega arith) (λ z. omega arith) none)

-- ---- the marks

set-map : {A B : Type 0} (f : A → B) (xs : List A) (i : ℕ) (x : A) → map f (set xs i x) ≡ set (map f xs) i (f x)
set-map f [] i x = refl
set-map f (y ∷ ys) zero x = refl
set-map f (y ∷ ys) (suc i) x = ap (λ (l : List _). f y ∷ l) (set-map f ys i x)

-- a slot that is marked is one of those that stay
marks-one : (t : ℕ) (later ms : List Bool) → zip_with ◌||◌ (set ms t true) (passing t (false ∷ later)) ≡ zip_with ◌||◌ ms (passing t (true ∷ later))
unfolding zip_with
marks-one t later [] = refl
marks-one zero later (m ∷ ms) = ap (λ (b : Bool). b ∷ zip_with ◌||◌ ms later) (sym (or-true m))
marks-one (suc t) later (m ∷ ms) = ap (λ (l : List Bool). (m || false) ∷ l) (marks-one t later ms)

marks-over : (ms : List Bool) (n : ℕ) → length ms ≡ n → zip_with ◌||◌ ms (replicate n false) ≡ ms
unfolding zip_with
marks-over [] n l = refl
marks-over (m ∷ ms) zero l = absurd (omega arith)
marks-over (m ∷ ms) (suc n) l = ap₂ (λ (b : Bool) (r : List Bool). b ∷ r) (or-false m) (marks-over ms n (omega arith))

-- bytes that are marks stay so
pub mark_more : (bytes : List ℕ) (i : ℕ) → map mark_byte (marks_of bytes) ≡ bytes → map mark_byte (marks_of (set bytes i 1)) ≡ set bytes i 1
unfolding mark_byte
mark_more bytes i e =
    ap (map mark_byte) (set-map (λ (b : ℕ). eqb b 1) bytes i 1) ∙ set-map mark_byte (marks_of bytes) i true ∙ ap (λ (l : List ℕ). set l i 1) e

-- ---- the loop

-- a bit of a number that has so many
pub bit_inside : {i k m : ℕ} → 2 ^ i ≤ m → m < 2 ^ k → i < k
bit_inside {i} {k} h l = either (dec_lt i k)
  where
    either : Dec (i < k) → i < k
    either (yes e) = e
    either (no n) = let over : 2 ^ k ≤ 2 ^ i = pow_mono (omega arith) in absurd (omega arith)

module _ (empty : List Bool) (stream frame₀ bytes₀ : List ℕ) where
  -- `now` is left of the stream, and m has the slots that are left: what follows makes of the frame and the marks as they are what the
  -- whole makes of them as they were
  pub record Placing (frame bytes now : List ℕ) (m : ℕ) : Type 0 where
    pub left : List Bool
    pub long : length left ≡ last_slot
    pub bits : m ≡ slots_as_bits left
    pub frame_is : slots_with (false ∷ filled_by now left) now frame ≡ slots_with (false ∷ filled_by stream empty) stream frame₀
    pub marks_are : zip_with ◌||◌ (marks_of bytes) (filled_by now left) ≡ zip_with ◌||◌ (marks_of bytes₀) (filled_by stream empty)
    pub rest_is : rest_of now (slots_in (filled_by now left)) ≡ rest_of stream (slots_in (filled_by stream empty))

  pub placing_none : length empty ≡ last_slot → {m : ℕ} → m ≡ slots_as_bits empty → Placing frame₀ bytes₀ stream m
  placing_none l e = record { left = empty; long = l; bits = e; frame_is = refl; marks_are = refl; rest_is = refl }

  module _ {frame bytes now : List ℕ} {m : ℕ} (p : Placing frame bytes now m) where
    -- a packet is placed in the first slot that is left
    module _ (some : m ≡ 0 → ⊥) where
      abbrev slot : ℕ
      slot = count_trailing_zeros 64 m

      next : FirstSlot p.left slot
      next = rw p.bits (first_slot p.left (omega (arith, p.long)) (λ z. some (p.bits ∙ z)))

      -- so many slots stand before it
      abbrev t : ℕ
      t = next.before

      passed : length (passing t (true ∷ next.later)) ≡ last_slot
      passed = sym (ap length next.slots) ∙ p.long

      pub slot_inside : (1 ≤ slot) × (slot ≤ last_slot) × (2 ^ slot ≤ m)
      slot_inside =
          let behind = length-append (replicate t false) (true ∷ next.later) in
          let before : length (replicate t false) ≡ t = length-replicate t false in
          rw next.number (omega arith, omega (arith, passed), omega (arith, p.bits, next.bits))

      module _ (room : packet_length ≤ length now) where
        abbrev n : ℕ
        n = length (drop packet_length now) / packet_length

        one : length now / packet_length ≡ suc n
        one = omega (arith, length-drop packet_length now)

        before : filled_by now p.left ≡ passing t (true ∷ first_slots n next.later)
        unfolding first_slots filled_by
        before = ap₂ first_slots one next.slots ∙ first_pass (suc n) t (true ∷ next.later)

        behind : filled_by (drop packet_length now) (passing t (false ∷ next.later)) ≡ passing t (false ∷ first_slots n next.later)
        unfolding first_slots filled_by
        behind = first_pass n t (false ∷ next.later)

        pub placing_more : (k : ℕ) → k ≡ packet_length → (ys : List ℕ) → ys ≡ take packet_length now → packet_length * slot ≤ length frame
            → Placing (put (packet_length * slot) k frame ys) (set bytes (slot - 1) 1) (drop packet_length now) (m - 2 ^ slot)
        unfolding rest_of slots_in
        placing_more k l ys y inside =
            let later = first_slots n next.later in
            let many = slots_in later in
            let whole = ap length y ∙ length-take-le packet_length now room in
            let same : packet_length + packet_length * many ≡ packet_length * suc many = omega arith in
            let index : suc t - 1 ≡ t = omega arith in
            let fits : packet_length * suc t ≤ length frame = rw next.number at inside in
            rw (next.number, index)
            (record {
              left = passing t (false ∷ next.later);
              long = length-append (replicate t false) (false ∷ next.later) ∙ sym (length-append (replicate t false) (true ∷ next.later)) ∙ passed;
              bits = omega (arith, p.bits, next.bits);
              frame_is =
                  ap (λ (bs : List Bool). slots_with (false ∷ bs) (drop packet_length now) (put (packet_length * suc t) k frame ys)) behind
                  ∙ slots-one (suc t) later now frame ys k l whole fits y
                  ∙ ap (λ (bs : List Bool). slots_with (false ∷ bs) now frame) (sym before) ∙ p.frame_is;
              marks_are =
                  ap₂ (zip_with ◌||◌) (set-map (λ (b : ℕ). eqb b 1) bytes t 1) behind ∙ marks-one t later (marks_of bytes)
                  ∙ ap (zip_with ◌||◌ (marks_of bytes)) (sym before) ∙ p.marks_are;
              rest_is =
                  ap (λ (bs : List Bool). drop (packet_length * slots_in bs) (drop packet_length now)) behind
                  ∙ ap (λ (i : ℕ). drop (packet_length * i) (drop packet_length now)) (many_pass t (false ∷ later))
                  ∙ drop-drop (packet_length * many) packet_length now ∙ ap (λ (i : ℕ). drop i now) same
                  ∙ ap (λ (i : ℕ). drop (packet_length * i) now) (sym (many_pass t (true ∷ later)))
                  ∙ ap (λ (bs : List Bool). drop (packet_length * slots_in bs) now) (sym before) ∙ p.rest_is;
            })

    -- nothing is left to place
    module _ (none : (m ≡ 0) ⊎ (length now < packet_length)) where
      over : filled_by now p.left ≡ replicate last_slot false
      unfolding filled_by slots_as_bits as_bits
      over =
          none_left (length now / packet_length) p.left (⊎_elim (λ z. inl (omega (arith, p.bits))) (λ h. inr (omega arith)) none)
          ∙ ap (λ (i : ℕ). replicate i false) p.long

      pub frame_done : frame ≡ slots_with (false ∷ filled_by stream empty) stream frame₀
      frame_done =
          sym (slots-over (suc last_slot) now frame) ∙ ap (λ (bs : List Bool). slots_with (false ∷ bs) now frame) (sym over) ∙ p.frame_is

      pub marks_done : length bytes ≡ last_slot → map mark_byte (marks_of bytes) ≡ bytes → bytes ≡ map mark_byte (zip_with ◌||◌ (marks_of bytes₀) (filled_by stream empty))
      marks_done l low =
          sym low
          ∙ ap (map mark_byte)
          (sym (marks-over (marks_of bytes) last_slot (length-map bytes (λ (b : ℕ). eqb b 1) ∙ l)) ∙ ap (zip_with ◌||◌ (marks_of bytes)) (sym over) ∙ p.marks_are)

      pub rest_done : now ≡ rest_of stream (slots_in (filled_by stream empty))
      unfolding rest_of slots_in
      rest_done = ap (λ (bs : List Bool). drop (packet_length * slots_in bs) now) (sym over) ∙ p.rest_is
