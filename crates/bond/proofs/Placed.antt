-- Packets written over a buffer, each at a place of its own, and read again from there. Assumes nothing.
use Prim.Native.Nat.{ℕ, zero, suc, ◌+◌, ◌-◌, ◌*◌, ◌≤◌, ◌<◌}
use mathlib.Core.Path.{◌≡◌, refl, sym, ap, ap₂, subst, ◌∙◌}
use mathlib.Core.List.{List, [], ◌∷◌, ◌++◌, append_assoc}
use native.Mathlib.Omega.{arith}
use native.Mathlib.Decide.{dec_lt}
use lib.ListN.{length, get_or, take, drop, length-append, length-drop, take-append-drop}
use lib.Seq.{take-append-le, drop-append-le, drop-append-add, take-append_seam, drop-append_seam, length-take-le, drop-drop}
use Rattle.slices.specs.Slices.{over, Among, here, there}
use Rattle.packet.specs.Packets.{packet_length, slot}
use Rattle.bond_places.specs.Order.{Rising, none, more}
use Rattle.bond_group.specs.Group.{place_in, earlier}
use Rattle.bond.specs.Bonding.{spread_over, gathered}
use Rattle.bond.specs.Listing.{Within}
use Rattle.bond_places.proofs.Order.{strict_total}

-- a packet that lies in the front of a buffer is one of the front
pub slot-front : (m : ℕ) (xs ys : List ℕ) → packet_length * m + packet_length ≤ length xs → slot m (xs ++ ys) ≡ slot m xs
unfolding slot
slot-front m xs ys h =
    ap (take packet_length) (drop-append-le (packet_length * m) xs ys (omega arith))
    ∙ take-append-le packet_length (drop (packet_length * m) xs) ys (rw length-drop (omega arith))

module _ (n : ℕ) (p g : List ℕ) (l : length p ≡ packet_length) (h : packet_length * n + packet_length ≤ length g) where
  abbrev at : ℕ
  at = packet_length * n

  front_long : length (take at g) ≡ at
  front_long = length-take-le at g (omega arith)

  length_over : length (over (packet_length * n) p g) ≡ length g
  unfolding over
  length_over =
      length-append (take at g) (p ++ drop (at + length p) g)
      ∙ ap₂ ◌+◌ front_long (length-append p (drop (at + length p) g) ∙ ap (λ (k : ℕ). length p + k) (length-drop (at + length p) g))
      ∙ omega (arith, l)

  -- the packet stands there
  slot-here : slot n (over at p g) ≡ p
  unfolding slot over
  slot-here =
      ap (take packet_length) (ap (λ (k : ℕ). drop k (take at g ++ (p ++ drop (at + length p) g))) (sym front_long) ∙ drop-append_seam (take at g) (p ++ drop (at + length p) g))
      ∙ ap (λ (k : ℕ). take k (p ++ drop (at + length p) g)) (sym l) ∙ take-append_seam p (drop (at + length p) g)

  before : (m : ℕ) → m < n → slot m (over at p g) ≡ slot m g
  unfolding over
  before m b =
      let e : packet_length * m + packet_length ≤ length (take at g) = rw front_long (omega arith) in
      slot-front m (take at g) (p ++ drop (at + length p) g) e
      ∙ sym (slot-front m (take at g) (drop at g) e)
      ∙ ap (slot m) (take-append-drop at g)

  -- what lies behind it
  drop-over : (d : ℕ) → drop (at + packet_length + d) (over at p g) ≡ drop (at + packet_length + d) g
  unfolding over
  drop-over d =
      ap₂ drop (ap (λ (k : ℕ). k + d) (sym long)) (sym (append_assoc (take at g) p (drop (at + length p) g)))
      ∙ drop-append-add (take at g ++ p) (drop (at + length p) g) d
      ∙ ap (λ (k : ℕ). drop d (drop (at + k) g)) l ∙ drop-drop d (at + packet_length) g
    where
      long : length (take at g ++ p) ≡ at + packet_length
      long = length-append (take at g) p ∙ ap₂ ◌+◌ front_long l

  behind : (m : ℕ) → n < m → slot m (over at p g) ≡ slot m g
  unfolding slot
  behind m b =
      let e : packet_length * m ≡ at + packet_length + (packet_length * m - (at + packet_length)) = omega arith in
      ap (take packet_length) (ap (λ (k : ℕ). drop k (over at p g)) e ∙ drop-over (packet_length * m - (at + packet_length)) ∙ ap (λ (k : ℕ). drop k g) (sym e))

  -- every other one is as it was
  slot_other : (m : ℕ) → (m ≡ n → ⊥) → slot m (over at p g) ≡ slot m g
  slot_other m d = by_order (dec_lt m n) (dec_lt n m)
    where
      by_order : Dec (m < n) → Dec (n < m) → slot m (over at p g) ≡ slot m g
      by_order (yes a) _ = before m a
      by_order (no a) (yes b) = behind m b
      by_order (no a) (no b) = absurd (d (omega arith))

-- no packet twice
pub data Apart : List ℕ → Type 0 where
  empty : Apart []
  beside : {m : ℕ} {ms : List ℕ} → (Among m ms → ⊥) → Apart ms → Apart (m ∷ ms)

-- what rises has nothing twice
pub apart : (group ms : List ℕ) → Rising (earlier group) ms → Apart ms
apart group [] none = empty
apart group (m ∷ ms) (more h r) = beside (λ a. strict_total.irreflexive (place_in group m) (h m a)) (apart group ms r)

module _ (m : ℕ) (ms stream g : List ℕ) (w : Within (m ∷ ms) g) (l : length stream ≡ packet_length * length (m ∷ ms)) where
  abbrev one : List ℕ
  one = take packet_length stream

  first-long : length one ≡ packet_length
  first-long = length-take-le packet_length stream (omega (arith, l))

  rest-long : length (drop packet_length stream) ≡ packet_length * length ms
  rest-long = length-drop packet_length stream ∙ omega (arith, l)

  abbrev next : List ℕ
  next = over (packet_length * m) one g

  next-long : length next ≡ length g
  next-long = length_over m one g first-long (w m here)

  next-within : Within ms next
  next-within x a = rw next-long (w x (there a))

-- a packet that is not among them stays
pub spread_other : (ms stream g : List ℕ) → Within ms g → length stream ≡ packet_length * length ms
    → (x : ℕ) → (Among x ms → ⊥) → slot x (spread_over ms stream g) ≡ slot x g
unfolding spread_over
spread_other [] stream g w l x d = refl
spread_other (m ∷ ms) stream g w l x d =
    spread_other ms (drop packet_length stream) (next m ms stream g w l) (next-within m ms stream g w l) (rest-long m ms stream g w l) x (λ a. d (there a))
    ∙ slot_other m (one m ms stream g w l) g (first-long m ms stream g w l) (w m here) x
    (λ e. d (subst (λ (y : ℕ). Among y (m ∷ ms)) (sym e) here))

pub length-spread : (ms stream g : List ℕ) → Within ms g → length stream ≡ packet_length * length ms → length (spread_over ms stream g) ≡ length g
unfolding spread_over
length-spread [] stream g w l = refl
length-spread (m ∷ ms) stream g w l =
    length-spread ms (drop packet_length stream) (next m ms stream g w l) (next-within m ms stream g w l) (rest-long m ms stream g w l)
    ∙ next-long m ms stream g w l

-- what was spread is gathered again
pub spread-gathered : (ms stream g : List ℕ) → Apart ms → Within ms g → length stream ≡ packet_length * length ms
    → gathered ms (spread_over ms stream g) ≡ stream
unfolding spread_over gathered
spread-gathered [] (x ∷ stream) g empty w l = absurd (omega (arith, l))
spread-gathered [] [] g empty w l = refl
spread-gathered (m ∷ ms) stream g (beside d a) w l =
    ap₂ ◌++◌
    (spread_other ms (drop packet_length stream) (next m ms stream g w l) (next-within m ms stream g w l) (rest-long m ms stream g w l) m d
    ∙ slot-here m (one m ms stream g w l) g (first-long m ms stream g w l) (w m here))
    (spread-gathered ms (drop packet_length stream) (next m ms stream g w l) a (next-within m ms stream g w l) (rest-long m ms stream g w l))
    ∙ take-append-drop packet_length stream

-- the k-th place has the k-th packet
pub spread-slot : (ms stream g : List ℕ) → Apart ms → Within ms g → length stream ≡ packet_length * length ms
    → (k : ℕ) → k < length ms → slot (get_or ms k 0) (spread_over ms stream g) ≡ slot k stream
unfolding spread_over slot
spread-slot [] stream g a w l k h = absurd (omega arith)
spread-slot (m ∷ ms) stream g (beside d a) w l zero h =
    spread_other ms (drop packet_length stream) (next m ms stream g w l) (next-within m ms stream g w l) (rest-long m ms stream g w l) m d
    ∙ slot-here m (one m ms stream g w l) g (first-long m ms stream g w l) (w m here)
spread-slot (m ∷ ms) stream g (beside d a) w l (suc k) h =
    let e : packet_length + packet_length * k ≡ packet_length * suc k = omega arith in
    spread-slot ms (drop packet_length stream) (next m ms stream g w l) a (next-within m ms stream g w l) (rest-long m ms stream g w l) k (omega arith)
    ∙ ap (take packet_length) (drop-drop (packet_length * k) packet_length stream ∙ ap (λ (n : ℕ). drop n stream) e)
