-- The plan of a group that passes the checks: its marks are the bonded packets, and the walk by it finds them in order. Assumes nothing.
use Prim.Native.Nat.{ℕ, zero, suc, ◌+◌, ◌-◌, ◌*◌, ◌/◌, ◌%◌, ◌≤◌, ◌<◌}
use mathlib.Core.Path.{◌≡◌, refl, sym, ap, ap₂, ◌∙◌}
use mathlib.Core.Logic.{◌⊎◌, inl, inr}
use mathlib.Core.Bool.{Bool, true, false, cond, ◌&&◌, ◌||◌, true≢false}
use mathlib.Core.List.{List, [], ◌∷◌, ◌++◌, map}
use native.Mathlib.Omega.{arith}
use native.Mathlib.Decide.{dec_lt, ℕ_discrete}
use borrow.Author.Tests.{le-ltb}
use lib.Dec.{ltb, eqb}
use lib.ListN.{length, get_or, set, length-set, length-replicate, length-append}
use lib.Seq.{get_or-set_same, get_or-set_other}
use Rattle.slices.specs.Slices.{any_below}
use Rattle.setting.specs.declared.Setting.{Setting}
use Rattle.bond_group.specs.declared.Bond.{Bond}
use Rattle.bond_places.specs.Order.{picked, frame_packets}
use Rattle.counters.specs.Counters.{last_carrier}
use Rattle.bond_places.specs.Walk.{most_frames, twelfths, place_at, packet_at, is_stop, is_marked, stops}
use Rattle.bond_group.specs.Group.{frames_in, packets_in, said, carries, bonded_slot, bonded, place_in, earlier, order}
use Rattle.bond_group.specs.Plan.{marks, nothing_seen, seen, plan_after}
use Rattle.bond_group.proofs.Marks.{picked_few, marks-bit, marks_ones}
use Rattle.bond_places.proofs.Sorting.{length-sorted, picked_append}
use Rattle.bond_places.proofs.Frames.{frames-within}
use Rattle.bond_places.proofs.Sweep.{Grouped, NoHeader, swept}
use Rattle.bond_group.proofs.Standing.{Stands, Whole}
use Rattle.bond_group.proofs.Grouping.{frames_fit, grouped}

-- ---- picked

-- the same numbers by tests that agree on them
picked_same : (t t' : ℕ → Bool) (s n : ℕ) → ((u : ℕ) → s ≤ u → u < s + n → t u ≡ t' u) → picked t s n ≡ picked t' s n
unfolding picked
picked_same t t' s zero h = refl
picked_same t t' s (suc n) h =
    ap₂ (λ (x : Bool) (ms : List ℕ). cond x (s ∷ []) [] ++ ms) (h s (omega arith) (omega arith))
    (picked_same t t' (s + 1) n (λ u l m. h u (omega arith) (omega arith)))

-- as many of as many that agree one for one
picked-shift : (t t' : ℕ → Bool) (s s' n : ℕ) → ((i : ℕ) → i < n → t (s + i) ≡ t' (s' + i)) → length (picked t s n) ≡ length (picked t' s' n)
unfolding picked
picked-shift t t' s s' zero h = refl
picked-shift t t' s s' (suc n) h =
    length-append (cond (t s) (s ∷ []) []) (picked t (s + 1) n)
    ∙ ap₂ ◌+◌ (one (t s) (t' s') (first (h 0 (omega arith)))) (picked-shift t t' (s + 1) (s' + 1) n (λ i l. later i (h (suc i) (omega arith))))
    ∙ sym (length-append (cond (t' s') (s' ∷ []) []) (picked t' (s' + 1) n))
  where
    one : (x y : Bool) → x ≡ y → length (cond x (s ∷ []) []) ≡ length (cond y (s' ∷ []) [])
    one true true e = refl
    one false false e = refl
    one true false e = absurd (true≢false e)
    one false true e = absurd (true≢false (sym e))

    first : t (s + 0) ≡ t' (s' + 0) → t s ≡ t' s'
    first e = let a : s ≡ s + 0 = omega arith in let b : s' + 0 ≡ s' = omega arith in ap t a ∙ e ∙ ap t' b

    later : (i : ℕ) → t (s + suc i) ≡ t' (s' + suc i) → t (s + 1 + i) ≡ t' (s' + 1 + i)
    later i e = let a : s + 1 + i ≡ s + suc i = omega arith in let b : s' + suc i ≡ s' + 1 + i = omega arith in ap t a ∙ e ∙ ap t' b

none_picked : (t : ℕ → Bool) (s : ℕ) → 0 ≡ length (picked t s 0)
unfolding picked
none_picked t s = refl

-- a place is one of its super frame
place_short : (t f : ℕ) → (f ≡ 3) ⊎ (f ≡ 4) → t < twelfths → place_at t f < frame_packets * f
unfolding place_at
place_short t f (inl e) l = rw e (by_test (eqb (t % 4) 0))
  where
    by_test : (x : Bool) → cond x (t / 4) 0 < 159
    by_test true = omega arith
    by_test false = omega arith
place_short t f (inr e) l = rw e (by_test (eqb (t % 3) 0))
  where
    by_test : (x : Bool) → cond x (t / 3) 0 < 212
    by_test true = omega arith
    by_test false = omega arith

-- ---- what the plan says after j headers

module _ (b : Bond) (group : List ℕ) where
  pub carried : (j : ℕ) → (plan_after b group j).is_carried ≡ any_below j (λ i. carries b (said group i))
  unfolding plan_after nothing_seen seen any_below
  carried zero = refl
  carried (suc j) = ap (λ (x : Bool). x || carries b (said group j)) (carried j)

  -- the header is no bonded slot
  header-bare : (s : Setting) → bonded_slot b s 0 ≡ false
  unfolding bonded_slot
  header-bare s = refl

  -- of frame j as of the group
  bonded-at : (j i : ℕ) → i < frame_packets → bonded b group (frame_packets * j + i) ≡ bonded_slot b (said group j) i
  unfolding bonded
  bonded-at j i l =
      let q : (frame_packets * j + i) / frame_packets ≡ j = omega arith in
      let r : (frame_packets * j + i) % frame_packets ≡ i = omega arith in
      ap₂ (λ (x y : ℕ). bonded_slot b (said group x) y) q r

  pub counted : (j : ℕ) → (plan_after b group j).packets ≡ length (picked (bonded b group) 0 (frame_packets * j))
  unfolding plan_after nothing_seen seen marks
  counted zero = none_picked (bonded b group) 0
  counted (suc j) =
      let a : frame_packets * suc j ≡ frame_packets * j + frame_packets = omega arith in
      ap₂ ◌+◌ (counted j)
      (marks_ones (bonded_slot b (said group j)) (header-bare (said group j))
      ∙ sym (picked-shift (bonded b group) (bonded_slot b (said group j)) (0 + frame_packets * j) 0 frame_packets (λ i l. one j i l)))
      ∙ sym (ap (λ (x : ℕ). length (picked (bonded b group) 0 x)) a ∙ ap length (picked_append (bonded b group) 0 (frame_packets * j) frame_packets)
      ∙ length-append (picked (bonded b group) 0 (frame_packets * j)) (picked (bonded b group) (0 + frame_packets * j) frame_packets))
    where
      one : (j i : ℕ) → i < frame_packets → bonded b group (0 + frame_packets * j + i) ≡ bonded_slot b (said group j) (0 + i)
      one j i l =
          let d : 0 + frame_packets * j + i ≡ frame_packets * j + i = omega arith in
          let e : i ≡ 0 + i = omega arith in
          ap (bonded b group) d ∙ bonded-at j i l ∙ ap (bonded_slot b (said group j)) e

  -- no more than there are packets
  pub packets_few : (j : ℕ) → (plan_after b group j).packets ≤ frame_packets * j
  packets_few j = rw (counted j) (picked_few (bonded b group) 0 (frame_packets * j))

  -- a number for each carrier and for each frame
  pub frames-long : (j : ℕ) → length (plan_after b group j).frames ≡ last_carrier
  unfolding plan_after nothing_seen seen
  frames-long zero = length-replicate {A = ℕ} last_carrier 0
  frames-long (suc j) = length-set (plan_after b group j).frames ((said group j).carrier_sequence - 1) (said group j).number_of_frames ∙ frames-long j

  pub slots-long : (j : ℕ) → length (plan_after b group j).slots ≡ most_frames
  unfolding plan_after nothing_seen seen
  slots-long zero = length-replicate {A = ℕ} most_frames 0
  slots-long (suc j) = length-set (plan_after b group j).slots j (marks b (said group j)) ∙ slots-long j

  pub no_header : NoHeader (bonded b group)
  unfolding bonded bonded_slot
  no_header q = let r : (frame_packets * q) % frame_packets ≡ 0 = omega arith in rw r

  module _ (few : b.carriers ≤ last_carrier) where
    -- the marks of each frame gone through
    marked : (j : ℕ) → ((i : ℕ) → i < j → Stands b group i) → (i : ℕ) → i < j → get_or (plan_after b group j).slots i 0 ≡ marks b (said group i)
    unfolding plan_after seen
    marked zero stand i l = absurd (omega arith)
    marked (suc j) stand i l = at (marked j (λ i l. stand i (omega arith))) (ℕ_discrete i j)
      where
        at : ((i : ℕ) → i < j → get_or (plan_after b group j).slots i 0 ≡ marks b (said group i)) → Dec (i ≡ j)
            → get_or (set (plan_after b group j).slots j (marks b (said group j))) i 0 ≡ marks b (said group i)
        at each (yes e) =
            rw e (get_or-set_same (plan_after b group j).slots j (marks b (said group j)) 0 (rw (slots-long j) (frames_fit b group few j stand)))
        at each (no d) = get_or-set_other (plan_after b group j).slots j i (marks b (said group j)) 0 d ∙ each i (omega arith)

    module _ (some : 1 ≤ b.carriers) (w : Whole b group) where
      abbrev n : ℕ
      n = frames_in group

      abbrev frames : List ℕ
      frames = (plan_after b group n).frames

      abbrev slots : List ℕ
      slots = (plan_after b group n).slots

      -- marked and bonded are the same
      pub marked-bonded : (m : ℕ) → m < frame_packets * n → is_marked slots m ≡ bonded b group m
      unfolding is_marked bonded marks
      marked-bonded m l =
          rw (marked n w.each (m / frame_packets) (omega arith))
          (marks-bit (bonded_slot b (said group (m / frame_packets))) (header-bare (said group (m / frame_packets))) (m % frame_packets) (omega arith))

      all : Grouped b.carriers frames n (place_in group)
      all = grouped b group few some w

      -- where the walk looks is in the group
      in_group : (u : ℕ) → u < last_carrier * twelfths → u % last_carrier < b.carriers → packet_at frames u < frame_packets * n
      unfolding packet_at
      in_group u l c =
          let f = frames-within frames (u % last_carrier) b.carriers c in
          let p = place_short (u / last_carrier) (get_or frames (u % last_carrier) 0) (all.framed (u % last_carrier) c) (omega arith) in
          let a = all.all in
          omega arith

      stop_same : (u : ℕ) → u < last_carrier * twelfths → is_stop b.carriers frames (is_marked slots) u ≡ is_stop b.carriers frames (bonded b group) u
      unfolding is_stop
      stop_same u l = by_carrier (dec_lt (u % last_carrier) b.carriers)
        where
          by_carrier : Dec (u % last_carrier < b.carriers)
              → ltb (u % last_carrier) b.carriers && is_marked slots (packet_at frames u) ≡ ltb (u % last_carrier) b.carriers && bonded b group (packet_at frames u)
          by_carrier (yes c) = ap (λ (x : Bool). ltb (u % last_carrier) b.carriers && x) (marked-bonded (packet_at frames u) (in_group u l c))
          by_carrier (no c) = rw (le-ltb (u % last_carrier) b.carriers (omega arith)) refl

      -- the walk by the plan stops at the bonded packets, in order
      pub walked : map (packet_at frames) (stops b.carriers frames slots 0) ≡ order b group
      unfolding stops order
      walked =
          ap (map (packet_at frames))
          (picked_same (is_stop b.carriers frames (is_marked slots)) (is_stop b.carriers frames (bonded b group)) 0 (last_carrier * twelfths) (λ u l m. stop_same u (omega arith)))
          ∙ swept b.carriers n frames (place_in group) (bonded b group) all no_header

      pub packets : (plan_after b group n).packets ≡ length (order b group)
      unfolding order
      packets = counted n ∙ sym (length-sorted (earlier group) (picked (bonded b group) 0 (packets_in group)))
