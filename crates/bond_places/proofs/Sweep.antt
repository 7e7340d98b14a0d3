-- The walk over the twelfths of a group meets its packets in the order of their places. Assumes nothing.
use Prim.Native.Nat.{ℕ, zero, suc, ◌+◌, ◌-◌, ◌*◌, ◌/◌, ◌%◌, ◌≤◌, ◌<◌}
use mathlib.Core.Path.{◌≡◌, refl, sym, ap, ap₂, subst, ◌∙◌}
use mathlib.Core.Logic.{◌⊎◌, inl, inr}
use mathlib.Core.Bool.{Bool, true, false, cond, true≢false}
use mathlib.Core.List.{List, [], ◌∷◌, map}
use native.Mathlib.Omega.{arith}
use native.Mathlib.Decide.{dec_lt}
use borrow.Author.Tests.{ltb-true, lt-ltb, eq-eqb, eqb-true}
use lib.Dec.{ltb, eqb}
use lib.ListN.{get_or}
use Rattle.slices.proofs.Any.{both}
use Rattle.slices.specs.Slices.{Among}
use Rattle.bond_places.specs.Order.{Place, comes_before, Framed, picked, sorted, Rising, frame_packets}
use Rattle.counters.specs.Counters.{last_carrier}
use Rattle.bond_places.specs.Walk.{twelfths, place_at, frames_before, packet_at, is_stop}
use Rattle.bond_places.proofs.Frames.{frames-within}
use Rattle.bond_places.proofs.Order.{Less, less, level, from-test, to_test, from_key, strict_total}
use Rattle.bond_places.proofs.Sorting.{map_among, among_map, among_sorted, sorted_among, among_picked, picked_among, same_rising, map_rising, sort_rising, picked_rising}

-- the places of a group stand in it as they should: carrier k + 1's frames behind those of the carriers before it
pub record Grouped (carriers : ℕ) (frames : List ℕ) (n : ℕ) (place : ℕ → Place) : Type 0 where
  pub few : carriers ≤ last_carrier
  pub framed : (k : ℕ) → k < carriers → (get_or frames k 0 ≡ 3) ⊎ (get_or frames k 0 ≡ 4)
  pub all : frames_before frames carriers ≡ n
  pub placed : (k q i : ℕ) → k < carriers → q < get_or frames k 0 → i < frame_packets
      → place (frame_packets * (frames_before frames k + q) + i) ≡ record { carrier = k + 1; frames = get_or frames k 0; at = frame_packets * q + i }

-- no header is among them
abbrev pub NoHeader : (ℕ → Bool) → Type 0
NoHeader test = (q : ℕ) → test (frame_packets * q) ≡ false

-- ---- packets by carrier and place

-- packet m is that at place p of carrier k + 1
record Home (carriers : ℕ) (frames : List ℕ) (m : ℕ) : Type 0 where
  k : ℕ
  p : ℕ
  below : k < carriers
  within : p < frame_packets * get_or frames k 0
  is : frame_packets * frames_before frames k + p ≡ m

-- each packet of the first carriers has its home
home : (carriers : ℕ) (frames : List ℕ) (m : ℕ) → m < frame_packets * frames_before frames carriers → Home carriers frames m
unfolding frames_before
home zero frames m h = absurd (omega arith)
home (suc c) [] m h = absurd (omega arith)
home (suc c) (f ∷ fs) m h = by_first (dec_lt m (frame_packets * f)) (home c fs (m - frame_packets * f))
  where
    by_first : Dec (m < frame_packets * f) → (m - frame_packets * f < frame_packets * frames_before fs c → Home c fs (m - frame_packets * f))
        → Home (suc c) (f ∷ fs) m
    by_first (yes l) rest = record { k = 0; p = m; below = omega arith; within = l; is = omega arith }
    by_first (no l) rest =
        let o = rest (omega arith) in
        let e = o.is in
        let l' = o.below in
        record { k = suc o.k; p = o.p; below = omega arith; within = o.within; is = omega arith }

-- ---- places by twelfth

-- the place at a place's twelfth
at_place : (f p : ℕ) → (f ≡ 3) ⊎ (f ≡ 4) → place_at (p * (7 - f)) f ≡ p
unfolding place_at
at_place f p (inl e) = rw (e, eq-eqb (p * 4 % 4) 0 (omega arith)) (omega arith)
at_place f p (inr e) = rw (e, eq-eqb (p * 3 % 3) 0 (omega arith)) (omega arith)

-- a twelfth has no place, or is that of its place
at_twelfth : (t f : ℕ) → (f ≡ 3) ⊎ (f ≡ 4) → (place_at t f ≡ 0) ⊎ (place_at t f * (7 - f) ≡ t)
unfolding place_at
at_twelfth t f (inl e) = rw e (by_test (eqb (t % 4) 0) refl)
  where
    by_test : (b : Bool) → eqb (t % 4) 0 ≡ b → (cond b (t / 4) 0 ≡ 0) ⊎ (cond b (t / 4) 0 * 4 ≡ t)
    by_test true h = let z = eqb-true (t % 4) 0 h in inr (omega arith)
    by_test false h = inl refl
at_twelfth t f (inr e) = rw e (by_test (eqb (t % 3) 0) refl)
  where
    by_test : (b : Bool) → eqb (t % 3) 0 ≡ b → (cond b (t / 3) 0 ≡ 0) ⊎ (cond b (t / 3) 0 * 3 ≡ t)
    by_test true h = let z = eqb-true (t % 3) 0 h in inr (omega arith)
    by_test false h = inl refl

-- the places of a super frame are those at its twelfths
before_end : (f p : ℕ) → (f ≡ 3) ⊎ (f ≡ 4) → p * (7 - f) < twelfths → p < frame_packets * f
before_end f p (inl e) = rw e (λ h. omega arith)
before_end f p (inr e) = rw e (λ h. omega arith)

in_twelfths : (f p : ℕ) → (f ≡ 3) ⊎ (f ≡ 4) → p < frame_packets * f → p * (7 - f) < twelfths
in_twelfths f p (inl e) = rw e (λ h. omega arith)
in_twelfths f p (inr e) = rw e (λ h. omega arith)

-- the step at twelfth t of carrier k + 1
pub at_step : (frames : List ℕ) (k t : ℕ) → k < last_carrier
    → packet_at frames (last_carrier * t + k) ≡ frame_packets * frames_before frames k + place_at t (get_or frames k 0)
unfolding packet_at
at_step frames k t h =
    let c : (last_carrier * t + k) % last_carrier ≡ k = omega arith in
    let d : (last_carrier * t + k) / last_carrier ≡ t = omega arith in
    ap₂ (λ (j s : ℕ). frame_packets * frames_before frames j + place_at s (get_or frames j 0)) c d

-- of two places not each comes before the other
never_both : (x y k l : ℕ) → Less x y k l → Less y x l k → ⊥
never_both x y k l (less h) (less i) = omega arith
never_both x y k l (less h) (level e i) = omega arith
never_both x y k l (level e h) (less i) = omega arith
never_both x y k l (level e h) (level f i) = omega arith

module _ (carriers n : ℕ) (frames : List ℕ) (place : ℕ → Place) (test : ℕ → Bool)
    (g : Grouped carriers frames n place) (no_Header : NoHeader test) where
  -- ---- the order of the packets

  abbrev before : ℕ → ℕ → Bool
  before m m' = comes_before (place m) (place m')

  abbrev stand : ℕ → ℕ → Place
  stand k p = record { carrier = k + 1; frames = get_or frames k 0; at = p }

  -- place p of carrier k + 1
  stands : (k p : ℕ) → k < carriers → p < frame_packets * get_or frames k 0 → place (frame_packets * frames_before frames k + p) ≡ stand k p
  stands k p h l =
      let split : frame_packets * frames_before frames k + p ≡ frame_packets * (frames_before frames k + p / frame_packets) + p % frame_packets =
      omega arith in
      let join : frame_packets * (p / frame_packets) + p % frame_packets ≡ p = omega arith in
      ap place split ∙ g.placed k (p / frame_packets) (p % frame_packets) h (omega arith) (omega arith) ∙ ap (stand k) join

  -- each packet of the group has its home
  found : (m : ℕ) → m < frame_packets * n → Home carriers frames m
  found m h = home carriers frames m (let e = g.all in omega arith)

  -- the place of a packet says its frames and the packet
  record Known (m : ℕ) : Type 0 where
    framed_so : Framed (place m)
    frames_so : (place m).frames ≡ get_or frames ((place m).carrier - 1) 0
    packet_so : frame_packets * frames_before frames ((place m).carrier - 1) + (place m).at ≡ m

  known : (m : ℕ) → m < frame_packets * n → Known m
  known m h =
      let o = found m h in
      let e : place m ≡ stand o.k o.p = ap place (sym o.is) ∙ stands o.k o.p o.below o.within in
      let c : o.k + 1 - 1 ≡ o.k = omega arith in
      record {
        framed_so = subst Framed (sym e) (g.framed o.k o.below);
        frames_so = subst (λ (a : Place). a.frames ≡ get_or frames (a.carrier - 1) 0) (sym e) (ap (λ (j : ℕ). get_or frames j 0) (sym c));
        packet_so =
            subst (λ (a : Place). frame_packets * frames_before frames (a.carrier - 1) + a.at ≡ m) (sym e)
            (ap (λ (j : ℕ). frame_packets * frames_before frames j + o.p) c ∙ o.is);
      }

  -- so the test orders the packets
  asymmetric : (x y : ℕ) → before x y ≡ true → before y x ≡ true → ⊥
  asymmetric x y e f = never_both _ _ _ _ (from-test (place x) (place y) e) (from-test (place y) (place x) f)

  transitive : (x y z : ℕ) → x < frame_packets * n → y < frame_packets * n → z < frame_packets * n
      → before x y ≡ true → before y z ≡ true → before x z ≡ true
  transitive x y z a b c =
      strict_total.transitive (place x) (place y) (place z) (known x a).framed_so (known y b).framed_so (known z c).framed_so

  total : (x y : ℕ) → x < frame_packets * n → y < frame_packets * n → (x ≡ y → ⊥) → (before x y ≡ true) ⊎ (before y x ≡ true)
  total x y a b d =
      let p = known x a in
      let q = known y b in
      strict_total.total (place x) (place y) p.framed_so q.framed_so
      (λ e. p.frames_so ∙ ap (λ (c : ℕ). get_or frames (c - 1) 0) e ∙ sym q.frames_so)
      (λ e. d (sym p.packet_so ∙ ap (λ (c : Place). frame_packets * frames_before frames (c.carrier - 1) + c.at) e ∙ q.packet_so))

  -- ---- the steps of the walk

  -- the frames of a step's carrier, and the place that it looks at
  abbrev frames_of : ℕ → ℕ
  frames_of u = get_or frames (u % last_carrier) 0

  abbrev spot : ℕ → ℕ
  spot u = place_at (u / last_carrier) (frames_of u)

  -- a step at which the walk stops
  record Met (u : ℕ) : Type 0 where
    on : u % last_carrier < carriers
    passed : test (packet_at frames u) ≡ true
    twelfth : spot u * (7 - frames_of u) ≡ u / last_carrier
    inside : spot u < frame_packets * frames_of u

  -- a place of 0 is a header's, so the walk stops at none
  met : (u : ℕ) → u < last_carrier * twelfths → is_stop carriers frames test u ≡ true → Met u
  unfolding is_stop packet_at
  met u h e =
      let p = both (ltb (u % last_carrier) carriers) (test (packet_at frames u)) e in
      let on = ltb-true (u % last_carrier) carriers p.0 in
      by_twelfth on p.1 (at_twelfth (u / last_carrier) (frames_of u) (g.framed (u % last_carrier) on))
    where
      by_twelfth : u % last_carrier < carriers → test (packet_at frames u) ≡ true
          → (spot u ≡ 0) ⊎ (spot u * (7 - frames_of u) ≡ u / last_carrier) → Met u
      by_twelfth on f (inl z) =
          let first : packet_at frames u ≡ frame_packets * frames_before frames (u % last_carrier) = omega arith in
          absurd (true≢false (sym f ∙ ap test first ∙ no_Header (frames_before frames (u % last_carrier))))
      by_twelfth on f (inr t) =
          record { on = on; passed = f; twelfth = t; inside = before_end (frames_of u) (spot u) (g.framed (u % last_carrier) on) (omega arith) }

  -- the place of the packet that it stops at, and that this is one of the group
  place_met : (u : ℕ) → Met u → place (packet_at frames u) ≡ stand (u % last_carrier) (spot u)
  unfolding packet_at
  place_met u s = stands (u % last_carrier) (spot u) s.on s.inside

  packet_met : (u : ℕ) → Met u → packet_at frames u < frame_packets * n
  unfolding packet_at
  packet_met u s =
      let l = s.inside in
      let w = frames-within frames (u % last_carrier) carriers s.on in
      let e = g.all in
      omega arith

  -- a later step stops at a later place
  keeps_order : (u v : ℕ) → u < v → Met u → Met v → before (packet_at frames u) (packet_at frames v) ≡ true
  keeps_order u v l s t =
      let a = stand (u % last_carrier) (spot u) in
      let b = stand (v % last_carrier) (spot v) in
      let by_key = by_twelfth (dec_lt (u / last_carrier) (v / last_carrier)) s.twelfth t.twelfth in
      ap₂ comes_before (place_met u s) (place_met v t)
      ∙ to_test a b (from_key a b (g.framed (u % last_carrier) s.on) (g.framed (v % last_carrier) t.on) by_key)
    where
      by_twelfth : Dec (u / last_carrier < v / last_carrier)
          → spot u * (7 - frames_of u) ≡ u / last_carrier → spot v * (7 - frames_of v) ≡ v / last_carrier
          → Less (spot u * (7 - frames_of u)) (spot v * (7 - frames_of v)) (u % last_carrier + 1) (v % last_carrier + 1)
      by_twelfth (yes h) e f = less (omega arith)
      by_twelfth (no h) e f = level (omega arith) (omega arith)

  -- ---- the walk is the order

  abbrev steps : List ℕ
  steps = picked (is_stop carriers frames test) 0 (last_carrier * twelfths)

  abbrev packets : List ℕ
  packets = picked test 0 (frame_packets * n)

  met_among : (u : ℕ) → Among u steps → Met u
  met_among u a = let p = among_picked (is_stop carriers frames test) u 0 (last_carrier * twelfths) a in met u p.1 p.2

  walk_rising : Rising before (map (packet_at frames) steps)
  walk_rising =
      map_rising before (packet_at frames) steps (λ u v a b l. keeps_order u v l (met_among u a) (met_among v b))
      (picked_rising (is_stop carriers frames test) 0 (last_carrier * twelfths))

  -- the sorted packets are strictly rising
  pub sorted_rising : Rising (λ m m'. comes_before (place m) (place m'))
      (sorted (λ m m'. comes_before (place m) (place m')) (picked test 0 (frame_packets * n)))
  sorted_rising =
      sort_rising before (frame_packets * n) transitive total packets (λ x a. let p = among_picked test x 0 (frame_packets * n) a in omega arith)
      (picked_rising test 0 (frame_packets * n))

  -- what the walk finds is among the sorted
  walk_sorted : (x : ℕ) → Among x (map (packet_at frames) steps) → Among x (sorted before packets)
  walk_sorted x a =
      let o = among_map (packet_at frames) steps a in
      let s = met_among o.from o.member in
      let l = packet_met o.from s in
      let m = packet_at frames o.from in
      subst (λ (y : ℕ). Among y (sorted before packets)) o.is
      (sorted_among before m packets (picked_among test m 0 (frame_packets * n) (omega arith) (omega arith) s.passed))

  -- the step at place p of carrier k + 1
  abbrev step_at : ℕ → ℕ → ℕ
  step_at k p = last_carrier * (p * (7 - get_or frames k 0)) + k

  -- the walk meets that place there, and stops where the packet passes the test
  packet_there : (k p : ℕ) → k < carriers → packet_at frames (step_at k p) ≡ frame_packets * frames_before frames k + p
  packet_there k p h =
      let c = g.few in
      at_step frames k (p * (7 - get_or frames k 0)) (omega arith)
      ∙ ap (λ (q : ℕ). frame_packets * frames_before frames k + q) (at_place (get_or frames k 0) p (g.framed k h))

  stop_there : (k p : ℕ) → k < carriers → test (frame_packets * frames_before frames k + p) ≡ true
      → is_stop carriers frames test (step_at k p) ≡ true
  unfolding is_stop
  stop_there k p h e =
      let c = g.few in
      rw (lt-ltb (step_at k p % last_carrier) carriers (omega arith), packet_there k p h) e

  -- the walk finds each of the sorted
  sorted_walk : (x : ℕ) → Among x (sorted before packets) → Among x (map (packet_at frames) steps)
  sorted_walk x a = by_home (among_picked test x 0 (frame_packets * n) (among_sorted before x packets a))
    where
      reached : test x ≡ true → Home carriers frames x → Among x (map (packet_at frames) steps)
      reached e o =
          let c = g.few in
          let l = o.below in
          let t = in_twelfths (get_or frames o.k 0) o.p (g.framed o.k o.below) o.within in
          let stop = stop_there o.k o.p o.below (ap test o.is ∙ e) in
          subst (λ (y : ℕ). Among y (map (packet_at frames) steps)) (packet_there o.k o.p o.below ∙ o.is)
          (map_among (packet_at frames) steps
          (picked_among (is_stop carriers frames test) (step_at o.k o.p) 0 (last_carrier * twelfths) (omega arith) (omega arith) stop))

      by_home : (0 ≤ x) × (x < 0 + frame_packets * n) × (test x ≡ true) → Among x (map (packet_at frames) steps)
      by_home (z, h, e) = reached e (found x (omega arith))

  -- the walk finds the packets that pass the test in the order of their places
  pub swept : map (packet_at frames) (picked (is_stop carriers frames test) 0 (last_carrier * twelfths))
      ≡ sorted (λ m m'. comes_before (place m) (place m')) (picked test 0 (frame_packets * n))
  swept = same_rising before asymmetric (map (packet_at frames) steps) (sorted before packets) walk_rising sorted_rising walk_sorted sorted_walk
