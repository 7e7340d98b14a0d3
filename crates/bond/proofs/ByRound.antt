-- The walk over the places of a group by rounds: what a round looks at, and that its stops are those of the walk. Assumes nothing.
use Prim.Native.Nat.{ℕ, zero, suc, ◌+◌, ◌-◌, ◌*◌, ◌/◌, ◌%◌, ◌≤◌, ◌<◌}
use mathlib.Core.Path.{◌≡◌, refl, sym, ap, ap₂, subst, ◌∙◌}
use mathlib.Core.Logic.{◌⊎◌, inl, inr}
use mathlib.Core.Bool.{Bool, true, false, cond, ◌&&◌}
use mathlib.Core.List.{List, [], ◌∷◌, ◌++◌, map, append_assoc, append-nil}
use native.Mathlib.Omega.{arith}
use native.Mathlib.Nat.{mul-div-mul_right}
use native.Mathlib.Numerals.{add-one}
use native.Mathlib.Decide.{dec_lt, ℕ_discrete}
use mir.Syntax.{w16, w64}
use mir.Val.{Fits}
use borrow.Author.Tests.{lt-ltb, le-ltb, ltb-true, eq-eqb, ne_eqb, eqb-true, eqb-false}
use lib.Dec.{ltb, eqb}
use lib.ListN.{length, get_or, take, drop, set, length-drop, length-set, length-take}
use lib.Seq.{drop-cons, length-take-le, get_or-take, get_or-set_same, get_or-set_other, take-set-le, take-suc-set}
use Rattle.slices.proofs.Any.{both}
use Rattle.counters.specs.Counters.{last_position, last_carrier}
use Rattle.bond_places.specs.Order.{picked, frame_packets}
use Rattle.bond_places.specs.Walk.{most_frames, twelfths, share, place_at, frames_before, packet_at, is_stop, is_marked, stops, Walkable}
use Rattle.bond.specs.declared.rounds.Note.{Note}
use Rattle.bond.specs.Listing.{round_twelfths, round_steps, frames_of, is_due, due, no_note, Entry, Noted, packet_in, marked_in, places_from, Listable}
use Rattle.bond_places.proofs.Frames.{frames-next, frames_few}
use Rattle.bond_places.proofs.Sweep.{at_step}

-- ---- the packet at which a step looks

-- a place takes three twelfths or four
pub place_few : (t f : ℕ) → place_at t f ≤ t / 3
unfolding place_at
place_few t f = by_frames (eqb f 3)
  where
    by_test : (b : Bool) (p : ℕ) → p ≤ t / 3 → cond b p 0 ≤ t / 3
    by_test true p h = h
    by_test false p h = omega arith

    by_frames : (b : Bool) → cond (eqb (t % cond b 4 3) 0) (t / cond b 4 3) 0 ≤ t / 3
    by_frames true = by_test (eqb (t % 4) 0) (t / 4) (omega arith)
    by_frames false = by_test (eqb (t % 3) 0) (t / 3) (omega arith)

-- it is one of the group
pub packet_few : {carriers : ℕ} {frames : List ℕ} → Walkable carriers frames → (u : ℕ) → u < last_carrier * twelfths
    → packet_at frames u < frame_packets * most_frames
unfolding packet_at
packet_few {frames = frames} a u h =
    let l = frames_few frames (u % last_carrier) a.short in
    let p = place_few (u / last_carrier) (frames_of frames u) in
    omega arith

-- a place is as many further on in a later round as its carrier has frames
place_round : (f q t : ℕ) → (f ≡ 3) ⊎ (f ≡ 4) → t % share f ≡ 0 → place_at (round_twelfths * q + t) f ≡ place_at t f + q * f
unfolding place_at
place_round f q t (inl e) = rw e (λ h. rw (eq-eqb ((round_twelfths * q + t) % 4) 0 (omega arith), eq-eqb (t % 4) 0 h) (omega arith))
place_round f q t (inr e) = rw e (λ h. rw (eq-eqb ((round_twelfths * q + t) % 3) 0 (omega arith), eq-eqb (t % 3) 0 h) (omega arith))

-- and where none is, none is in a later round
place_none : (f q t : ℕ) → (f ≡ 3) ⊎ (f ≡ 4) → (t % share f ≡ 0 → ⊥) → place_at (round_twelfths * q + t) f ≡ 0
unfolding place_at
place_none f q t (inl e) = rw e (λ d. rw (ne_eqb ((round_twelfths * q + t) % 4) 0 (λ z. d (omega arith))))
place_none f q t (inr e) = rw e (λ d. rw (ne_eqb ((round_twelfths * q + t) % 3) 0 (λ z. d (omega arith))))

-- it stands where twelfth times frames is a whole number of rounds
part-due : (f t : ℕ) → (f ≡ 3) ⊎ (f ≡ 4) → t * f % round_twelfths ≡ 0 → (t % share f ≡ 0) × (place_at t f ≡ t * f / round_twelfths)
unfolding place_at
part-due f t (inl e) =
    rw e (λ h. let d : t * 3 / round_twelfths ≡ t / 4 = mul-div-mul_right t 4 (omega arith) in (omega arith, rw (eq-eqb (t % 4) 0 (omega arith)) (sym d)))
part-due f t (inr e) =
    rw e (λ h. let d : t * 4 / round_twelfths ≡ t / 3 = mul-div-mul_right t 3 (omega arith) in (omega arith, rw (eq-eqb (t % 3) 0 (omega arith)) (sym d)))

part-not : (f t : ℕ) → (f ≡ 3) ⊎ (f ≡ 4) → (t * f % round_twelfths ≡ 0 → ⊥) → t % share f ≡ 0 → ⊥
part-not f t (inl e) = rw e (λ d h. d (omega arith))
part-not f t (inr e) = rw e (λ d h. d (omega arith))

-- step v of round q
step_round : (frames : List ℕ) (q v : ℕ)
    → packet_at frames (round_steps * q + v) ≡ frame_packets * frames_before frames (v % last_carrier) + place_at (round_twelfths * q + v / last_carrier) (frames_of frames v)
step_round frames q v =
    ap (packet_at frames) (omega arith) ∙ at_step frames (v % last_carrier) (round_twelfths * q + v / last_carrier) (omega arith)

step_first : (frames : List ℕ) (v : ℕ) → packet_at frames v ≡ frame_packets * frames_before frames (v % last_carrier) + place_at (v / last_carrier) (frames_of frames v)
unfolding packet_at
step_first frames v = refl

-- what holds of a step that looks at a place
pub record Due (carriers : ℕ) (frames : List ℕ) (v : ℕ) : Type 0 where
  pub on : v % last_carrier < carriers
  pub there : v / last_carrier % share (frames_of frames v) ≡ 0

pub due_from_test : (carriers : ℕ) (frames : List ℕ) (v : ℕ) → is_due carriers frames v ≡ true → Due carriers frames v
unfolding is_due
due_from_test carriers frames v e =
    let b = both (ltb (v % last_carrier) carriers) (eqb (v / last_carrier % share (frames_of frames v)) 0) e in
    record { on = ltb-true (v % last_carrier) carriers b.0; there = eqb-true (v / last_carrier % share (frames_of frames v)) 0 b.1 }

-- by the carrier
pub due-on : (carriers : ℕ) (frames : List ℕ) (v : ℕ) → v % last_carrier < carriers
    → is_due carriers frames v ≡ eqb (v / last_carrier % share (frames_of frames v)) 0
unfolding is_due
due-on carriers frames v h = rw (lt-ltb (v % last_carrier) carriers h) refl

pub due_off : (carriers : ℕ) (frames : List ℕ) (v : ℕ) → carriers ≤ v % last_carrier → is_due carriers frames v ≡ false
unfolding is_due
due_off carriers frames v h = rw (le-ltb (v % last_carrier) carriers h) refl

-- from a step on: that, where it looks at a place, and those from the next on
pub due-from : (carriers : ℕ) (frames : List ℕ) (v : ℕ) → v < round_steps → {t : Bool} → is_due carriers frames v ≡ t
    → due carriers frames v ≡ cond t (v ∷ []) [] ++ due carriers frames (v + 1)
unfolding due picked
due-from carriers frames v h e =
    let left : round_steps - v ≡ suc (round_steps - (v + 1)) = omega arith in
    ap (picked (is_due carriers frames) v) left ∙ ap (λ (b : Bool). cond b (v ∷ []) [] ++ due carriers frames (v + 1)) e

-- ---- a round noted, one step after another

module _ (carriers : ℕ) (frames : List ℕ) where
  module _ {notes : List Note} {n v : ℕ} (c : Noted carriers frames notes n v) (h : v < round_steps) where
    -- the step looks at a place
    pub noted_more : is_due carriers frames v ≡ true → (p f : ℕ) → p ≡ packet_at frames v → f ≡ frames_of frames v
        → Noted carriers frames (set notes n (record { packet = p; further = f })) (n + 1) (v + 1)
    noted_more t p f e g =
        let all = due carriers frames 0 in
        let next : drop n all ≡ v ∷ due carriers frames (v + 1) = c.left ∙ due-from carriers frames v h t in
        let some : n < length all = omega (arith, length-drop n all, ap length next) in
        let split : get_or all n 0 ∷ drop (suc n) all ≡ v ∷ due carriers frames (v + 1) = sym (drop-cons all n 0 some) ∙ next in
        let here : get_or all n 0 ≡ v = cc in
        let behind : drop (suc n) all ≡ due carriers frames (v + 1) = cc in
        let few = c.few in
        record {
          left = ap (λ (k : ℕ). drop k all) (add-one n) ∙ behind;
          those = omega arith;
          few = omega arith;
          each = λ i l. at i l here (ℕ_discrete i n);
          long = wide ∙ c.long;
        }
      where
        note : Note
        note = record { packet = p; further = f }

        wide : length (set notes n note) ≡ length notes
        wide = length-set notes n note

        at : (i : ℕ) → i < n + 1 → get_or (due carriers frames 0) n 0 ≡ v → Dec (i ≡ n) → Entry carriers frames (set notes n note) i (get_or (due carriers frames 0) i 0)
        at i l is (yes z) =
            rw (z, is)
            (record {
              early = h;
              looks = t;
              is = get_or-set_same notes n note no_note (let few = c.few in let long = c.long in omega arith) ∙ (λ j. record { packet = e j; further = g j });
            })
        at i l is (no d) =
            let o = c.each i (omega arith) in
            record { early = o.early; looks = o.looks; is = get_or-set_other notes n i note no_note d ∙ o.is }

    -- it looks at none
    pub noted_less : is_due carriers frames v ≡ false → Noted carriers frames notes n (v + 1)
    noted_less t =
        let few = c.few in
        record { left = c.left ∙ due-from carriers frames v h t; those = c.those; few = omega arith; each = c.each; long = c.long }

  -- behind the last carrier of a twelfth are no places before the next twelfth
  pub noted_behind : {notes : List Note} {n : ℕ} (t v m : ℕ) → t < round_twelfths → last_carrier * t + carriers ≤ v → v + m ≡ last_carrier * (t + 1)
      → Noted carriers frames notes n v → Noted carriers frames notes n (last_carrier * (t + 1))
  noted_behind {notes} {n} t v zero h l e c = subst (Noted carriers frames notes n) (omega arith) c
  noted_behind t v (suc m) h l e c =
      noted_behind t (v + 1) m h (omega arith) (omega arith) (noted_less c (omega arith) (due_off carriers frames v (omega arith)))

-- what is reckoned at twelfth t, at the carrier with number k from 0 and f frames, behind n entries
pub record Small (t k f n frame : ℕ) : Type 0 where
  pub wide : Fits w64 f
  pub part : Fits w64 (t * f)
  pub base : Fits w64 (frame_packets * frame)
  pub packet : Fits w64 (frame_packets * frame + t * f / round_twelfths)
  pub noted : Fits w16 (frame_packets * frame + t * f / round_twelfths)
  pub further : Fits w16 f
  pub more : Fits w64 (n + 1)
  pub frame_on : Fits w64 (frame + f)
  pub on : Fits w64 (k + 1)

-- at twelfth t of the round, at the carrier with number k from 0
module _ {carriers : ℕ} {frames : List ℕ} (a : Walkable carriers frames) (t k : ℕ) (h : t < round_twelfths) (l : k < carriers) where
  frames-here : frames_of frames (last_carrier * t + k) ≡ get_or frames k 0
  frames-here = let few = a.few in ap (λ (i : ℕ). get_or frames i 0) (omega arith)

  due-here : is_due carriers frames (last_carrier * t + k) ≡ eqb (t % share (get_or frames k 0)) 0
  due-here =
      let few = a.few in
      let here : (last_carrier * t + k) / last_carrier ≡ t = omega arith in
      due-on carriers frames (last_carrier * t + k) (omega arith) ∙ ap₂ (λ (i f : ℕ). eqb (i % share f) 0) here frames-here

  -- how many frames are before it, and how large the part is, at most
  part_few : t * get_or frames k 0 < round_steps
  part_few = by_frames (get_or frames k 0) (a.framed k l)
    where
      by_frames : (f : ℕ) → (f ≡ 3) ⊎ (f ≡ 4) → t * f < round_steps
      by_frames f (inl e) = rw e (omega arith)
      by_frames f (inr e) = rw e (omega arith)

  before_few : frames_before frames k ≤ last_position * (last_carrier - 1)
  before_few = let f = frames_few frames k a.short in let few = a.few in omega arith

  -- the next one has its frames behind these
  pub carrier-next : {frame : ℕ} → frame ≡ frames_before frames k → (frame + get_or frames k 0 ≡ frames_before frames (k + 1)) × (k + 1 ≤ carriers)
  carrier-next is = (ap (λ (n : ℕ). n + get_or frames k 0) is ∙ sym (ap (frames_before frames) (add-one k) ∙ frames-next frames k), omega arith)

  module _ {notes : List Note} {n : ℕ} (c : Noted carriers frames notes n (last_carrier * t + k)) where
    abbrev f : ℕ
    f = get_or frames k 0

    -- so what is reckoned there fits
    pub small : {frame : ℕ} → frame ≡ frames_before frames k → Small t k (get_or frames k 0) n frame
    small is =
        let part = part_few in
        let before = before_few in
        let short = a.short k in
        let few = a.few in
        let noted = c.few in
        record {
          wide = omega arith;
          part = omega arith;
          base = omega arith;
          packet = omega arith;
          noted = omega arith;
          further = omega arith;
          more = omega arith;
          frame_on = omega arith;
          on = omega arith;
        }

    pub here-more : t * get_or frames k 0 % round_twelfths ≡ 0
        → Noted carriers frames
        (set notes n (record { packet = frame_packets * frames_before frames k + t * get_or frames k 0 / round_twelfths; further = get_or frames k 0 })) (n + 1)
        (last_carrier * t + (k + 1))
    here-more e =
        let few = a.few in
        let p = part-due f t (a.framed k l) e in
        subst (Noted carriers frames (set notes n (record { packet = frame_packets * frames_before frames k + t * f / round_twelfths; further = f })) (n + 1)) (omega arith)
        (noted_more carriers frames c (omega arith) (due-here ∙ eq-eqb (t % share f) 0 p.0) _ _
        (ap (λ (i : ℕ). frame_packets * frames_before frames k + i) (sym p.1) ∙ sym (at_step frames k t (omega arith))) (sym frames-here))

    pub here_less : (t * get_or frames k 0 % round_twelfths ≡ 0 → ⊥) → Noted carriers frames notes n (last_carrier * t + (k + 1))
    here_less d =
        let few = a.few in
        subst (Noted carriers frames notes n) (omega arith)
        (noted_less carriers frames c (omega arith) (due-here ∙ ne_eqb (t % share f) 0 (part-not f t (a.framed k l) d)))

-- ---- a round listed, one entry after another

-- what is reckoned for an entry e of x and y in round q
pub record Reckoned (q e x y : ℕ) : Type 0 where
  pub first : Fits w64 x
  pub on : Fits w64 (q * y)
  pub packet : Fits w64 (x + q * y)
  pub listed : Fits w16 (x + q * y)
  pub next : Fits w64 (e + 1)

pub reckoned : (q e x y : ℕ) → e < round_steps → x + q * y < frame_packets * most_frames → Reckoned q e x y
reckoned q e x y h l =
    record { first = omega arith; on = omega arith; packet = omega arith; listed = omega arith; next = omega arith }

-- the entries of the first n notes are theirs in all notes
module _ (slots : List ℕ) (notes : List Note) (q n : ℕ) where
  pub front-packet : (e : ℕ) → e < n → packet_in (take n notes) q e ≡ packet_in notes q e
  front-packet e h = ap (λ (x : Note). x.packet + q * x.further) (get_or-take n notes e no_note h)

  front_marked : (e m : ℕ) → e + m ≤ n → marked_in slots (take n notes) q e m ≡ marked_in slots notes q e m
  unfolding marked_in
  front_marked e zero h = refl
  front_marked e (suc m) h =
      ap₂ (λ (p : ℕ) (ms : List ℕ). cond (is_marked slots p) (p ∷ []) [] ++ ms) (front-packet e (omega arith)) (front_marked (e + 1) m (omega arith))

  pub front_is : n ≤ length notes → marked_in slots (take n notes) q 0 (length (take n notes)) ≡ marked_in slots notes q 0 n
  front_is h = ap (marked_in slots (take n notes) q 0) (length-take-le n notes h) ∙ front_marked 0 n (omega arith)

module _ (slots : List ℕ) (notes : List Note) (list₀ : List ℕ) (q noted : ℕ) where
  abbrev marked : ℕ → List ℕ
  marked e = marked_in slots notes q e (noted - e)

  -- e of the entries of a round were gone through, and the n marked packets among theirs are listed
  pub record Going (list : List ℕ) (n e : ℕ) : Type 0 where
    pub same : take n list ++ marked_in slots notes q e (noted - e) ≡ marked_in slots notes q 0 noted
    pub few : n ≤ e
    pub early : e ≤ noted
    pub long : length list ≡ length list₀

  -- from an entry on: its packet, where that is marked, and those from the next on
  marked_from : (e : ℕ) → e < noted → {t : Bool} → is_marked slots (packet_in notes q e) ≡ t
      → marked e ≡ cond t (packet_in notes q e ∷ []) [] ++ marked (e + 1)
  unfolding marked_in
  marked_from e h i =
      let left : noted - e ≡ suc (noted - (e + 1)) = omega arith in
      ap (marked_in slots notes q e) left ∙ ap (λ (b : Bool). cond b (packet_in notes q e ∷ []) [] ++ marked (e + 1)) i

  module _ (room : noted < length list₀) {list : List ℕ} {n e : ℕ} (g : Going list n e) where
    pub going_all : noted ≤ e
        → (take n list ≡ marked_in slots notes q 0 noted) × ((n ≡ length (marked_in slots notes q 0 noted)) × (n ≤ noted))
    unfolding marked_in
    going_all h =
        let none : noted - e ≡ 0 = omega arith in
        let is : take n list ≡ marked_in slots notes q 0 noted =
        sym (append-nil (take n list)) ∙ ap (λ (k : ℕ). take n list ++ marked_in slots notes q e k) (sym none) ∙ g.same in
        let few = g.few in
        let early = g.early in
        let long = g.long in
        (is, (sym (length-take-le n list (omega arith)) ∙ ap length is, omega arith))

    module _ (h : e < noted) where
      pub going_room : n < length list
      going_room = let few = g.few in let long = g.long in omega arith

      longer : length (set list n (packet_in notes q e)) ≡ length list₀
      longer = length-set list n (packet_in notes q e) ∙ g.long

      pub going_more : is_marked slots (packet_in notes q e) ≡ true → Going (set list n (packet_in notes q e)) (n + 1) (e + 1)
      going_more t =
          let m = packet_in notes q e in
          let few = g.few in
          record {
            same =
                ap (λ (k : ℕ). take k (set list n m) ++ marked (e + 1)) (add-one n)
                ∙ ap (λ (l : List ℕ). l ++ marked (e + 1)) (take-suc-set list n m going_room)
                ∙ append_assoc (take n list) (m ∷ []) (marked (e + 1)) ∙ ap (λ (l : List ℕ). take n list ++ l) (sym (marked_from e h t)) ∙ g.same;
            few = omega arith;
            early = omega arith;
            long = longer;
          }

      pub going_less : is_marked slots (packet_in notes q e) ≡ false → Going (set list n (packet_in notes q e)) n (e + 1)
      going_less t =
          let m = packet_in notes q e in
          let few = g.few in
          record {
            same = ap₂ ◌++◌ (take-set-le n list n m (omega arith)) (sym (marked_from e h t)) ∙ g.same;
            few = omega arith;
            early = omega arith;
            long = longer;
          }

-- ---- the rounds

module _ (carriers : ℕ) (frames slots : List ℕ) (a : Listable carriers frames slots) where
  abbrev stop : ℕ → Bool
  stop = is_stop carriers frames (is_marked slots)

  abbrev places : ℕ → List ℕ
  places = places_from carriers frames slots

  -- the packet that step v looks at in round q
  abbrev looked : ℕ → ℕ → ℕ
  looked q v = packet_at frames v + q * frames_of frames v

  pub packet_round : (q v : ℕ) → Due carriers frames v → packet_at frames (round_steps * q + v) ≡ looked q v
  packet_round q v d =
      let e = place_round (frames_of frames v) q (v / last_carrier) (a.walk.framed (v % last_carrier) d.on) d.there in
      step_round frames q v ∙ omega (arith, e, step_first frames v)

  -- ---- its stops

  stop-due : (q v : ℕ) → is_due carriers frames v ≡ true → stop (round_steps * q + v) ≡ is_marked slots (looked q v)
  unfolding is_stop
  stop-due q v e =
      let d = due_from_test carriers frames v e in
      rw (lt-ltb ((round_steps * q + v) % last_carrier) carriers (let o = d.on in omega arith)) (ap (is_marked slots) (packet_round q v d))

  stop-not : (q v : ℕ) → is_due carriers frames v ≡ false → stop (round_steps * q + v) ≡ false
  unfolding is_stop is_due
  stop-not q v e = by_carrier (dec_lt (v % last_carrier) carriers)
    where
      by_carrier : Dec (v % last_carrier < carriers) → ltb ((round_steps * q + v) % last_carrier) carriers && is_marked slots (packet_at frames (round_steps * q + v)) ≡ false
      by_carrier (no c) = rw (le-ltb ((round_steps * q + v) % last_carrier) carriers (omega arith)) refl
      by_carrier (yes c) =
          let d = eqb-false (v / last_carrier % share (frames_of frames v)) 0 (sym (due-on carriers frames v c) ∙ e) in
          let none = place_none (frames_of frames v) q (v / last_carrier) (a.walk.framed (v % last_carrier) c) d in
          let header : packet_at frames (round_steps * q + v) ≡ frame_packets * frames_before frames (v % last_carrier) = step_round frames q v ∙ omega arith in
          rw (lt-ltb ((round_steps * q + v) % last_carrier) carriers (omega arith)) (ap (is_marked slots) header ∙ a.headers (v % last_carrier) c)

  -- from a step on: its packet, where the walk stops there, and those from the next on
  places-from : (u : ℕ) → u < last_carrier * twelfths → (t : Bool) → stop u ≡ t → places u ≡ cond t (packet_at frames u ∷ []) [] ++ places (u + 1)
  unfolding stops picked
  places-from u h t e =
      let left : last_carrier * twelfths - u ≡ suc (last_carrier * twelfths - (u + 1)) = omega arith in
      ap (λ (n : ℕ). map (packet_at frames) (picked stop u n)) left
      ∙ ap (λ (b : Bool). map (packet_at frames) (cond b (u ∷ []) [] ++ stops carriers frames slots (u + 1))) e ∙ by_test t
    where
      by_test : (t : Bool) → map (packet_at frames) (cond t (u ∷ []) [] ++ stops carriers frames slots (u + 1)) ≡ cond t (packet_at frames u ∷ []) [] ++ places (u + 1)
      by_test true = refl
      by_test false = refl

  -- behind the last round are none
  pub places_none : (q : ℕ) → q ≡ frame_packets → places_from carriers frames slots (round_steps * q) ≡ []
  unfolding stops picked
  places_none q e = ap (λ (i : ℕ). places (round_steps * i)) e

  -- what these steps find in round q
  found : ℕ → List ℕ → List ℕ
  found q [] = []
  found q (v ∷ vs) = cond (is_marked slots (looked q v)) (looked q v ∷ []) [] ++ found q vs

  -- one step of a round
  step_found : (q v : ℕ) → q < frame_packets → v < round_steps → (vs : List ℕ) → (t : Bool) → is_due carriers frames v ≡ t
      → places (round_steps * q + (v + 1)) ≡ found q vs ++ places (round_steps * (q + 1))
      → places (round_steps * q + v) ≡ found q (cond t (v ∷ []) [] ++ vs) ++ places (round_steps * (q + 1))
  unfolding found
  step_found q v h l vs true e r =
      places-from (round_steps * q + v) (omega arith) (is_marked slots (looked q v)) (stop-due q v e)
      ∙ ap₂ (λ (m : ℕ) (ms : List ℕ). cond (is_marked slots (looked q v)) (m ∷ []) [] ++ ms) (packet_round q v (due_from_test carriers frames v e))
      (ap places (omega arith) ∙ r)
      ∙ sym (append_assoc (cond (is_marked slots (looked q v)) (looked q v ∷ []) []) (found q vs) (places (round_steps * (q + 1))))
  step_found q v h l vs false e r =
      places-from (round_steps * q + v) (omega arith) false (stop-not q v e) ∙ ap places (omega arith) ∙ r

  rounds_from : (q v n : ℕ) → q < frame_packets → v + n ≡ round_steps
      → places (round_steps * q + v) ≡ found q (picked (is_due carriers frames) v n) ++ places (round_steps * (q + 1))
  unfolding picked found
  rounds_from q v zero h e = ap places (omega arith)
  rounds_from q v (suc n) h e =
      step_found q v h (omega arith) (picked (is_due carriers frames) (v + 1) n) (is_due carriers frames v) refl (rounds_from q (v + 1) n h (omega arith))

  -- ---- what the entries find

  due_none : due carriers frames round_steps ≡ []
  unfolding due picked
  due_none = refl

  due_all : due carriers frames 0 ≡ picked (is_due carriers frames) 0 round_steps
  unfolding due
  due_all = refl

  module _ {notes : List Note} {n : ℕ} (c : Noted carriers frames notes n round_steps) (q : ℕ) where
    abbrev all : List ℕ
    all = due carriers frames 0

    -- they look at what their steps look at
    entry_is : (e : ℕ) → e < n → packet_in notes q e ≡ looked q (get_or all e 0)
    entry_is e l = ap (λ (x : Note). x.packet + q * x.further) (c.each e l).is

    entries_from : (e m : ℕ) → e + m ≡ n → marked_in slots notes q e m ≡ found q (drop e all)
    unfolding marked_in found
    entries_from e zero h =
        let last : e ≡ n = omega arith in
        sym (ap (found q) (ap (λ (k : ℕ). drop k all) last ∙ c.left ∙ due_none))
    entries_from e (suc m) h =
        let those = c.those in
        ap₂ (λ (p : ℕ) (ms : List ℕ). cond (is_marked slots p) (p ∷ []) [] ++ ms) (entry_is e (omega arith))
        (entries_from (e + 1) m (omega arith) ∙ ap (λ (k : ℕ). found q (drop k all)) (add-one e))
        ∙ sym (ap (found q) (drop-cons all e 0 (omega arith)))

    module _ (h : q < frame_packets) where
      -- which is in the group
      pub entry_few : (e : ℕ) → e < n → packet_in notes q e < frame_packets * most_frames
      entry_few e l =
          let o = c.each e l in
          let v = get_or all e 0 in
          let early = o.early in
          let few = packet_few a.walk (round_steps * q + v) (omega arith) in
          let is = packet_round q v (due_from_test carriers frames v o.looks) in
          let same = entry_is e l in
          omega arith

      -- of the notes up to the last entry, too
      pub front_few : (e : ℕ) → e < length (take n notes) → packet_in (take n notes) q e < frame_packets * most_frames
      front_few e l =
          let within : e < n = omega (arith, length-take n notes) in
          let same = front-packet slots notes q n e within in
          omega (arith, entry_few e within)

      -- and what they find is what the walk does in the round
      pub round_is : places_from carriers frames slots (round_steps * q) ≡ marked_in slots notes q 0 n ++ places_from carriers frames slots (round_steps * (q + 1))
      round_is =
          ap places (omega arith) ∙ rounds_from q 0 round_steps h refl
          ∙ ap (λ (vs : List ℕ). found q vs ++ places (round_steps * (q + 1))) (sym due_all)
          ∙ ap (λ (ms : List ℕ). ms ++ places (round_steps * (q + 1))) (sym (entries_from 0 n (omega arith)))
