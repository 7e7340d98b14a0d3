-- A group that passes the checks: each carrier's frames stand behind those of the carriers before it, and the plan knows how many they
-- are. Assumes nothing.
use Prim.Native.Nat.{ℕ, zero, suc, ◌+◌, ◌-◌, ◌*◌, ◌/◌, ◌%◌, ◌≤◌, ◌<◌}
use mathlib.Core.Path.{◌≡◌, refl, sym, ap, ap₂, subst, ◌∙◌}
use mathlib.Core.Logic.{◌⊎◌, inl, inr}
use mathlib.Core.Bool.{Bool, true, false}
use mathlib.Core.List.{List}
use native.Mathlib.Omega.{arith}
use native.Mathlib.Decide.{dec_lt, ℕ_discrete}
use borrow.Author.Tests.{eqb-true}
use lib.ListN.{length, get_or, set, replicate, length-set, length-replicate}
use lib.Seq.{get_or-set_same, get_or-set_other, set-get_or}
use Rattle.slices.proofs.Any.{both}
use Rattle.setting.specs.declared.Setting.{Setting}
use Rattle.counters.specs.Counters.{first_position, last_position, last_carrier}
use Rattle.setting.specs.Setting.{blank}
use Rattle.bond_group.specs.declared.Bond.{Bond}
use Rattle.bond_group.specs.declared.headers.Shown.{Shown}
use Rattle.bond_places.specs.Order.{frame_packets}
use Rattle.bond_places.specs.Walk.{most_frames, frames_before, Walkable}
use Rattle.bond_group.specs.Group.{frames_in, said, place_in}
use Rattle.bond_group.specs.Standing.{shown_by, before, is_last, is_end, next_carrier, next_position}
use Rattle.bond_group.specs.Plan.{nothing_seen, seen, plan_after}
use Rattle.bond_group.proofs.Standing.{Bonds, Stands, Whole}
use Rattle.bond_places.proofs.Frames.{frames-next, frames-set, frames_few}
use Rattle.bond_places.proofs.Sweep.{Grouped}

-- after an element was set, one is that or is as it was
abbrev AtSet : List ℕ → ℕ → ℕ → ℕ → Type 0
AtSet fs i v k = ((k ≡ i) × (get_or (set fs i v) k 0 ≡ v)) ⊎ ((k ≡ i → ⊥) × (get_or (set fs i v) k 0 ≡ get_or fs k 0))

at_set : (fs : List ℕ) (i v k : ℕ) → i < length fs → AtSet fs i v k
at_set fs i v k l = by_place (ℕ_discrete k i)
  where
    by_place : Dec (k ≡ i) → AtSet fs i v k
    by_place (yes e) = inl (e, ap (λ (x : ℕ). get_or (set fs i v) x 0) e ∙ get_or-set_same fs i v 0 l)
    by_place (no d) = inr (d, get_or-set_other fs i k v 0 d)

all-zeros : (n k : ℕ) → ◌≡◌ {A = ℕ} (get_or (replicate n 0) k 0) 0
all-zeros zero k = refl
all-zeros (suc n) zero = refl
all-zeros (suc n) (suc k) = all-zeros n k

pub framed-short : (f : ℕ) → (f ≡ 3) ⊎ (f ≡ 4) → f ≤ last_position
framed-short f (inl e) = omega arith
framed-short f (inr e) = omega arith

module _ (group : List ℕ) where
  -- what the header says of the frame with q others of carrier k + 1 before it
  pub record Says (fs : List ℕ) (k q : ℕ) : Type 0 where
    pub carrier : (said group (frames_before fs k + q)).carrier_sequence ≡ k + 1
    pub count : (said group (frames_before fs k + q)).number_of_frames ≡ get_or fs k 0
    pub position : (said group (frames_before fs k + q)).frame_position.0 ≡ q + 1

  says_set : (fs : List ℕ) (i v k q : ℕ) → k < i → Says fs k q → Says (set fs i v) k q
  says_set fs i v k q l s =
      let e = frames-set fs i k v (omega arith) in
      let g = get_or-set_other fs i k v 0 (λ (x : k ≡ i). omega arith) in
      record {
        carrier = rw e s.carrier;
        count = rw (e, g) s.count;
        position = rw e s.position;
      }

  -- j headers were gone through, the last of which showed h; the carriers have so many frames
  record Gone (fs : List ℕ) (h : Shown) (j : ℕ) : Type 0 where
    long : length fs ≡ last_carrier
    own : get_or fs (h.carrier_sequence - 1) 0 ≡ h.number_of_frames
    counted : frames_before fs (h.carrier_sequence - 1) + h.frame_position.0 ≡ j
    nothing : h.carrier_sequence ≡ 0 → h.frame_position.0 ≡ 0
    framed : (k : ℕ) → k < h.carrier_sequence → (get_or fs k 0 ≡ 3) ⊎ (get_or fs k 0 ≡ 4)
    short : (k : ℕ) → get_or fs k 0 ≤ last_position
    earlier : (k q : ℕ) → k + 1 < h.carrier_sequence → q < get_or fs k 0 → Says fs k q
    latest : (q : ℕ) → q < h.frame_position.0 → Says fs (h.carrier_sequence - 1) q

  -- the header of frame j itself
  says_own : (fs : List ℕ) (j k q : ℕ) → frames_before fs k + q ≡ j
      → (said group j).carrier_sequence ≡ k + 1 → (said group j).number_of_frames ≡ get_or fs k 0 → (said group j).frame_position.0 ≡ q + 1 → Says fs k q
  says_own fs j k q e c n p = record { carrier = rw e c; count = rw e n; position = rw e p }

  module _ (fs : List ℕ) (h : Shown) (j : ℕ) (g : Gone fs h j) where
    -- behind the last frame of a super frame all frames of its carrier are counted
    full : h.frame_position.0 ≡ h.number_of_frames → frames_before fs h.carrier_sequence ≡ j
    full e = by_carrier h.carrier_sequence refl
      where
        by_carrier : (k : ℕ) → h.carrier_sequence ≡ k → frames_before fs h.carrier_sequence ≡ j
        by_carrier zero z =
            let p = g.nothing z in
            let c : frames_before fs (h.carrier_sequence - 1) + h.frame_position.0 ≡ j = g.counted in
            let d : h.carrier_sequence - 1 ≡ h.carrier_sequence = omega arith in
            let f : frames_before fs (h.carrier_sequence - 1) ≡ frames_before fs h.carrier_sequence = ap (frames_before fs) d in
            omega arith
        by_carrier (suc k) s =
            let d : h.carrier_sequence - 1 ≡ k = omega arith in
            let c : frames_before fs k + h.frame_position.0 ≡ j = subst (λ (i : ℕ). frames_before fs i + h.frame_position.0 ≡ j) d g.counted in
            let o : get_or fs k 0 ≡ h.number_of_frames = subst (λ (i : ℕ). get_or fs i 0 ≡ h.number_of_frames) d g.own in
            let n = frames-next fs k in
            ap (frames_before fs) s ∙ omega arith

    module _ (bond : Bonds (said group j)) (few : (said group j).carrier_sequence ≤ last_carrier) where
      abbrev s : Setting
      s = said group j

      -- the plan's frames with this header taken in
      abbrev more : List ℕ
      more = set fs h.carrier_sequence s.number_of_frames

      -- a header that starts the next carrier's super frame
      module _ (e : h.frame_position.0 ≡ h.number_of_frames) (c : s.carrier_sequence ≡ h.carrier_sequence + 1) (p : s.frame_position.0 ≡ 1) where
        room : h.carrier_sequence < length fs
        room = rw g.long (omega arith)

        here : get_or more h.carrier_sequence 0 ≡ s.number_of_frames
        here = get_or-set_same fs h.carrier_sequence s.number_of_frames 0 room

        counted_more : frames_before more h.carrier_sequence ≡ j
        counted_more = frames-set fs h.carrier_sequence h.carrier_sequence s.number_of_frames (omega arith) ∙ full e

        framed-more : (k : ℕ) → k < s.carrier_sequence → (get_or more k 0 ≡ 3) ⊎ (get_or more k 0 ≡ 4)
        framed-more k l = by_place (at_set fs h.carrier_sequence s.number_of_frames k room)
          where
            by_place : AtSet fs h.carrier_sequence s.number_of_frames k → (get_or more k 0 ≡ 3) ⊎ (get_or more k 0 ≡ 4)
            by_place (inl a) = rw a.1 bond.framed
            by_place (inr a) = let d = a.0 in rw a.1 (g.framed k (omega (arith, l, c)))

        short-more : (k : ℕ) → get_or more k 0 ≤ last_position
        short-more k = by_place (at_set fs h.carrier_sequence s.number_of_frames k room)
          where
            by_place : AtSet fs h.carrier_sequence s.number_of_frames k → get_or more k 0 ≤ last_position
            by_place (inl a) = rw a.1 (framed-short s.number_of_frames bond.framed)
            by_place (inr a) = rw a.1 (g.short k)

        earlier_more : (k q : ℕ) → k < h.carrier_sequence → q < get_or fs k 0 → Says fs k q
        earlier_more k q l m = by_last (dec_lt (k + 1) h.carrier_sequence)
          where
            by_last : Dec (k + 1 < h.carrier_sequence) → Says fs k q
            by_last (yes a) = g.earlier k q a m
            by_last (no a) =
                let d : h.carrier_sequence - 1 ≡ k = omega arith in
                let o : get_or fs k 0 ≡ h.number_of_frames = subst (λ (i : ℕ). get_or fs i 0 ≡ h.number_of_frames) d g.own in
                subst (λ (i : ℕ). Says fs i q) d (g.latest q (omega arith))

        next-carrier : Gone more (shown_by s) (suc j)
        unfolding shown_by
        next-carrier =
            let d : s.carrier_sequence - 1 ≡ h.carrier_sequence = omega arith in
            record {
              long = length-set fs h.carrier_sequence s.number_of_frames ∙ g.long;
              own = rw d here;
              counted = rw (d, counted_more, p) (omega arith);
              nothing = λ z. omega arith;
              framed = framed-more;
              short = short-more;
              earlier = λ k q l m.
                  let other = get_or-set_other fs h.carrier_sequence k s.number_of_frames 0 (λ (x : k ≡ h.carrier_sequence). omega arith) in
                  says_set fs h.carrier_sequence s.number_of_frames k q (omega arith) (earlier_more k q (omega arith) (rw other at m));
              latest = λ q l.
                  rw d (says_own more j h.carrier_sequence q (omega (arith, counted_more, p, l)) c (sym here) (omega (arith, p, l)));
            }

      -- a header that goes on in its carrier's super frame
      module _ (c : s.carrier_sequence ≡ h.carrier_sequence) (n : s.number_of_frames ≡ h.number_of_frames) (p : s.frame_position.0 ≡ h.frame_position.0 + 1) where
        next-position : Gone fs (shown_by s) (suc j)
        unfolding shown_by
        next-position =
            record {
              long = g.long;
              own = rw (c, n) g.own;
              counted = let k = g.counted in rw (c, p) (omega arith);
              nothing = λ z. let l = bond.from in omega arith;
              framed = λ k l. g.framed k (omega (arith, l, c));
              short = g.short;
              earlier = λ k q l m. g.earlier k q (omega (arith, l, c)) m;
              latest = λ q l. rw c (latest_more q (omega (arith, l, p)));
            }
          where
            latest_more : (q : ℕ) → q < h.frame_position.0 + 1 → Says fs (h.carrier_sequence - 1) q
            latest_more q l = by_last (dec_lt q h.frame_position.0)
              where
                by_last : Dec (q < h.frame_position.0) → Says fs (h.carrier_sequence - 1) q
                by_last (yes a) = g.latest q a
                by_last (no a) =
                    let k = g.counted in
                    let f = bond.from in
                    says_own fs j (h.carrier_sequence - 1) q (omega arith) (omega (arith, c, f)) (n ∙ sym g.own) (omega (arith, p, a, l))

-- ---- what comes next

module _ (h : Shown) where
  last_is : is_last h ≡ true → h.frame_position.0 ≡ h.number_of_frames
  unfolding is_last
  last_is e = eqb-true h.frame_position.0 h.number_of_frames e

  last-carrier : is_last h ≡ true → next_carrier h ≡ h.carrier_sequence + 1
  unfolding next_carrier
  last-carrier e = rw e refl

  last-position : is_last h ≡ true → next_position h ≡ first_position
  unfolding next_position
  last-position e = rw e refl

  on-carrier : is_last h ≡ false → next_carrier h ≡ h.carrier_sequence
  unfolding next_carrier
  on-carrier e = rw e refl

  on-position : is_last h ≡ false → next_position h ≡ h.frame_position.0 + 1
  unfolding next_position
  on-position e = rw e refl

-- ---- the plan of a group

module _ (b : Bond) (group : List ℕ) (few : b.carriers ≤ last_carrier) where
  abbrev frames_after : ℕ → List ℕ
  frames_after j = (plan_after b group j).frames

  gone_none : Gone group (frames_after 0) (before group 0) 0
  unfolding plan_after nothing_seen before shown_by blank frames_before
  gone_none =
      record {
        long = length-replicate {A = ℕ} last_carrier 0;
        own = refl;
        counted = refl;
        nothing = λ z. refl;
        framed = λ k l. absurd (omega arith);
        short = zeros;
        earlier = λ k q l m. absurd (omega arith);
        latest = λ q l. absurd (omega arith);
      }
    where
      zeros : (k : ℕ) → get_or {A = ℕ} (replicate last_carrier 0) k 0 ≤ last_position
      zeros k = rw (all-zeros last_carrier k) (omega arith)

  pub sequence_few : (j : ℕ) → Stands b group j → (said group j).carrier_sequence ≤ last_carrier
  unfolding shown_by
  sequence_few j st = let n : (said group j).number_of_carriers ≡ b.carriers = st.following.count in let l = st.bond.to in omega (arith, few)

  gone_more : (j : ℕ) → Gone group (frames_after j) (before group j) j → Stands b group j → Gone group (frames_after (suc j)) (before group (suc j)) (suc j)
  unfolding plan_after seen before shown_by
  gone_more j g st = by_last (is_last (before group j)) refl
    where
      by_last : (t : Bool) → is_last (before group j) ≡ t → Gone group (frames_after (suc j)) (before group (suc j)) (suc j)
      by_last true e =
          let c : (said group j).carrier_sequence ≡ (before group j).carrier_sequence + 1 = st.following.carrier ∙ last-carrier (before group j) e in
          let d : (said group j).carrier_sequence - 1 ≡ (before group j).carrier_sequence = omega arith in
          subst
          (λ (i : ℕ). Gone group (set (frames_after j) i (said group j).number_of_frames) (shown_by (said group j)) (suc j))
          (sym d)
          (next-carrier group (frames_after j) (before group j) j g st.bond (sequence_few j st) (last_is (before group j) e) c (st.following.position ∙ last-position (before group j) e))
      by_last false e =
          let c : (said group j).carrier_sequence ≡ (before group j).carrier_sequence = st.following.carrier ∙ on-carrier (before group j) e in
          let n : (said group j).number_of_frames ≡ (before group j).number_of_frames = st.following.frames e in
          subst
          (λ (l : List ℕ). Gone group l (shown_by (said group j)) (suc j))
          (sym (ap₂ (λ (i v : ℕ). set (frames_after j) (i - 1) v) c (n ∙ sym g.own) ∙ set-get_or (frames_after j) ((before group j).carrier_sequence - 1) 0))
          (next-position group (frames_after j) (before group j) j g st.bond (sequence_few j st) c n (st.following.position ∙ on-position (before group j) e))

  gone : (j : ℕ) → ((i : ℕ) → i < j → Stands b group i) → Gone group (frames_after j) (before group j) j
  gone zero each = gone_none
  gone (suc j) each = gone_more j (gone j (λ i l. each i (omega arith))) (each j (omega arith))

  -- a group has 32 frames at most
  pub frames_fit : (j : ℕ) → ((i : ℕ) → i < suc j → Stands b group i) → j < most_frames
  unfolding before shown_by
  frames_fit j each =
      let g = gone (suc j) each in
      let st = each j (omega arith) in
      let c = g.counted in
      let f = frames_few (frames_after (suc j)) ((said group j).carrier_sequence - 1) g.short in
      let l = st.bond.last in
      let s = framed-short (said group j).number_of_frames st.bond.framed in
      let q = sequence_few j st in
      let o = st.bond.from in
      omega arith

  module _ (some : 1 ≤ b.carriers) (w : Whole b group) where
    abbrev n : ℕ
    n = frames_in group

    when_all_gone : Gone group (frames_after n) (before group n) n
    when_all_gone = gone n w.each

    ended_carrier : (before group n).carrier_sequence ≡ b.carriers
    unfolding is_end
    ended_carrier = eqb-true (before group n).carrier_sequence b.carriers (both (is_last (before group n)) _ w.ended).1

    ended_frames : (before group n).frame_position.0 ≡ (before group n).number_of_frames
    unfolding is_end
    ended_frames = last_is (before group n) (both (is_last (before group n)) _ w.ended).0

    framed_each : (k : ℕ) → k < b.carriers → (get_or (frames_after n) k 0 ≡ 3) ⊎ (get_or (frames_after n) k 0 ≡ 4)
    framed_each k l = when_all_gone.framed k (rw ended_carrier l)

    pub walkable : Walkable b.carriers (frames_after n)
    walkable = record { few = few; for_each = when_all_gone.long; short = when_all_gone.short; framed = framed_each }

    -- each header says where its frame stands
    pub says_each : (k q : ℕ) → k < b.carriers → q < get_or (frames_after n) k 0 → Says group (frames_after n) k q
    says_each k q l m = by_last (dec_lt (k + 1) b.carriers)
      where
        by_last : Dec (k + 1 < b.carriers) → Says group (frames_after n) k q
        by_last (yes a) = when_all_gone.earlier k q (rw ended_carrier a) m
        by_last (no a) =
            let d : (before group n).carrier_sequence - 1 ≡ k = omega (arith, ended_carrier, l, a) in
            let o : get_or (frames_after n) k 0 ≡ (before group n).number_of_frames = subst (λ (i : ℕ). get_or (frames_after n) i 0 ≡ (before group n).number_of_frames) d when_all_gone.own in
            subst (λ (i : ℕ). Says group (frames_after n) i q) d (when_all_gone.latest q (omega (arith, o, ended_frames, m)))

    placed : (k q i : ℕ) → k < b.carriers → q < get_or (frames_after n) k 0 → i < frame_packets
        → place_in group (frame_packets * (frames_before (frames_after n) k + q) + i)
        ≡ record { carrier = k + 1; frames = get_or (frames_after n) k 0; at = frame_packets * q + i }
    unfolding place_in
    placed k q i l m h =
        let y = says_each k q l m in
        let j : (frame_packets * (frames_before (frames_after n) k + q) + i) / frame_packets ≡ frames_before (frames_after n) k + q = omega arith in
        let r : (frame_packets * (frames_before (frames_after n) k + q) + i) % frame_packets ≡ i = omega arith in
        let p = y.position in
        let f : frame_packets * ((said group (frames_before (frames_after n) k + q)).frame_position.0 - first_position) + i ≡ frame_packets * q + i = omega arith in
        rw (j, r) (λ t. record { carrier = y.carrier t; frames = y.count t; at = f t })

    pub grouped : Grouped b.carriers (frames_after n) n (place_in group)
    grouped =
        record {
          few = few;
          framed = framed_each;
          all = ap (frames_before (frames_after n)) (sym ended_carrier) ∙ full group (frames_after n) (before group n) n when_all_gone ended_frames;
          placed = placed;
        }
