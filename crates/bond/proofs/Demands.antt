-- Demand 2 over bonded super frames, proved. Assumes nothing.
use Prim.Native.Nat.{ℕ, zero, suc, ◌+◌, ◌-◌, ◌*◌, ◌/◌, ◌%◌, ◌≤◌, ◌<◌}
use mathlib.Core.Path.{◌≡◌, refl, sym, ap, ap₂, subst, ◌∙◌}
use mathlib.Core.Bool.{Bool, true, false, cond, not, true≢false}
use mathlib.Core.List.{List, [], ◌∷◌, ◌++◌}
use native.Mathlib.Omega.{arith}
use borrow.Author.Tests.{le-ltb, eq-eqb, eqb-true, not-false}
use lib.Dec.{eqb}
use lib.ListN.{length, drop}
use lib.Seq.{take_all}
use Rattle.slices.specs.Slices.{copied, any_below, Among}
use Rattle.slices.proofs.Any.{any_no}
use Rattle.setting.specs.declared.Kind.{Kind}
use Rattle.setting.specs.declared.Setting.{Setting}
use Rattle.counters.specs.Counters.{last_slot, first_position}
use Rattle.setting.specs.Refusal.{Check, NoneHolds, none, more, first_of}
use Rattle.setting.proofs.Refusals.{first_none, none_at, none_append, none_before, none_behind}
use Rattle.header_layout.specs.Header.{reading}
use Rattle.header_check.specs.Checking.{read_checks, bare, refusal_by}
use Rattle.packet.specs.Packets.{packet_length, frame_length, slot, unfit, some_unfit_in}
use Rattle.bond_group.specs.declared.Bond.{Bond}
use Rattle.bond_group.specs.declared.headers.Shown.{Shown}
use Rattle.bond_places.specs.Order.{Rising, comes_before, picked, sorted, frame_packets}
use Rattle.bond_group.specs.Group.{frames_in, packets_in, said, carries, bonded, bonded_slot, place_in, earlier, order}
use Rattle.bond_group.specs.Standing.{shown_by, before, is_end, standing_checks, call_checks, header_checks, headers_checks, group_checks, plan_checks, some_carries}
use Rattle.bond.specs.Bonding.{spread_checks, gather_checks, spread_over, gathered, spread_refusal, spread_of, spread_group, gather_refusal, gather_of, gather_buffer}
use Rattle.bond_group.specs.Plan.{plan_after}
use Rattle.bond.specs.Demands.{WellFormed, Fitting, ComesBack, InThisOrder, NothingElse, OrderHolds, RefusedByTable}
use Rattle.bond.specs.Listing.{Within}
use Rattle.bond.proofs.Placed.{Apart, apart, spread_other, length-spread, spread-gathered, spread-slot}
use Rattle.bond_places.proofs.Sorting.{among_sorted, sorted_among, among_picked, picked_among}
use Rattle.bond_places.proofs.Sweep.{sorted_rising}
use Rattle.bond_group.proofs.Standing.{whole}
use Rattle.bond_group.proofs.Grouping.{grouped}
use Rattle.bond_group.proofs.Planned.{no_header}
use Rattle.bond_group.proofs.Passing.{Called, called}
use Rattle.bond.proofs.Passing.{spread_none, gather_none}

-- ---- the order of a group

module _ (b : Bond) (group : List ℕ) where
  member : (m : ℕ) → Among m (order b group) → (m < packets_in group) × (bonded b group m ≡ true)
  unfolding order
  member m a =
      let p = among_picked (bonded b group) m 0 (packets_in group) (among_sorted (earlier group) m (picked (bonded b group) 0 (packets_in group)) a) in
      let l = p.1 in
      let h : m < packets_in group = omega arith in
      (h, p.2)

  bonded_member : (m : ℕ) → m < packets_in group → bonded b group m ≡ true → Among m (order b group)
  unfolding order
  bonded_member m l t =
      sorted_among (earlier group) m (picked (bonded b group) 0 (packets_in group)) (picked_among (bonded b group) m 0 (packets_in group) (omega arith) (omega arith) t)

  pub order-within : length group % frame_length last_slot ≡ 0 → Within (order b group) group
  order-within f m a = let l = (member m a).0 in omega arith

-- and of a well-formed one

module _ (b : Bond) (group : List ℕ) (w : WellFormed b group) where
  abbrev call : Called b (length group)
  call = called b (length group) w.called

  rising : Rising (earlier group) (order b group)
  unfolding order
  rising =
      sorted_rising b.carriers (frames_in group) (plan_after b group (frames_in group)).frames (place_in group) (bonded b group)
      (grouped b group call.few call.one (whole b group w.headers))
      (no_header b group)

  in_group : Within (order b group) group
  in_group = order-within b group call.frames

  order_apart : Apart (order b group)
  order_apart = apart group (order b group) rising

pub order_holds : OrderHolds
order_holds b group w = (rising b group w, member b group, bonded_member b group)

-- ---- a group whose headers stay

-- another buffer with the same headers
record SameHeaders (group g : List ℕ) : Type 0 where
  long : length g ≡ length group
  header : (j : ℕ) → slot (frame_packets * j) g ≡ slot (frame_packets * j) group

module _ (b : Bond) (group g : List ℕ) (h : SameHeaders group g) where
  said_same : (j : ℕ) → said g j ≡ said group j
  unfolding said
  said_same j = ap (reading Kind.Extended) (h.header j)

  frames_same : frames_in g ≡ frames_in group
  frames_same = ap (λ (n : ℕ). n / frame_length last_slot) h.long

  bonded_same : (m : ℕ) → bonded b g m ≡ bonded b group m
  unfolding bonded
  bonded_same m = ap (λ (s : Setting). bonded_slot b s (m % frame_packets)) (said_same (m / frame_packets))

  place_same : (m : ℕ) → place_in g m ≡ place_in group m
  unfolding place_in
  place_same m = λ i. record {
    carrier = (said_same (m / frame_packets) i).carrier_sequence;
    frames = (said_same (m / frame_packets) i).number_of_frames;
    at = frame_packets * ((said_same (m / frame_packets) i).frame_position.0 - first_position) + m % frame_packets;
  }

  order_same : order b g ≡ order b group
  unfolding order
  order_same = λ i. sorted (λ m n. comes_before (place_same m i) (place_same n i)) (picked (λ m. bonded_same m i) 0 (frame_packets * frames_same i))

  before_same : (j : ℕ) → before g j ≡ before group j
  unfolding before
  before_same zero = refl
  before_same (suc j) = ap shown_by (said_same j)

  header_same : (j : ℕ) → header_checks b g j ≡ header_checks b group j
  unfolding header_checks
  header_same j = λ i.
      read_checks Kind.Extended b.pid (h.header j i)
      ++ standing_checks b.carriers (said_same 0 i).group_id (before_same j i) (shown_by (said_same j i))

  headers_same : (j n : ℕ) → headers_checks b g j n ≡ headers_checks b group j n
  unfolding headers_checks
  headers_same j zero = refl
  headers_same j (suc n) = ap₂ ◌++◌ (header_same j) (headers_same (j + 1) n)

  group_same : group_checks b g ≡ group_checks b group
  unfolding group_checks
  group_same =
      ap₂ (λ (n m : ℕ). headers_checks b g 0 n ++ ((14, not (is_end b.carriers (before g m))) ∷ [])) frames_same frames_same
      ∙ ap₂ (λ (cs : List Check) (s : Shown). cs ++ ((14, not (is_end b.carriers s)) ∷ [])) (headers_same 0 (frames_in group)) (before_same (frames_in group))

  carries_same : some_carries b g ≡ some_carries b group
  unfolding some_carries
  carries_same = λ i. any_below (frames_same i) (λ j. carries b (said_same j i))

  still_formed : WellFormed b group → WellFormed b g
  still_formed w =
      record {
        called = subst (λ (n : ℕ). NoneHolds (call_checks b n)) (sym h.long) w.called;
        headers = subst NoneHolds (sym group_same) w.headers;
        carried = carries_same ∙ w.carried;
      }

-- ---- spread

module _ (b : Bond) (group stream : List ℕ) (w : WellFormed b group) (l : length stream ≡ packet_length * length (order b group)) where
  abbrev spread : List ℕ
  spread = spread_over (order b group) stream group

  spread-long : length spread ≡ length group
  spread-long = length-spread (order b group) stream group (in_group b group w) l

  stays : (m : ℕ) → bonded b group m ≡ false → slot m spread ≡ slot m group
  stays m f =
      spread_other (order b group) stream group (in_group b group w) l m (λ a. true≢false (sym (member b group m a).1 ∙ f))

  same_headers : SameHeaders group spread
  same_headers = record { long = spread-long; header = λ j. stays (frame_packets * j) (no_header b group j) }

  spread_passes : Fitting b group stream → NoneHolds (spread_checks b group stream)
  unfolding spread_checks plan_checks some_unfit_in
  spread_passes f =
      let cut : length stream % packet_length ≡ 0 = omega (arith, l) in
      more (ap not (eq-eqb (length stream % packet_length) 0 cut))
      (none_append (none_append w.called w.headers)
      (more (ap not w.carried)
      (more (ap not (eq-eqb (length stream) (packet_length * length (order b group)) l))
      (more (any_no (λ k. unfit b.pid (slot k stream)) (length stream / packet_length) (λ k h. f.good k (omega (arith, l)))) none))))

  module _ (f : Fitting b group stream) where
    granted : spread_refusal b group stream ≡ 0
    unfolding spread_refusal
    granted = first_none (spread_passes f)

    spread-answer : spread_of b group stream ≡ record { refusal = bare 0; packets = length (order b group) }
    unfolding spread_of refusal_by
    spread-answer = rw granted refl

    spread-made : spread_group b group stream ≡ spread
    unfolding spread_group
    spread-made = rw granted refl

module _ (b : Bond) (group : List ℕ) (w : WellFormed b group) (out : List ℕ) (room : packet_length * length (order b group) ≤ length out) where
  gather_granted : gather_refusal b group (length out) ≡ 0
  unfolding gather_refusal gather_checks plan_checks
  gather_granted =
      first_none
      (none_append (none_append w.called w.headers)
      (more (ap not w.carried) (more (le-ltb (length out) (packet_length * length (order b group)) room) none)))

  gather_answer : gather_of b group (length out) ≡ record { refusal = bare 0; packets = length (order b group) }
  unfolding gather_of refusal_by
  gather_answer = rw gather_granted refl

  gather_made : gather_buffer b group out ≡ copied out (gathered (order b group) group)
  unfolding gather_buffer
  gather_made = rw gather_granted refl

-- ---- the demand

pub comes_back : ComesBack
unfolding copied
comes_back b group stream out w f room =
    let l = f.exact in
    let g = spread b group stream w l in
    let h = same_headers b group stream w l in
    let o = order_same b group g h in
    let v = still_formed b group g h w in
    let long : packet_length * length (order b g) ≤ length out = rw o (omega arith) in
    let made = spread-made b group stream w l f in
    let back : gathered (order b g) g ≡ stream =
    ap (λ (ms : List ℕ). gathered ms g) o ∙ spread-gathered (order b group) stream group (order_apart b group w) (in_group b group w) l in (
      spread-answer b group stream w l f,
      rw made (gather_answer b g v out long ∙ ap (λ (ms : List ℕ). record { refusal = bare 0; packets = length ms }) o),
      rw made (gather_made b g v out long ∙ ap (copied out) back ∙ ap (λ (s : List ℕ). s ++ drop (length stream) out) (take_all (length out) stream room)),
    )

pub in_this_order : InThisOrder
in_this_order b group stream w f k h =
    rw (spread-made b group stream w f.exact f) (spread-slot (order b group) stream group (order_apart b group w) (in_group b group w) f.exact k h)

-- what a spread that is not refused was lent
module _ (b : Bond) (group stream : List ℕ) (n : NoneHolds (spread_checks b group stream)) where
  plan_none : NoneHolds (plan_checks b group)
  unfolding spread_checks
  plan_none = none_before (plan_checks b group) _ (none_behind ((1, not (eqb (length stream % packet_length) 0)) ∷ []) n)

  behind-plan : NoneHolds
      ((13, not (some_carries b group))
      ∷ (15, not (eqb (length stream) (packet_length * length (order b group))))
      ∷ (12, some_unfit_in b.pid stream)
      ∷ [])
  unfolding spread_checks
  behind-plan = none_behind (plan_checks b group) (none_behind ((1, not (eqb (length stream % packet_length) 0)) ∷ []) n)

  well_formed : WellFormed b group
  unfolding plan_checks
  well_formed =
      record {
        called = none_before (call_checks b (length group)) (group_checks b group) plan_none;
        headers = none_behind (call_checks b (length group)) plan_none;
        carried = not-false (some_carries b group) (none_at behind-plan 0);
      }

  pub exact : length stream ≡ packet_length * length (order b group)
  exact = eqb-true (length stream) (packet_length * length (order b group)) (not-false _ (none_at behind-plan 1))

-- what is said of what a spread leaves
abbrev Leaves : Bond → List ℕ → List ℕ → Type 0
Leaves b group g =
    (length g ≡ length group)
    × ((m : ℕ) → bonded b group m ≡ false → slot m g ≡ slot m group)
    × ((j : ℕ) → slot (frame_packets * j) g ≡ slot (frame_packets * j) group)

pub nothing_else : NothingElse
unfolding spread_group spread_refusal
nothing_else b group stream = by_answer (eqb (first_of (spread_checks b group stream)) 0) refl
  where
    by_answer : (t : Bool) → eqb (first_of (spread_checks b group stream)) 0 ≡ t → Leaves b group (cond t (spread_over (order b group) stream group) group)
    by_answer true e =
        let n = spread_none b group stream (eqb-true (first_of (spread_checks b group stream)) 0 e) in
        let w = well_formed b group stream n in
        let l = exact b group stream n in
        (spread-long b group stream w l, stays b group stream w l, (same_headers b group stream w l).header)
    by_answer false e = (refl, (λ m f. refl), λ j. refl)

pub refused_by_table : RefusedByTable
unfolding spread_of spread_refusal gather_of gather_refusal refusal_by
refused_by_table b group stream out = (spread_none b group stream, first_none, gather_none b group out, first_none)
