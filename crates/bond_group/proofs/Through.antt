-- The headers of a group gone through one after another: what is known behind each, and what is answered where one is refused.
-- Assumes nothing.
use Prim.Native.Nat.{ℕ, zero, suc, ◌+◌, ◌-◌, ◌*◌, ◌≤◌, ◌<◌}
use mathlib.Core.Path.{◌≡◌, refl, sym, ap, ap₂, subst, ◌∙◌}
use mathlib.Core.Bool.{true, false, cond, not}
use mathlib.Core.List.{List, [], ◌∷◌, ◌++◌, append_assoc}
use native.Mathlib.Omega.{arith}
use native.Mathlib.Numerals.{add-one}
use borrow.Author.Tests.{ne_eqb}
use lib.Dec.{eqb}
use lib.ListN.{length, take, drop, length-drop}
use lib.Seq.{length-take-le}
use Rattle.setting.specs.declared.Kind.{Kind}
use Rattle.counters.specs.Counters.{last_slot, last_position, last_carrier}
use Rattle.setting.specs.Setting.{blank}
use Rattle.setting.specs.Refusal.{Check, NoneHolds, first_of}
use Rattle.setting.specs.Rules.{pid_allowed}
use Rattle.setting.proofs.Refusals.{answers, first_none, onward, at_once, none_append, none_before, none_behind, none_first, never_first}
use Rattle.header_check.specs.OnPaper.{Checked}
use Rattle.header_layout.specs.Header.{header_length, reading}
use Rattle.header_check.specs.OnPaper.{Refusal}
use Rattle.header_check.specs.Checking.{read_checks, read_refusal, bare, refusal_by, parts_of, checked_of}
use Rattle.header_check.proofs.Accepted.{numbered_read}
use Rattle.header_check.proofs.Asked.{refusal-shown, refusal_is, parts_are, refused_bare}
use Rattle.header_layout.proofs.Calls.{right_call}
use Rattle.packet.specs.Packets.{packet_length, frame_length, slot}
use Rattle.bond_group.specs.declared.Bond.{Bond}
use Rattle.bond_group.specs.declared.headers.Shown.{Shown}
use Rattle.bond_places.specs.Order.{frame_packets}
use Rattle.bond_group.specs.Group.{frames_in, said}
use Rattle.bond_group.specs.Standing.{shown_by, before, is_end, standing_checks, header_checks, headers_checks, group_checks, refused_from, refused_header, group_refusal}
use Rattle.bond_group.specs.Plan.{nothing_seen, no_plan, plan_after, planned_by}
use Rattle.bond_group.proofs.Standing.{Stands, stands, headers_each}
use Rattle.bond_group.proofs.Grouping.{framed-short}

-- ---- checks of headers, one header after another

module _ (b : Bond) (group : List ℕ) where
  -- where the first j pass, the next one answers if it is refused
  refused_at : (s j k : ℕ) (rest : List Check) → NoneHolds (headers_checks b group s j) → (first_of (header_checks b group (s + j)) ≡ 0 → ⊥)
      → first_of (headers_checks b group s (j + suc k) ++ rest) ≡ first_of (header_checks b group (s + j))
  unfolding headers_checks
  refused_at s zero k rest n d =
      let e : zero + suc k ≡ suc k = omega arith in
      let f : s + 0 ≡ s = omega arith in
      let d' : first_of (header_checks b group s) ≡ 0 → ⊥ = subst (λ (x : ℕ). first_of (header_checks b group x) ≡ 0 → ⊥) f d in
      ap (λ (x : ℕ). first_of (headers_checks b group s x ++ rest)) e
      ∙ ap first_of (append_assoc (header_checks b group s) (headers_checks b group (s + 1) k) rest)
      ∙ at_once (header_checks b group s) (headers_checks b group (s + 1) k ++ rest) d'
      ∙ ap (λ (x : ℕ). first_of (header_checks b group x)) (sym f)
  refused_at s (suc j) k rest n d =
      let e : suc j + suc k ≡ suc (j + suc k) = omega arith in
      let f : s + suc j ≡ s + 1 + j = omega arith in
      let d' : first_of (header_checks b group (s + 1 + j)) ≡ 0 → ⊥ = subst (λ (x : ℕ). first_of (header_checks b group x) ≡ 0 → ⊥) f d in
      ap (λ (x : ℕ). first_of (headers_checks b group s x ++ rest)) e
      ∙ ap first_of (append_assoc (header_checks b group s) (headers_checks b group (s + 1) (j + suc k)) rest)
      ∙ onward (headers_checks b group (s + 1) (j + suc k) ++ rest) (none_before (header_checks b group s) (headers_checks b group (s + 1) j) n)
      ∙ refused_at (s + 1) j k rest (none_behind (header_checks b group s) n) d'
      ∙ ap (λ (x : ℕ). first_of (header_checks b group x)) (sym f)

  -- and it is the first frame that is refused
  refused_first : (s j k : ℕ) → NoneHolds (headers_checks b group s j) → (first_of (header_checks b group (s + j)) ≡ 0 → ⊥) → refused_from b group s (j + suc k) ≡ s + j
  unfolding headers_checks refused_from
  refused_first s zero k n d =
      let e : zero + suc k ≡ suc k = omega arith in
      let f : s + 0 ≡ s = omega arith in
      let d' : first_of (header_checks b group s) ≡ 0 → ⊥ = subst (λ (x : ℕ). first_of (header_checks b group x) ≡ 0 → ⊥) f d in
      ap (refused_from b group s) e ∙ rw (ne_eqb _ 0 d') (sym f)
  refused_first s (suc j) k n d =
      let e : suc j + suc k ≡ suc (j + suc k) = omega arith in
      let f : s + suc j ≡ s + 1 + j = omega arith in
      let d' : first_of (header_checks b group (s + 1 + j)) ≡ 0 → ⊥ = subst (λ (x : ℕ). first_of (header_checks b group x) ≡ 0 → ⊥) f d in
      ap (refused_from b group s) e
      ∙ rw (first_none (none_before (header_checks b group s) (headers_checks b group (s + 1) j) n)) (refused_first (s + 1) j k (none_behind (header_checks b group s) n) d' ∙ sym f)

  -- one more passes
  headers_more : (s j : ℕ) → NoneHolds (headers_checks b group s j) → NoneHolds (header_checks b group (s + j)) → NoneHolds (headers_checks b group s (suc j))
  unfolding headers_checks
  headers_more s zero n h =
      let f : s + 0 ≡ s = omega arith in
      none_append (subst (λ (x : ℕ). NoneHolds (header_checks b group x)) f h) NoneHolds.none
  headers_more s (suc j) n h =
      let f : s + suc j ≡ s + 1 + j = omega arith in
      none_append (none_before (header_checks b group s) (headers_checks b group (s + 1) j) n)
      (headers_more (s + 1) j (none_behind (header_checks b group s) n) (subst (λ (x : ℕ). NoneHolds (header_checks b group x)) f h))

  last_stands : (i : ℕ) → NoneHolds (headers_checks b group 0 (suc i)) → Stands b group i
  last_stands i n =
      let o : 0 + i ≡ i = omega arith in
      stands b group i (subst (λ (x : ℕ). NoneHolds (header_checks b group x)) o (headers_each b group 0 (suc i) n i (omega arith)))

  first_few : ((before group 0).carrier_sequence ≤ last_carrier) × ((before group 0).frame_position.0 ≤ last_position)
  unfolding before shown_by blank
  first_few = (omega arith, omega arith)

  shown_few : (i : ℕ) → Stands b group i → ((before group (suc i)).carrier_sequence ≤ last_carrier) × ((before group (suc i)).frame_position.0 ≤ last_position)
  unfolding before shown_by
  shown_few i st =
      let c = st.bond.carriers in
      let q = st.bond.to in
      let p = st.bond.last in
      let f = framed-short (said group i).number_of_frames st.bond.framed in
      (omega arith, omega arith)

  -- ---- behind j headers

  pub record Through (behind : Shown) (first_group_id j : ℕ) : Type 0 where
    pub behind_is : behind ≡ before group j
    pub group_is : 0 < j → first_group_id ≡ (said group 0).group_id
    pub passed : NoneHolds (headers_checks b group 0 j)
    pub within : j ≤ frames_in group

  pub through_none : (behind : Shown) (first_group_id : ℕ) → behind ≡ shown_by blank → Through behind first_group_id 0
  unfolding before headers_checks
  through_none behind first_group_id h =
      record { behind_is = h; group_is = λ l. absurd (omega arith); passed = NoneHolds.none; within = omega arith }

  -- ---- the header of frame j

  -- the part of the buffer that is read
  abbrev pub part : ℕ → List ℕ
  part j = take (frame_length last_slot * j + packet_length - frame_length last_slot * j) (drop (frame_length last_slot * j) group)

  part_is : (j : ℕ) → part j ≡ slot (frame_packets * j) group
  unfolding slot
  part_is j =
      let n : frame_length last_slot * j + packet_length - frame_length last_slot * j ≡ packet_length = omega arith in
      let a : frame_length last_slot * j ≡ packet_length * (frame_packets * j) = omega arith in
      ap₂ (λ (x y : ℕ). take x (drop y group)) n a

  -- the checks of a read
  abbrev of_read : ℕ → List Check
  of_read j = read_checks Kind.Extended b.pid (slot (frame_packets * j) group)

  module _ (allowed : pid_allowed b.pid ≡ true) (j : ℕ) (l : j < frames_in group) where
    header-long : length (slot (frame_packets * j) group) ≡ header_length
    unfolding slot
    header-long =
        length-take-le packet_length (drop (packet_length * (frame_packets * j)) group) (rw length-drop (omega arith))

    pub header-refusal : read_refusal Kind.Extended b.pid (slot (frame_packets * j) group) ≡ first_of (of_read j)
    unfolding read_refusal
    header-refusal = right_call b.pid (length (slot (frame_packets * j) group)) _ header-long allowed

    read_refusal-part : read_refusal Kind.Extended b.pid (part j) ≡ first_of (of_read j)
    read_refusal-part = ap (read_refusal Kind.Extended b.pid) (part_is j) ∙ header-refusal

    abbrev standing : List Check
    standing = standing_checks b.carriers (said group 0).group_id (before group j) (shown_by (said group j))

    split : header_checks b group j ≡ of_read j ++ standing
    unfolding header_checks
    split = refl

    read_none : first_of (of_read j) ≡ 0 → NoneHolds (of_read j)
    read_none e = none_first (of_read j) (numbered_read Kind.Extended b.pid (slot (frame_packets * j) group)) e

    -- what the part says is what frame j's header says
    pub part-long : length (part j) ≡ header_length
    part-long = ap length (part_is j) ∙ header-long

    pub part-said : reading Kind.Extended (part j) ≡ said group j
    unfolding said
    part-said = ap (reading Kind.Extended) (part_is j)

    -- what an accepted header says
    pub said_is : (r : Checked) → r ≡ checked_of Kind.Extended b.pid (part j) → r.refusal.number ≡ 0 → r ≡ parts_of (bare 0) (said group j)
    said_is r e z = parts_are Kind.Extended b.pid (part j) r e z ∙ ap (parts_of (bare 0)) part-said

    module _ (behind : Shown) (first_group_id : ℕ) (t : Through behind first_group_id j) where
      -- the answer where this header is refused
      answer : (x : ℕ) → first_of (header_checks b group j) ≡ x → (x ≡ 0 → ⊥) → first_of (group_checks b group) ≡ x
      unfolding group_checks
      answer x e d =
          let k = frames_in group - suc j in
          let f : frames_in group ≡ j + suc k = omega arith in
          let o : 0 + j ≡ j = omega arith in
          let e' : first_of (header_checks b group (0 + j)) ≡ x = ap (λ (i : ℕ). first_of (header_checks b group i)) o ∙ e in
          ap (λ (n : ℕ). first_of (headers_checks b group 0 n ++ ((14, not (is_end b.carriers (before group (frames_in group)))) ∷ []))) f
          ∙ refused_at 0 j k ((14, not (is_end b.carriers (before group (frames_in group)))) ∷ []) t.passed (λ z. d (sym e' ∙ z)) ∙ e'

      -- this is then the header which is refused
      frame_is : (first_of (header_checks b group j) ≡ 0 → ⊥) → part j ≡ refused_header b group
      unfolding refused_header
      frame_is d =
          let k = frames_in group - suc j in
          let f : frames_in group ≡ j + suc k = omega arith in
          let o : 0 + j ≡ j = omega arith in
          let d' : first_of (header_checks b group (0 + j)) ≡ 0 → ⊥ = subst (λ (i : ℕ). first_of (header_checks b group i) ≡ 0 → ⊥) (sym o) d in
          part_is j
          ∙ ap (λ (i : ℕ). slot (frame_packets * i) group) (sym (ap (refused_from b group 0) f ∙ refused_first 0 j k t.passed d' ∙ o))

      -- refused as a header
      module _ (r : Checked) (e : r ≡ checked_of Kind.Extended b.pid (part j)) (d : r.refusal.number ≡ 0 → ⊥) where
        here : first_of (header_checks b group j) ≡ r.refusal.number
        here =
            let f : r.refusal.number ≡ first_of (of_read j) = sym (refusal_is Kind.Extended b.pid (part j) r e) ∙ read_refusal-part in
            ap first_of split ∙ at_once (of_read j) standing (λ z. d (f ∙ z)) ∙ sym f

        pub when_read_refused : first_of (group_checks b group) ≡ r.refusal.number
        when_read_refused = answer r.refusal.number here d

        pub read_shows : r.refusal ≡ group_refusal b group r.refusal.number
        read_shows =
            refusal-shown Kind.Extended b.pid (part j) r e
            ∙ ap₂ refusal_by (refusal_is Kind.Extended b.pid (part j) r e) (frame_is (λ z. d (sym here ∙ z)))

      module _ (r : Checked) (e : r ≡ checked_of Kind.Extended b.pid (part j)) (z : r.refusal.number ≡ 0) where
        accepted : NoneHolds (of_read j)
        accepted = read_none (sym read_refusal-part ∙ refusal_is Kind.Extended b.pid (part j) r e ∙ z)

        -- refused with 14
        pub standing_refused : (x : ℕ) → x ≡ first_of standing → (x ≡ 0 → ⊥) → first_of (group_checks b group) ≡ x
        standing_refused x f d = answer x (ap first_of split ∙ onward standing accepted ∙ sym f) d

        module _ (f : first_of standing ≡ 0) where
          header_none : NoneHolds (header_checks b group j)
          unfolding standing_checks
          header_none = subst NoneHolds (sym split) (none_append accepted (none_first standing refl f))

          passed_more : NoneHolds (headers_checks b group 0 (suc j))
          passed_more =
              let o : j ≡ 0 + j = omega arith in
              headers_more 0 j t.passed (subst (λ (i : ℕ). NoneHolds (header_checks b group i)) o header_none)

          -- all headers up to this one stand as they should
          pub stand_each : (i : ℕ) → i < suc j → Stands b group i
          stand_each i h =
              let o : 0 + i ≡ i = omega arith in
              stands b group i (subst (λ (x : ℕ). NoneHolds (header_checks b group x)) o (headers_each b group 0 (suc j) passed_more i h))

          pub through_more : (behind' : Shown) (group-id' : ℕ) → behind' ≡ shown_by (said group j) → group-id' ≡ (said group 0).group_id
              → Through behind' group-id' (j + 1)
          unfolding before
          through_more behind' group-id' h g =
              subst (Through behind' group-id') (sym (add-one j))
              (record {
                behind_is = h;
                group_is = λ m. g;
                passed = passed_more;
                within = omega arith;
              })

  -- what was shown last is within its counts
  pub behind_few : (behind : Shown) (first_group_id j : ℕ) → Through behind first_group_id j
      → (behind.carrier_sequence ≤ last_carrier) × (behind.frame_position.0 ≤ last_position)
  behind_few behind first_group_id j t = rw t.behind_is (by_count j t.passed)
    where
      by_count : (j : ℕ) → NoneHolds (headers_checks b group 0 j) → ((before group j).carrier_sequence ≤ last_carrier) × ((before group j).frame_position.0 ≤ last_position)
      by_count zero n = first_few
      by_count (suc i) n = shown_few i (last_stands i n)

  -- ---- behind all of them

  module _ (behind : Shown) (first_group_id j : ℕ) (t : Through behind first_group_id j) (all : frames_in group ≤ j) where
    all_passed : NoneHolds (headers_checks b group 0 (frames_in group))
    all_passed = let e : j ≡ frames_in group = omega (arith, t.within) in subst (λ (n : ℕ). NoneHolds (headers_checks b group 0 n)) e t.passed

    last-shown : behind ≡ before group (frames_in group)
    last-shown = let e : j ≡ frames_in group = omega (arith, t.within) in t.behind_is ∙ ap (before group) e

    -- 14 for frames missing
    pub missing : is_end b.carriers behind ≡ false → first_of (group_checks b group) ≡ 14
    unfolding group_checks
    missing e = onward _ all_passed ∙ answers 14 [] (ap not (sym (ap (is_end b.carriers) last-shown) ∙ e))

    pub none_missing : is_end b.carriers behind ≡ true → first_of (group_checks b group) ≡ 0
    unfolding group_checks
    none_missing e = first_none (none_append all_passed (NoneHolds.more (ap not (sym (ap (is_end b.carriers) last-shown) ∙ e)) NoneHolds.none))

-- ---- the plan as it is answered

-- a frame that does not stand as it should is not refused by 7
pub not_of_standing : (carriers first_group_id : ℕ) (behind h : Shown) → first_of (standing_checks carriers first_group_id behind h) ≡ 7 → ⊥
unfolding standing_checks
not_of_standing carriers first_group_id behind h e = never_first 7 _ (omega arith) refl e

module _ (b : Bond) (group : List ℕ) where
  pub planned_refused : (x : ℕ) {f : Refusal} → f ≡ group_refusal b group x → first_of (group_checks b group) ≡ x → (x ≡ 0 → ⊥) → no_plan f ≡ planned_by b group
  unfolding planned_by
  planned_refused x r e d =
      let f : cond (eqb (first_of (group_checks b group)) 0) (plan_after b group (frames_in group)) nothing_seen ≡ nothing_seen = rw (e, ne_eqb x 0 d) refl in
      λ i. record { refusal = (r ∙ ap (group_refusal b group) (sym e)) i; plan = sym f i }

  pub planned_all : first_of (group_checks b group) ≡ 0 → record { refusal = bare 0; plan = plan_after b group (frames_in group) } ≡ planned_by b group
  unfolding planned_by
  planned_all e =
      let f : cond (eqb (first_of (group_checks b group)) 0) (plan_after b group (frames_in group)) nothing_seen ≡ plan_after b group (frames_in group) = rw e refl in
      λ i. record { refusal = refused_bare 0 (refused_header b group) refl (omega arith) (sym e) i; plan = sym f i }
