-- A group that the calls compose: one carrier, two super frames of three frames in a row, stream 1 in slot 1. Assumes nothing.
use Prim.Native.Nat.{ℕ, zero, suc, ◌+◌, ◌*◌, ◌≤◌, ◌<◌}
use mathlib.Core.Path.{◌≡◌, refl, sym, ap, subst, ◌∙◌}
use mathlib.Core.Bool.{true, false, not}
use mathlib.Core.List.{List, [], ◌∷◌, ◌++◌, map, flatten, append-nil}
use native.Mathlib.Omega.{arith}
use lib.ListN.{length, get_or, replicate, length-append, length-replicate}
use lib.Seq.{drop_at}
use Rattle.slices.specs.Slices.{any_below, some_at_least, Among}
use Rattle.slices.proofs.Any.{any_found}
use Rattle.setting.specs.declared.Kind.{Kind}
use Rattle.setting.specs.declared.Setting.{Setting}
use Rattle.setting.specs.declared.Announced.{Announced}
use Rattle.setting.specs.Announcing.{announced}
use Rattle.setting.specs.Setting.{blank}
use Rattle.setting.specs.Size.{size_of, slots_of}
use Rattle.setting.specs.Refusal.{first_of, NoneHolds, none, more}
use Rattle.setting.specs.Rules.{some_unavailable, pair_twice, absent_checks, width_checks, bonding_checks, rule_checks}
use Rattle.setting.proofs.Refusals.{none_append}
use Rattle.setting_bytes.specs.Words.{word_bytes}
use Rattle.setting_bytes.specs.Kinds.{kind_number}
use Rattle.setting_bytes.specs.Settings.{announced_bytes, setting_bytes}
use Rattle.counters.specs.Counters.{last_slot, available}
use Rattle.header_layout.specs.Header.{reading}
use Rattle.header_check.specs.Checking.{read_checks}
use Rattle.header_check.proofs.Accepted.{shown}
use Rattle.packet.specs.Packets.{packet_length, frame_length, slot, unfit}
use Rattle.composer.specs.Composing.{saying, counter_behind, version_behind}
use Rattle.receiver.specs.Store.{store_length}
use Rattle.receiver.specs.Bytes.{receiver_length}
use Rattle.receiver.specs.Calls.{start_refused}
use Rattle.runs.specs.Runs.{Each, none, more}
use Rattle.runs.specs.Demands.{frames_closed}
use Rattle.runs.proofs.Carried.{slot-first, slot_next}
use Rattle.runs.specs.Work.{Work, numbers_filled, said as said_by, headed_behind, headed, frame_of}
use Rattle.runs.proofs.Composed.{Good, header_read, length_frame_of}
use Rattle.runs.proofs.Vouched.{accepted_reading}
use Rattle.runs.proofs.Cycles.{the_pid, the_packet, packet_long, fit_packet, one_slot, Takes, one_takes, work_of, run_of, run-frames, run_good}
use Rattle.bond_places.specs.Order.{frame_packets}
use Rattle.bond_group.specs.declared.Bond.{Bond}
use Rattle.bond_group.specs.Group.{frames_in, said, names, number_up_to, number_of, carries, bonded_slot, bonded, order}
use Rattle.bond_group.specs.Standing.{shown_by, before, is_last, is_end, next_carrier, next_position, standing_checks, call_checks, header_checks, headers_checks, group_checks, some_carries}
use Rattle.bond.specs.Demands.{WellFormed, Fitting}
use Rattle.bond.proofs.Placed.{slot-front}
use Rattle.bond.proofs.Demands.{order_holds}
use Rattle.bonded.specs.Carriers.{extended, Carrier, group_at}
use Rattle.bonded.specs.Demands.{Witness}
use Rattle.bonded.proofs.Alike.{slot_later}

-- ---- the settings

-- carrier 1 of one, at each of the three positions
abbrev at : ℕ → Setting
at position = one_slot 1 1 1 3 position

takes_1 : Takes Kind.Extended (at 1)
unfolding one_slot first_of width_checks absent_checks size_of rule_checks bonding_checks some_unavailable pair_twice available some_at_least any_below setting_bytes announced_bytes announced word_bytes
takes_1 = one_takes 1 1 1 3 1 Kind.Extended refl refl refl

takes_2 : Takes Kind.Extended (at 2)
unfolding one_slot first_of width_checks absent_checks size_of rule_checks bonding_checks some_unavailable pair_twice available some_at_least any_below setting_bytes announced_bytes announced word_bytes
takes_2 = one_takes 1 1 1 3 2 Kind.Extended refl refl refl

takes_3 : Takes Kind.Extended (at 3)
unfolding one_slot first_of width_checks absent_checks size_of rule_checks bonding_checks some_unavailable pair_twice available some_at_least any_below setting_bytes announced_bytes announced word_bytes
takes_3 = one_takes 1 1 1 3 3 Kind.Extended refl refl refl

-- two super frames, and the frame behind them
abbrev settings : List Setting
settings = at 1 ∷ at 2 ∷ at 3 ∷ at 1 ∷ at 2 ∷ at 3 ∷ at 1 ∷ []

all_take : Each (Takes Kind.Extended) settings
all_take = more takes_1 (more takes_2 (more takes_3 (more takes_1 (more takes_2 (more takes_3 (more takes_1 none))))))

-- ---- the frames

abbrev the_bond : Bond
the_bond = record { carriers = 1; pid = the_pid; ts_id = 0; original_network_id = 0 }

-- a frame whose header says a setting, with stream 1 in slot 1
record Says (position : ℕ) (f : List ℕ) : Type 0 where
  long : length f ≡ frame_length last_slot
  checks : NoneHolds (read_checks Kind.Extended the_pid (slot 0 f))
  shows : shown_by (reading Kind.Extended (slot 0 f)) ≡ shown_by (at position)
  carried : carries the_bond (reading Kind.Extended (slot 0 f)) ≡ true
  in_slot_1 : bonded_slot the_bond (reading Kind.Extended (slot 0 f)) 1 ≡ true

module _ (position counter version : ℕ) where
  abbrev h : Setting × Work
  h = (said_by counter version (work_of (at position)), work_of (at position))

  shows_it : shown_by (said_by counter version (work_of (at position))) ≡ shown_by (at position)
  unfolding shown_by said_by saying work_of one_slot
  shows_it = refl

  carries_it : carries the_bond (said_by counter version (work_of (at position))) ≡ true
  unfolding carries number_of number_up_to names available said_by saying work_of one_slot
  carries_it = refl

  slot_1_has_it : bonded_slot the_bond (said_by counter version (work_of (at position))) 1 ≡ true
  unfolding bonded_slot number_of number_up_to names available said_by saying work_of one_slot numbers_filled the_packet
  slot_1_has_it = refl

  says : Good Kind.Extended the_pid h → Says position (frame_of Kind.Extended the_pid h)
  unfolding size_of
  says g =
      let f = frame_of Kind.Extended the_pid h in
      let r = accepted_reading Kind.Extended the_pid (slot 0 f) h.0 (header_read Kind.Extended the_pid h g) in
      let s = shown Kind.Extended the_pid (slot 0 f) r.0 in
      record {
        long = length_frame_of Kind.Extended the_pid h g;
        checks = s.checks;
        shows = ap shown_by r.1 ∙ shows_it;
        carried = ap (carries the_bond) r.1 ∙ carries_it;
        in_slot_1 = ap (λ (x : Setting). bonded_slot the_bond x 1) r.1 ∙ slot_1_has_it;
      }

-- seven such frames
data SayAll : List ℕ → List (List ℕ) → Type 0 where
  no_more : SayAll [] []
  and_then : {position : ℕ} {positions : List ℕ} {f : List ℕ} {fs : List (List ℕ)} → Says position f → SayAll positions fs → SayAll (position ∷ positions) (f ∷ fs)

abbrev framed : List (Setting × Work) → List (List ℕ)
framed hs = map (frame_of Kind.Extended the_pid) hs

say_behind : (counter version : ℕ) (last : Announced) (positions : List ℕ)
    → Each (Good Kind.Extended the_pid) (headed_behind counter version last (map work_of (map at positions)))
    → SayAll positions (framed (headed_behind counter version last (map work_of (map at positions))))
unfolding headed_behind
say_behind counter version last [] g = no_more
say_behind counter version last (p ∷ ps) (more g gs) = and_then (says p _ _ g) (say_behind (counter_behind counter) (version_behind version last (work_of (at p)).setting) (announced (work_of (at p)).setting) ps gs)

say_all : (positions : List ℕ) → Each (Good Kind.Extended the_pid) (headed (map work_of (map at positions))) → SayAll positions (framed (headed (map work_of (map at positions))))
unfolding headed
say_all [] g = no_more
say_all (p ∷ ps) (more g gs) = and_then (says p 0 0 g) (say_behind 0 0 _ ps gs)

-- ---- a super frame

-- the header of frame j of some frames
head_at : (fs : List (List ℕ)) (j : ℕ) → Each (λ f. length f ≡ frame_length last_slot) fs → j < length fs → slot (frame_packets * j) (flatten fs) ≡ slot 0 (get_or fs j [])
unfolding flatten
head_at [] j l h = absurd (omega arith)
head_at (f ∷ fs) zero (more l ls) h = slot-front 0 f (flatten fs) (omega (arith, l))
head_at (f ∷ fs) (suc j) (more l ls) h =
    let e : frame_packets * suc j ≡ frame_packets * j + frame_packets = omega arith in
    ap (λ (k : ℕ). slot k (f ++ flatten fs)) e ∙ sym (slot_later (frame_packets * j) (f ++ flatten fs))
    ∙ ap (slot (frame_packets * j)) (drop_at f (flatten fs) (frame_length last_slot) l) ∙ head_at fs j ls (omega arith)

among_some : {m : ℕ} (ms : List ℕ) → Among m ms → 1 ≤ length ms
among_some {m = m} [] a = elim a [ ]
among_some (k ∷ ms) a = omega arith

module _ (f₁ f₂ f₃ : List ℕ) (s₁ : Says 1 f₁) (s₂ : Says 2 f₂) (s₃ : Says 3 f₃) where
  abbrev frames : List (List ℕ)
  frames = f₁ ∷ f₂ ∷ f₃ ∷ []

  abbrev group : List ℕ
  group = flatten frames

  each_long : Each (λ f. length f ≡ frame_length last_slot) frames
  each_long = more s₁.long (more s₂.long (more s₃.long none))

  group-long : length group ≡ frame_length last_slot * 3
  unfolding flatten
  group-long =
      length-append f₁ (f₂ ++ (f₃ ++ []))
      ∙ omega (arith, s₁.long, s₂.long, s₃.long, length-append f₂ (f₃ ++ []), length-append f₃ [])

  three : frames_in group ≡ suc (suc (suc zero))
  three = omega (arith, group-long)

  said_is : (j : ℕ) → j < 3 → said group j ≡ reading Kind.Extended (slot 0 (get_or frames j []))
  unfolding said
  said_is j l = ap (reading Kind.Extended) (head_at frames j each_long l)

  called : NoneHolds (call_checks the_bond (length group))
  unfolding call_checks
  called = rw group-long (more refl (more refl (more refl none)))

  first_group_id : (said group 0).group_id ≡ 0
  unfolding shown_by one_slot
  first_group_id = ap (λ (x : Setting). x.group_id) (said_is 0 (omega arith)) ∙ ap (λ x. x.group_id) s₁.shows

  shows_at : (j position : ℕ) → j < 3 → Says position (get_or frames j []) → shown_by (said group j) ≡ shown_by (at position)
  shows_at j position l s = ap shown_by (said_is j l) ∙ s.shows

  -- a header's own checks, and where it stands
  head_none : (j position : ℕ) → j < 3 → Says position (get_or frames j [])
      → NoneHolds (standing_checks 1 0 (before group j) (shown_by (at position))) → NoneHolds (header_checks the_bond group j)
  unfolding header_checks
  head_none j position l s stands =
      none_append (subst (λ (p : List ℕ). NoneHolds (read_checks Kind.Extended the_pid p)) (sym (head_at frames j each_long l)) s.checks)
      (rw (first_group_id, shows_at j position l s) stands)

  first_stands : NoneHolds (standing_checks 1 0 (before group 0) (shown_by (at 1)))
  unfolding standing_checks before shown_by blank is_end is_last next_carrier next_position one_slot
  first_stands = more refl (more refl (more refl (more refl (more refl (more refl none)))))

  second_stands : NoneHolds (standing_checks 1 0 (shown_by (at 1)) (shown_by (at 2)))
  unfolding standing_checks shown_by is_end is_last next_carrier next_position one_slot
  second_stands = more refl (more refl (more refl (more refl (more refl (more refl none)))))

  third_stands : NoneHolds (standing_checks 1 0 (shown_by (at 2)) (shown_by (at 3)))
  unfolding standing_checks shown_by is_end is_last next_carrier next_position one_slot
  third_stands = more refl (more refl (more refl (more refl (more refl (more refl none)))))

  at_end : is_end 1 (shown_by (at 3)) ≡ true
  unfolding shown_by is_end is_last one_slot
  at_end = refl

  behind : (j position : ℕ) → j < 3 → Says position (get_or frames j []) → before group (suc j) ≡ shown_by (at position)
  unfolding before
  behind j position l s = shows_at j position l s

  headers : NoneHolds (group_checks the_bond group)
  unfolding group_checks headers_checks
  headers =
      let second = subst (λ x. NoneHolds (standing_checks 1 0 x (shown_by (at 2)))) (sym (behind 0 1 (omega arith) s₁)) second_stands in
      let third = subst (λ x. NoneHolds (standing_checks 1 0 x (shown_by (at 3)))) (sym (behind 1 2 (omega arith) s₂)) third_stands in
      rw three
      (none_append
      (none_append (head_none 0 1 (omega arith) s₁ first_stands) (none_append (head_none 1 2 (omega arith) s₂ second) (none_append (head_none 2 3 (omega arith) s₃ third) none)))
      (more (ap not (ap (is_end 1) (behind 2 3 (omega arith) s₃) ∙ at_end)) none))

  carried_there : some_carries the_bond group ≡ true
  unfolding some_carries
  carried_there =
      any_found (λ j. carries the_bond (said group j)) (frames_in group) 0 (omega (arith, three)) (ap (carries the_bond) (said_is 0 (omega arith)) ∙ s₁.carried)

  well_formed : WellFormed the_bond group
  well_formed = record { called = called; headers = headers; carried = carried_there }

  -- packet 1 is bonded
  bonded_1 : bonded the_bond group 1 ≡ true
  unfolding bonded
  bonded_1 = ap (λ (x : Setting). bonded_slot the_bond x 1) (said_is 0 (omega arith)) ∙ s₁.in_slot_1

  -- so a stream for the group has a packet or more
  some-order : 1 ≤ length (order the_bond group)
  some-order = among_some (order the_bond group) ((order_holds the_bond group well_formed).2 1 (omega (arith, three)) bonded_1)

-- ---- a stream that fits

-- n packets
unfoldable copies : ℕ → List ℕ
copies zero = []
copies (suc n) = the_packet ++ copies n

length-copies : (n : ℕ) → length (copies n) ≡ packet_length * n
unfolding copies
length-copies zero = refl
length-copies (suc n) = length-append the_packet (copies n) ∙ omega (arith, packet_long, length-copies n)

copies_fit : (n k : ℕ) → k < n → unfit the_pid (slot k (copies n)) ≡ false
unfolding copies
copies_fit zero k h = absurd (omega arith)
copies_fit (suc n) zero h = ap (unfit the_pid) (slot-first the_packet (copies n) packet_long) ∙ fit_packet
copies_fit (suc n) (suc k) h = ap (unfit the_pid) (slot_next the_packet (copies n) k packet_long) ∙ copies_fit n k (omega arith)

fits : (group : List ℕ) → Fitting the_bond group (copies (length (order the_bond group)))
fits group = record { exact = length-copies (length (order the_bond group)); good = λ k h. copies_fit (length (order the_bond group)) k h }

-- ---- the witness

start_accepted : start_refused (replicate receiver_length 0) the_pid extended ≡ 0
unfolding start_refused first_of kind_number
start_accepted = refl

the_frames : map (λ f. f.frame) (frames_closed (run_of Kind.Extended settings all_take)) ≡ framed (headed (map work_of settings))
the_frames = run-frames Kind.Extended settings all_take

-- seven frames as the run closed them make a carrier with two super frames
module _ (f₁ f₂ f₃ g₁ g₂ g₃ next : List ℕ) (s₁ : Says 1 f₁) (s₂ : Says 2 f₂) (s₃ : Says 3 f₃) (t₁ : Says 1 g₁) (t₂ : Says 2 g₂) (t₃ : Says 3 g₃)
    (closed : map (λ f. f.frame) (frames_closed (run_of Kind.Extended settings all_take)) ≡ f₁ ∷ f₂ ∷ f₃ ∷ g₁ ∷ g₂ ∷ g₃ ∷ next ∷ []) where
  -- they are its super frames, and the frame behind
  closed_so : map (λ f. f.frame) (frames_closed (run_of Kind.Extended settings all_take)) ≡ flatten ((f₁ ∷ f₂ ∷ f₃ ∷ []) ∷ (g₁ ∷ g₂ ∷ g₃ ∷ []) ∷ []) ++ (next ∷ [])
  unfolding flatten
  closed_so = closed

  abbrev carrier : Carrier the_pid
  carrier =
      record {
        run = run_of Kind.Extended settings all_take;
        earlier = [];
        supers = (f₁ ∷ f₂ ∷ f₃ ∷ []) ∷ (g₁ ∷ g₂ ∷ g₃ ∷ []) ∷ [];
        next = next;
        later = [];
        closed = closed_so;
        state = replicate receiver_length 0;
        store = replicate (store_length (slots_of Kind.Extended)) 0;
        accepted = start_accepted;
        store_long = length-replicate {A = ℕ} (store_length (slots_of Kind.Extended)) 0;
      }

  abbrev carriers : List (Carrier the_pid)
  carriers = carrier ∷ []

  abbrev streams : ℕ → List ℕ
  streams k = copies (length (order the_bond (group_at k carriers)))

  -- each of the two groups is well-formed and has a bonded slot
  abbrev Good_group : List ℕ → Type 0
  Good_group group = WellFormed the_bond group × (1 ≤ length (order the_bond group))

  good_group : (k : ℕ) → k < 2 → Good_group (group_at k carriers)
  unfolding group_at
  good_group zero h = subst Good_group (sym (append-nil (flatten (f₁ ∷ f₂ ∷ f₃ ∷ [])))) (well_formed f₁ f₂ f₃ s₁ s₂ s₃, some-order f₁ f₂ f₃ s₁ s₂ s₃)
  good_group (suc zero) h = subst Good_group (sym (append-nil (flatten (g₁ ∷ g₂ ∷ g₃ ∷ [])))) (well_formed g₁ g₂ g₃ t₁ t₂ t₃, some-order g₁ g₂ g₃ t₁ t₂ t₃)
  good_group (suc (suc k)) h = absurd (omega arith)

  made : Witness
  made =
      record {
        bond = the_bond;
        carriers = carriers;
        streams = streams;
        bonds = record {
          each_carrier = more refl none;
          well_formed = λ k h. (good_group k h).0;
          fitting = λ k h. fits (group_at k carriers);
        };
        some = λ k h. omega (arith, (good_group k h).1, length-copies (length (order the_bond (group_at k carriers))));
      }

pub witness : Witness
witness = from (framed (headed (map work_of settings))) the_frames (say_all (1 ∷ 2 ∷ 3 ∷ 1 ∷ 2 ∷ 3 ∷ 1 ∷ []) (run_good Kind.Extended settings all_take))
  where
    from : (fs : List (List ℕ)) → map (λ f. f.frame) (frames_closed (run_of Kind.Extended settings all_take)) ≡ fs → SayAll (1 ∷ 2 ∷ 3 ∷ 1 ∷ 2 ∷ 3 ∷ 1 ∷ []) fs → Witness
    from _ closed (and_then {f = f₁} s₁ (and_then {f = f₂} s₂ (and_then {f = f₃} s₃ (and_then {f = g₁} t₁ (and_then {f = g₂} t₂ (and_then {f = g₃} t₃ (and_then {f = next} s no_more))))))) =
        made f₁ f₂ f₃ g₁ g₂ g₃ next s₁ s₂ s₃ t₁ t₂ t₃ closed
