-- The promises on the frames that a run closes. Assumes nothing.
use Prim.Native.Nat.{ℕ, zero, suc, ◌+◌, ◌*◌, ◌%◌, ◌^◌, ◌≤◌, ◌<◌}
use mathlib.Core.Path.{◌≡◌, refl, sym, ap, ap₂, subst, ◌∙◌}
use mathlib.Core.Bool.{true, false, not, or-true, false≢true}
use mathlib.Core.List.{List, [], ◌∷◌, map}
use native.Mathlib.Omega.{arith}
use borrow.Author.Tests.{ne_eqb, eqb-true, leb-true, not-false}
use lib.Dec.{lit<, leb, eqb}
use lib.ListN.{length, take, length-append}
use Rattle.slices.proofs.Any.{both}
use Rattle.setting.specs.declared.Kind.{Kind}
use Rattle.setting.specs.declared.Setting.{Setting}
use Rattle.counters.specs.Counters.{first_stream, first_slot}
use Rattle.setting.specs.Setting.{blank, OfItsTypes}
use Rattle.setting.specs.Size.{slots_of, resized}
use Rattle.setting.specs.Rules.{pid_allowed, some_behind, rule_checks}
use Rattle.setting.proofs.Sizes.{sized, length-resized}
use Rattle.setting.proofs.Refusals.{none_at}
use Rattle.setting.proofs.Fields.{at_most, narrow}
use Rattle.header_layout.specs.Header.{header}
use Rattle.header_check.specs.Checking.{bare}
use Rattle.header_read.specs.Reader.{read_of}
use Rattle.header_layout.specs.Meets.{MeetsRules}
use Rattle.header_codec.proofs.RoundTrip.{written_and_read_back}
use Rattle.header_write.proofs.Calls.{made}
use Rattle.header_layout.proofs.Whole.{length-header}
use Rattle.setting.specs.declared.Announced.{Announced}
use Rattle.packet.specs.Packets.{packet_length, frame_length, null_packet, slot, unfit}
use Rattle.setting.specs.Announcing.{announced, differ}
use Rattle.composer.specs.Composing.{saying, fresh, version_behind}
use Rattle.receiver.specs.Store.{numbered, slots_for}
use Rattle.runs.specs.Runs.{Call, Each, none, more, OfTypes, started, frames_of}
use Rattle.runs.specs.Work.{Work, no_work, works_of, slots_filled, numbers_filled, said, headed_behind, headed, frame_of}
use Rattle.runs.specs.Composed.{headed_by, FramesHold, HeadersRead, FrontsPlaced, PacketsFit}
use Rattle.runs.proofs.Filled.{marks_filled, length_null}
use Rattle.runs.proofs.Carried.{numbers_of-filled, length-slots, length-marks, front_lent, slot-first, slot_next, each_fit}
use Rattle.runs.proofs.Front.{front_fit, front_for, front-numbered}
use Rattle.runs.proofs.Said.{version_narrow, said_meets, said_types}
use Rattle.runs.proofs.Held.{Sound, Done, holds, all_done}

-- ---- the start

pub sound_start : (kind : Kind) (pid : ℕ) → Sound kind pid (started kind pid) no_work
unfolding started fresh no_work
sound_start kind pid = record { kind_is = refl; pid_is = refl; whole = λ n. refl; opened_as = λ e. absurd (false≢true e) }

-- ---- the first header

-- an allowed frame type is not 0
typed_first : (kind : Kind) (pid : ℕ) (k : Work) → Done kind pid k → k.setting.frame_type ≡ 0 → ⊥
unfolding rule_checks
typed_first Kind.Plain pid k d z = absurd (omega (arith, eqb-true k.setting.frame_type 1 (not-false _ (none_at d.rules 0))))
typed_first Kind.Extended pid k d z =
    let e = both (leb 1 k.setting.frame_type) (leb k.setting.frame_type 2) (not-false _ (none_at d.rules 0)) in
    absurd (omega (arith, leb-true 1 k.setting.frame_type e.0))
typed_first Kind.Short pid k d z = absurd (omega (arith, eqb-true k.setting.frame_type 3 (not-false _ (none_at d.rules 0))))

first_differs : (s : Setting) → (s.frame_type ≡ 0 → ⊥) → differ (announced s) (announced blank) ≡ true
unfolding differ announced blank
first_differs s d = rw (ne_eqb s.frame_type 0 d) (or-true (not (eqb s.slot_allocation_type 0)))

-- behind nothing the first header has counter 0 and version 0
first-headed : (kind : Kind) (pid : ℕ) (ks : List Work) → Each (Done kind pid) ks → headed_behind 15 7 (announced blank) ks ≡ headed ks
unfolding headed_behind headed
first-headed kind pid [] d = refl
first-headed kind pid (k ∷ ks) (more d ds) = rw (first_differs k.setting (typed_first kind pid k d))

module _ (kind : Kind) (pid : ℕ) (calls : List Call) (e : pid_allowed pid ≡ true) (t : Each OfTypes calls) where
  pub works_done : Each (Done kind pid) (works_of (started kind pid) no_work calls)
  works_done = all_done kind pid (started kind pid) no_work calls (sound_start kind pid) t

  started_numbers : ((started kind pid).state.counter ≡ 15) × ((started kind pid).state.version ≡ 7) × ((started kind pid).state.last ≡ announced blank)
  unfolding started fresh
  started_numbers = (refl, refl, refl)

  pub hold : frames_of (started kind pid) calls ≡ map (frame_of kind pid) (headed_by kind pid calls)
  hold =
      let n = started_numbers in
      let ks = works_of (started kind pid) no_work calls in
      holds kind pid (started kind pid) no_work calls (sound_start kind pid) t
      ∙ ap₂ (λ (x y : ℕ). map (frame_of kind pid) (headed_behind x y (started kind pid).state.last ks)) n.0 n.1
      ∙ ap (λ (x : Announced). map (frame_of kind pid) (headed_behind 15 7 x ks)) n.2
      ∙ ap (map (frame_of kind pid)) (first-headed kind pid ks works_done)

-- what a closed frame holds
pub frames_hold : FramesHold
frames_hold = hold

-- ---- each closed frame

-- what is known of a closed frame with what its header says
pub record Good (kind : Kind) (pid : ℕ) (h : Setting × Work) : Type 0 where
  pub numbers_are : h.0.relative_ts_number ≡ numbers_filled h.1.setting.relative_ts_number h.1.lent
  pub typed : OfItsTypes h.0
  pub meets : MeetsRules kind pid h.0
  pub done : Done kind pid h.1

module _ (kind : Kind) (pid : ℕ) (e : pid_allowed pid ≡ true) where
  pub said_good : (counter version : ℕ) (k : Work) → counter < 2 ^ 4 → version < 2 ^ 3 → Done kind pid k → Good kind pid (said counter version k, k)
  unfolding said saying
  said_good counter version k c v d =
      let plan = k.setting.relative_ts_number in
      let marks = marks_filled plan k.lent in
      record {
        numbers_are = refl;
        typed = subst (λ (ns : List ℕ). OfItsTypes (saying counter version ns k.setting)) (numbers_of-filled plan k.lent)
            (said_types k.setting counter version marks (length-marks plan k.lent) d.typed);
        meets = subst (λ (ns : List ℕ). MeetsRules kind pid (saying counter version ns k.setting)) (numbers_of-filled plan k.lent)
            (said_meets kind pid k.setting counter version marks e c v (length-marks plan k.lent) d.widths d.rules);
        done = d;
      }

  -- a version behind one of three bits has three bits
  pub version_behind_bound : (version : ℕ) (last : Announced) (s : Setting) → version < 2 ^ 3 → version_behind version last s < 2 ^ 3
  version_behind_bound version last s = version_narrow (differ (announced s) last) version

  behind_good : (counter version : ℕ) (last : Announced) (ks : List Work) → version < 2 ^ 3 → Each (Done kind pid) ks → Each (Good kind pid) (headed_behind counter version last ks)
  unfolding headed_behind
  behind_good counter version last [] v none = none
  behind_good counter version last (k ∷ ks) v (more d ds) =
      more (said_good ((counter + 1) % 16) (version_behind version last k.setting) k (omega arith) (version_behind_bound version last k.setting v) d)
      (behind_good ((counter + 1) % 16) (version_behind version last k.setting) (announced k.setting) ks (version_behind_bound version last k.setting v) ds)

  headed_good : (ks : List Work) → Each (Done kind pid) ks → Each (Good kind pid) (headed ks)
  unfolding headed
  headed_good [] none = none
  headed_good (k ∷ ks) (more d ds) = more (said_good 0 0 k (lit< tt) (lit< tt) d) (behind_good 0 0 (announced k.setting) ks (lit< tt) ds)

-- a property of each closed frame follows from what is known of it
module _ {A : Type 0} {P Q : A → Type 0} (f : (x : A) → P x → Q x) where
  pub each : {xs : List A} → Each P xs → Each Q xs
  each none = none
  each (more p ps) = more (f _ p) (each ps)

pub each_map : {A B : Type 0} {P : B → Type 0} (g : A → B) {xs : List A} → Each (λ x. P (g x)) xs → Each P (map g xs)
each_map g none = none
each_map g (more p ps) = more p (each_map g ps)

map_each : {A B C : Type 0} (f : B → C) (g : A → B) (k : A → C) {xs : List A} → Each (λ x. f (g x) ≡ k x) xs → map f (map g xs) ≡ map k xs
map_each f g k none = refl
map_each f g k (more e es) = ap₂ (λ (x : _) (l : _). x ∷ l) e (map_each f g k es)

module _ (kind : Kind) (pid : ℕ) (h : Setting × Work) (g : Good kind pid h) where
  abbrev plan : List ℕ
  plan = h.1.setting.relative_ts_number

  -- the slots that the frame has
  abbrev front : List ℕ
  front = resized (slots_of kind) plan

  room : slots_of kind ≤ length plan
  room = omega (arith, (sized kind).slots, g.done.typed.numbers.0)

  behind : some_behind (slots_of kind) plan ≡ false
  behind = (narrow kind g.done.widths).numbers_behind

  -- its first packet is its header, which the reader accepts
  frame_header : slot 0 (frame_of kind pid h) ≡ header kind pid h.0
  unfolding frame_of
  frame_header = slot-first (header kind pid h.0) (slots_filled front h.1.lent) (length-header kind pid h.0)

  pub header_read : read_of kind pid (slot 0 (frame_of kind pid h)) ≡ record { refusal = bare 0; setting = h.0 }
  header_read =
      let w = written_and_read_back kind pid h.0 null_packet g.typed g.meets length_null in
      ap (read_of kind pid) (frame_header ∙ made kind pid h.0 null_packet w.0) ∙ w.1

  pub front-placed : (r : ℕ) → first_stream ≤ r
      → numbered r h.0.relative_ts_number (slots_filled front h.1.lent) ≡ take (packet_length * slots_for r plan) (h.1.lent r)
  front-placed r l =
      let z : r ≡ 0 → ⊥ = λ e. omega arith in
      ap (λ (ns : List ℕ). numbered r ns (slots_filled front h.1.lent)) g.numbers_are
      ∙ front-numbered (slots_of kind) plan room behind r z h.1.lent (slots_filled front h.1.lent)
      ∙ front_lent r z front h.1.lent g.done.whole
      ∙ ap (λ (n : ℕ). take (packet_length * n) (h.1.lent r)) (sym (front_for (slots_of kind) plan room behind r z))

  pub length_frame_of : length (frame_of kind pid h) ≡ frame_length (slots_of kind)
  unfolding frame_of
  length_frame_of =
      length-append (header kind pid h.0) (slots_filled front h.1.lent)
      ∙ omega (arith, length-header kind pid h.0, length-slots front h.1.lent, length-resized (slots_of kind) plan)

  pub packet_fit : pid_allowed pid ≡ true → (i : ℕ) → first_slot ≤ i → i ≤ slots_of kind → unfit pid (slot i (frame_of kind pid h)) ≡ false
  unfolding frame_of
  packet_fit e zero a b = absurd (omega arith)
  packet_fit e (suc i) a b =
      ap (unfit pid) (slot_next (header kind pid h.0) (slots_filled front h.1.lent) i (length-header kind pid h.0))
      ∙ each_fit pid (at_most 16 8190 pid e) front h.1.lent (sym (front_fit (slots_of kind) plan room behind pid h.1.lent) ∙ g.done.fit) i
      (omega (arith, length-resized (slots_of kind) plan))

-- ---- the promises

pub each_good : (kind : Kind) (pid : ℕ) (calls : List Call) → pid_allowed pid ≡ true → Each OfTypes calls → Each (Good kind pid) (headed_by kind pid calls)
each_good kind pid calls e t = headed_good kind pid e (works_of (started kind pid) no_work calls) (works_done kind pid calls e t)

pub headers_read : HeadersRead
headers_read kind pid calls e t =
    ap (map (λ f. read_of kind pid (slot 0 f))) (hold kind pid calls e t)
    ∙ map_each (λ f. read_of kind pid (slot 0 f)) (frame_of kind pid) (λ h. record { refusal = bare 0; setting = h.0 })
    (each (header_read kind pid) (each_good kind pid calls e t))

pub fronts_placed : FrontsPlaced
fronts_placed kind pid calls e t = each (front-placed kind pid) (each_good kind pid calls e t)

pub packets_fit : PacketsFit
packets_fit kind pid calls e t =
    rw (hold kind pid calls e t)
    (each_map (frame_of kind pid) (each (λ h g. (length_frame_of kind pid h g, packet_fit kind pid h g e)) (each_good kind pid calls e t)))
