-- The bytes that firmware's calls leave go along with the composer's state as a value, call by call. Assumes nothing.
use Prim.Native.Nat.{ℕ, ◌+◌, ◌*◌, ◌%◌, ◌≤◌}
use mathlib.Core.Path.{◌≡◌, refl, sym, ap, ap₂, subst, ◌∙◌}
use mathlib.Core.Bool.{Bool, true, false, cond, and-false, false≢true}
use mathlib.Core.List.{List, [], ◌∷◌, ◌++◌, map, append-nil}
use native.Mathlib.Omega.{arith}
use native.Mathlib.Decide.{ℕ_discrete}
use borrow.Author.Tests.{eq-eqb, ne_eqb}
use lib.Dec.{eqb}
use lib.ListN.{length, take, drop, length-append}
use lib.Seq.{take-nil, length-take-le}
use Rattle.setting.specs.declared.Kind.{Kind}
use Rattle.setting.specs.declared.Setting.{Setting}
use Rattle.setting.specs.Refusal.{first_of, leaves}
use Rattle.setting.specs.Rules.{pid_allowed}
use Rattle.counters.specs.Counters.{first_stream}
use Rattle.bits.specs.Fields.{Fit}
use Rattle.setting_bytes.specs.Settings.{setting_length, setting_of}
use Rattle.setting_bytes.proofs.Same.{setting_same}
use Rattle.setting.specs.Size.{slots_of}
use Rattle.packet.specs.Packets.{packet_length, frame_length}
use Rattle.composer.specs.Slots.{placed_by}
use Rattle.composer.proofs.Slots.{placed-within}
use Rattle.composer.specs.Composing.{Composer, closed, closed_with, answer, begin_refusal, begin_of, begun_frame, put_of, close_of, closed_frame, version_behind}
use Rattle.composer.specs.States.{composer_length, composer_bytes, OfItsTypes as StateOfItsTypes}
use Rattle.composer.specs.Calls.{begin_refused, begin_state, begin_memory, put_placed, put_state, put_memory, close_refused, close_state, close_memory}
use Rattle.composer.proofs.OnBytes.{calls_on_bytes}
use Rattle.receiver.specs.Store.{numbered, slots_for}
use Rattle.runs.specs.Runs.{put, close, Each, none, more, OfTypes, Run, refusal_of, after, closed_by, frames_of}
use Rattle.runs.specs.Work.{Work, added, work_after, said, frame_of}
use Rattle.runs.specs.Losses.{numbers_in}
use Rattle.runs.specs.Firmware.{FirmwareCall, begins, puts, closes, OfBytes, Multiplexer, answered, put_front, after_call, Closed, closed_in, closed_frames}
use Rattle.runs.specs.Composed.{valued}
use Rattle.setting_bytes.proofs.Typed.{setting_typed}
use Rattle.runs.proofs.Filled.{marks_filled}
use Rattle.runs.proofs.Placed.{front-more}
use Rattle.runs.proofs.Held.{refused_same, refused_work, closed_run, begun_work, put_work, closed_work, put_facts, close_facts, Sound, sound_after, done, closed_as}
use Rattle.runs.proofs.Composed.{said_good, version_behind_bound}
use Rattle.runs.proofs.Values.{placed_in_frame, map_append}

pub valued_typed : (c : FirmwareCall) → OfBytes c → OfTypes (valued c)
valued_typed (begins setting frame) f = setting_typed setting f
valued_typed (puts stream r) f = tt
valued_typed closes f = tt

-- ---- what holds between the calls

-- the bytes say the state, the buffer is the frame's, and what the puts placed is as much of what was lent as each stream has slots
pub record Alike (kind : Kind) (pid : ℕ) (m : Multiplexer) (w : Run) (k : Work) : Type 0 where
  pub state_is : m.state ≡ composer_bytes w.state
  pub typed : StateOfItsTypes w.state
  pub frame_is : m.frame ≡ w.frame
  pub sound : Sound kind pid w k
  pub placed_are : w.state.is_open ≡ true → (r : ℕ) → (r ≡ 0 → ⊥)
      → m.placed r ≡ take (packet_length * slots_for r k.setting.relative_ts_number) (k.lent r)
  pub counts : (r : ℕ) → length (m.placed r) ≡ packet_length * m.count r

-- ---- begin

-- the buffer that begin over values is lent
abbrev lent_to : List ℕ → List ℕ → List ℕ
lent_to setting frame = cond (eqb (length setting) setting_length) frame []

-- what begin answers and leaves over the bytes of a state is what it does over the value
record Begun (c : Composer) (setting frame lent : List ℕ) : Type 0 where
  refusal_is : begin_refused (composer_bytes c) setting frame ≡ begin_refusal c (setting_of setting) (length lent)
  state_then : begin_state (composer_bytes c) setting frame ≡ composer_bytes (begin_of c (setting_of setting) (length lent)).state
  frame_then : begin_refusal c (setting_of setting) (length lent) ≡ 0 → begin_memory (composer_bytes c) setting frame ≡ begun_frame c (setting_of setting) lent

module _ (c : Composer) (t : StateOfItsTypes c) (setting frame : List ℕ) (f : Fit 8 setting) where
  begun : Dec (length setting ≡ setting_length) → Begun c setting frame (lent_to setting frame)
  unfolding begin_of answer begin_refused begin_state begin_memory begin_refusal first_of leaves
  begun (yes l) =
      let on = (calls_on_bytes c t).0.begins (setting_of setting) (setting_typed setting f) frame in
      let e = sym (setting_same setting l f) in
      subst (λ (b : Bool). Begun c setting frame (cond b frame [])) (sym (eq-eqb (length setting) setting_length l))
      (record {
        refusal_is = ap (λ (x : List ℕ). begin_refused (composer_bytes c) x frame) e ∙ on.0;
        state_then = ap (λ (x : List ℕ). begin_state (composer_bytes c) x frame) e ∙ on.1.0;
        frame_then = λ _. ap (λ (x : List ℕ). begin_memory (composer_bytes c) x frame) e ∙ on.1.1;
      })
  begun (no d) =
      let short : eqb 0 (frame_length (slots_of c.kind)) ≡ false = ne_eqb 0 (frame_length (slots_of c.kind)) (λ z. omega arith) in
      let refused : begin_refusal c (setting_of setting) 0 ≡ 1 = rw short refl in
      subst (λ (b : Bool). Begun c setting frame (cond b frame [])) (sym (ne_eqb (length setting) setting_length d))
      (record {
        refusal_is = rw (ne_eqb (length setting) setting_length d, and-false (eqb (length (composer_bytes c)) composer_length)) (sym refused);
        state_then = rw (ne_eqb (length setting) setting_length d, and-false (eqb (length (composer_bytes c)) composer_length), short);
        frame_then = λ e. absurd (omega (arith, e, refused));
      })

module _ (kind : Kind) (pid : ℕ) (m : Multiplexer) (w : Run) (k : Work) (a : Alike kind pid m w k) (setting frame : List ℕ) (f : Fit 8 setting) where
  abbrev begin_call : FirmwareCall
  begin_call = begins setting frame

  begun_here : Begun w.state setting frame (lent_to setting frame)
  begun_here = begun w.state a.typed setting frame f (ℕ_discrete (length setting) setting_length)

  begin_answered : answered m begin_call ≡ refusal_of w (valued begin_call)
  unfolding answered refusal_of
  begin_answered = ap (λ (x : List ℕ). begin_refused x setting frame) a.state_is ∙ begun_here.refusal_is

  state_after_begin : (after_call m begin_call).state ≡ composer_bytes (after w (valued begin_call)).state
  unfolding after_call after
  state_after_begin = ap (λ (x : List ℕ). begin_state x setting frame) a.state_is ∙ begun_here.state_then

  begin_typed : StateOfItsTypes (after w (valued begin_call)).state
  unfolding after
  begin_typed = (calls_on_bytes w.state a.typed).1.begun (setting_of setting) (setting_typed setting f) (length (lent_to setting frame))

  begin_frame : Dec (refusal_of w (valued begin_call) ≡ 0) → (after_call m begin_call).frame ≡ (after w (valued begin_call)).frame
  unfolding after_call after refusal_of
  begin_frame (yes e) = rw (begin_answered ∙ e, e) (ap (λ (x : List ℕ). begin_memory x setting frame) a.state_is ∙ begun_here.frame_then e)
  begin_frame (no d) = rw (begin_answered, ne_eqb _ 0 d) a.frame_is

  begin_placed : Dec (refusal_of w (valued begin_call) ≡ 0) → (after w (valued begin_call)).state.is_open ≡ true → (r : ℕ) → (r ≡ 0 → ⊥)
      → (after_call m begin_call).placed r
      ≡ take (packet_length * slots_for r (work_after w k (valued begin_call)).setting.relative_ts_number) ((work_after w k (valued begin_call)).lent r)
  unfolding after_call
  begin_placed (yes e) o r z =
      rw (begin_answered ∙ e, begun_work w k (lent_to setting frame) (setting_of setting) e)
      (sym (take-nil (packet_length * slots_for r (setting_of setting).relative_ts_number)))
  begin_placed (no d) o r z =
      let same = refused_same w (valued begin_call) d in
      rw (begin_answered, ne_eqb _ 0 d, refused_work w k (valued begin_call) d) (a.placed_are (sym (ap (λ (x : Run). x.state.is_open) same) ∙ o) r z)

  begin_counts : Dec (refusal_of w (valued begin_call) ≡ 0) → (r : ℕ) → length ((after_call m begin_call).placed r) ≡ packet_length * (after_call m begin_call).count r
  unfolding after_call
  begin_counts (yes e) r = rw (begin_answered ∙ e)
  begin_counts (no d) r = rw (begin_answered, ne_eqb _ 0 d) (a.counts r)

  after_begin : Alike kind pid (after_call m begin_call) (after w (valued begin_call)) (work_after w k (valued begin_call))
  after_begin =
      let test = ℕ_discrete (refusal_of w (valued begin_call)) 0 in
      record {
        state_is = state_after_begin;
        typed = begin_typed;
        frame_is = begin_frame test;
        sound = sound_after kind pid w k (valued begin_call) (setting_typed setting f) a.sound;
        placed_are = begin_placed test;
        counts = begin_counts test;
      }

-- ---- put

module _ (kind : Kind) (pid : ℕ) (m : Multiplexer) (w : Run) (k : Work) (a : Alike kind pid m w k) (stream : List ℕ) (r : ℕ) where
  abbrev plan : List ℕ
  plan = w.state.setting.relative_ts_number

  -- the number that it answers
  put_count : put_placed m.state r stream m.frame ≡ cond (eqb (refusal_of w (put stream r)) 0) (placed_by r plan w.state.filled stream) 0
  unfolding refusal_of put_of
  put_count =
      ap₂ (λ (x y : List ℕ). put_placed x r stream y) a.state_is a.frame_is ∙ ((calls_on_bytes w.state a.typed).0.puts r stream w.frame).1.0

  counted_none : (refusal_of w (put stream r) ≡ 0 → ⊥) → put_placed m.state r stream m.frame ≡ 0
  counted_none d = put_count ∙ rw (ne_eqb _ 0 d)

  counted_some : refusal_of w (put stream r) ≡ 0 → put_placed m.state r stream m.frame ≡ placed_by r plan w.state.filled stream
  counted_some e = put_count ∙ rw e

  counted_within : Dec (refusal_of w (put stream r) ≡ 0) → packet_length * put_placed m.state r stream m.frame ≤ length stream
  counted_within (no d) = omega (arith, counted_none d)
  counted_within (yes e) = omega (arith, counted_some e, placed-within r plan w.state.filled stream)

  state_after_put : (after_call m (puts stream r)).state ≡ composer_bytes (after w (put stream r)).state
  unfolding after_call after
  state_after_put =
      ap₂ (λ (x y : List ℕ). put_state x r stream y) a.state_is a.frame_is ∙ ((calls_on_bytes w.state a.typed).0.puts r stream w.frame).1.1.0

  put_typed : StateOfItsTypes (after w (put stream r)).state
  unfolding after
  put_typed = (calls_on_bytes w.state a.typed).1.filled r stream (length w.frame)

  frame_after_put : (after_call m (puts stream r)).frame ≡ (after w (put stream r)).frame
  unfolding after_call after
  frame_after_put =
      ap₂ (λ (x y : List ℕ). put_memory x r stream y) a.state_is a.frame_is ∙ ((calls_on_bytes w.state a.typed).0.puts r stream w.frame).1.1.1

  -- what it adds for another stream, and for its own
  put_other : (n : ℕ) → (n ≡ r → ⊥) → (after_call m (puts stream r)).placed n ≡ m.placed n
  unfolding after_call
  put_other n d = rw (ne_eqb n r d)

  put_own : (after_call m (puts stream r)).placed r ≡ m.placed r ++ put_front m stream r
  unfolding after_call
  put_own = rw (eq-eqb r r refl)

  -- nothing, where it is refused
  put_nothing : (refusal_of w (put stream r) ≡ 0 → ⊥) → (n : ℕ) → Dec (n ≡ r) → (after_call m (puts stream r)).placed n ≡ m.placed n
  put_nothing d n (no f) = put_other n f
  put_nothing d n (yes f) =
      ap (λ (x : ℕ). (after_call m (puts stream r)).placed x) f ∙ put_own
      ∙ ap (λ (x : ℕ). m.placed r ++ take (packet_length * x) stream) (counted_none d) ∙ append-nil (m.placed r) ∙ ap m.placed (sym f)

  -- else the front of what it was lent: then as much is placed as the stream has slots
  put_something : refusal_of w (put stream r) ≡ 0 → (n : ℕ) → (n ≡ 0 → ⊥) → Dec (n ≡ r)
      → (after_call m (puts stream r)).placed n ≡ take (packet_length * slots_for n k.setting.relative_ts_number) (added r stream k.lent n)
  put_something e n z (no f) =
      let p = put_facts w stream r e in
      put_other n f ∙ a.placed_are p.open_state.is_open n z ∙ rw (ne_eqb n r f)
  put_something e n z (yes f) =
      let p = put_facts w stream r e in
      let o = a.sound.opened_as p.open_state.is_open in
      let own = k.setting.relative_ts_number in
      let same : placed_by r plan w.state.filled stream ≡ placed_by r own (marks_filled own k.lent) stream =
      ap₂ (λ (ns : List ℕ) (ms : List Bool). placed_by r ns ms stream) (ap (λ (s : Setting). s.relative_ts_number) o.setting_is) o.marks_are in
      ap (λ (x : ℕ). (after_call m (puts stream r)).placed x) f ∙ put_own
      ∙ ap₂ (λ (l : List ℕ) (x : ℕ). l ++ take (packet_length * x) stream) (a.placed_are p.open_state.is_open r p.number) (counted_some e ∙ same)
      ∙ front-more r p.number own k.lent stream a.sound.whole p.whole
      ∙ sym (ap (λ (x : ℕ). take (packet_length * slots_for x own) (added r stream k.lent x)) f ∙ rw (eq-eqb r r refl))

  put-placed : Dec (refusal_of w (put stream r) ≡ 0) → (after w (put stream r)).state.is_open ≡ true → (n : ℕ) → (n ≡ 0 → ⊥)
      → (after_call m (puts stream r)).placed n
      ≡ take (packet_length * slots_for n (work_after w k (put stream r)).setting.relative_ts_number) ((work_after w k (put stream r)).lent n)
  put-placed (yes e) o n z = rw (put_work w k stream r e) (put_something e n z (ℕ_discrete n r))
  put-placed (no d) o n z =
      rw (refused_work w k (put stream r) d)
      (put_nothing d n (ℕ_discrete n r) ∙ a.placed_are (sym (ap (λ (x : Run). x.state.is_open) (refused_same w (put stream r) d)) ∙ o) n z)

  put-counts : (n : ℕ) → Dec (n ≡ r) → length ((after_call m (puts stream r)).placed n) ≡ packet_length * (after_call m (puts stream r)).count n
  unfolding after_call
  put-counts n (no f) = rw (ne_eqb n r f) (a.counts n)
  put-counts n (yes f) =
      let long = length-take-le (packet_length * put_placed m.state r stream m.frame) stream (counted_within (ℕ_discrete (refusal_of w (put stream r)) 0)) in
      rw (eq-eqb n r f) (length-append (m.placed n) (put_front m stream r) ∙ omega (arith, a.counts n, long))

  after-put : Alike kind pid (after_call m (puts stream r)) (after w (put stream r)) (work_after w k (put stream r))
  after-put =
      record {
        state_is = state_after_put;
        typed = put_typed;
        frame_is = frame_after_put;
        sound = sound_after kind pid w k (put stream r) tt a.sound;
        placed_are = put-placed (ℕ_discrete (refusal_of w (put stream r)) 0);
        counts = λ n. put-counts n (ℕ_discrete n r);
      }

-- ---- close

module _ (kind : Kind) (pid : ℕ) (m : Multiplexer) (w : Run) (k : Work) (a : Alike kind pid m w k) where
  close_answered : answered m closes ≡ refusal_of w close
  unfolding answered refusal_of close_of answer
  close_answered = ap₂ close_refused a.state_is a.frame_is ∙ ((calls_on_bytes w.state a.typed).0.closes w.frame).0

  close_frame : close_memory m.state m.frame ≡ closed_frame w.state w.frame
  close_frame = ap₂ close_memory a.state_is a.frame_is ∙ ((calls_on_bytes w.state a.typed).0.closes w.frame).1.1

  -- a close leaves none open, unless it is refused
  close_open : Dec (refusal_of w close ≡ 0) → (after w close).state.is_open ≡ true → w.state.is_open ≡ true
  unfolding closed closed_with
  close_open (yes e) o = absurd (false≢true (sym (ap (λ (x : Run). x.state.is_open) (closed_run w e)) ∙ o))
  close_open (no d) o = sym (ap (λ (x : Run). x.state.is_open) (refused_same w close d)) ∙ o

  after_close : Alike kind pid (after_call m closes) (after w close) (work_after w k close)
  unfolding after_call after
  after_close =
      record {
        state_is = ap₂ close_state a.state_is a.frame_is ∙ ((calls_on_bytes w.state a.typed).0.closes w.frame).1.0;
        typed = (calls_on_bytes w.state a.typed).1.closed (length w.frame);
        frame_is = close_frame;
        sound = sound_after kind pid w k close tt a.sound;
        placed_are = λ o r z. rw (closed_work w k) (a.placed_are (close_open (ℕ_discrete (refusal_of w close) 0) o) r z);
        counts = a.counts;
      }

-- each call keeps it
pub alike_after : (kind : Kind) (pid : ℕ) (m : Multiplexer) (w : Run) (k : Work) (c : FirmwareCall) → OfBytes c → Alike kind pid m w k
    → Alike kind pid (after_call m c) (after w (valued c)) (work_after w k (valued c))
alike_after kind pid m w k (begins setting frame) f a = after_begin kind pid m w k a setting frame f
alike_after kind pid m w k (puts stream r) f a = after-put kind pid m w k a stream r
alike_after kind pid m w k closes f a = after_close kind pid m w k a

-- ---- the frames that are closed

-- a frame's packets with a number are what was placed under it, and as many as were counted
pub record TrueTo (kind : Kind) (pid : ℕ) (f : Closed) : Type 0 where
  pub own : (r : ℕ) → first_stream ≤ r → numbered r (numbers_in kind pid f.frame) (drop packet_length f.frame) ≡ f.placed r
  pub counts : (r : ℕ) → length (f.placed r) ≡ packet_length * f.count r

module _ (kind : Kind) (pid : ℕ) (allowed : pid_allowed pid ≡ true) (m : Multiplexer) (w : Run) (k : Work) (a : Alike kind pid m w k) where
  closed_alike : (c : FirmwareCall) → Dec (refusal_of w (valued c) ≡ 0) → map (λ f. f.frame) (closed_in m c) ≡ closed_by w (valued c)
  unfolding closed_in closed_by
  closed_alike (begins setting frame) t = refl
  closed_alike (puts stream r) t = refl
  closed_alike closes (yes e) = rw (close_answered kind pid m w k a ∙ e, e) (ap (λ (f : List ℕ). f ∷ []) (close_frame kind pid m w k a))
  closed_alike closes (no d) = rw (close_answered kind pid m w k a, ne_eqb _ 0 d)

  -- the frame of an accepted close
  frame_true : refusal_of w close ≡ 0 → TrueTo kind pid (record { frame = close_memory m.state m.frame; placed = m.placed; count = m.count })
  unfolding closed_frame leaves refusal_of
  frame_true e =
      let counter = (w.state.counter + 1) % 16 in
      let version = version_behind w.state.version w.state.last k.setting in
      let p = (close_facts w e).open_state in
      let g = said_good kind pid allowed counter version k (omega arith) (version_behind_bound kind pid allowed w.state.version w.state.last k.setting p.version) (done kind pid w k a.sound e) in
      let is : close_memory m.state m.frame ≡ frame_of kind pid (said counter version k, k) = close_frame kind pid m w k a ∙ rw e (closed_as kind pid w k a.sound e) in
      record {
        own = λ r l.
            ap (λ (f : List ℕ). numbered r (numbers_in kind pid f) (drop packet_length f)) is ∙ placed_in_frame kind pid r (said counter version k, k) g l
            ∙ sym (a.placed_are p.is_open r (λ z. omega arith));
        counts = a.counts;
      }

  closed_true : (c : FirmwareCall) → Dec (refusal_of w (valued c) ≡ 0) → Each (TrueTo kind pid) (closed_in m c)
  unfolding closed_in
  closed_true (begins setting frame) t = none
  closed_true (puts stream r) t = none
  closed_true closes (yes e) = rw (close_answered kind pid m w k a ∙ e) (more (frame_true e) none)
  closed_true closes (no d) = rw (close_answered kind pid m w k a, ne_eqb _ 0 d) none

each_join : {A : Type 0} {P : A → Type 0} {xs ys : List A} → Each P xs → Each P ys → Each P (xs ++ ys)
each_join none q = q
each_join (more h p) q = more h (each_join p q)

module _ (kind : Kind) (pid : ℕ) (allowed : pid_allowed pid ≡ true) where
  pub frames_alike : (m : Multiplexer) (w : Run) (k : Work) (cs : List FirmwareCall) → Alike kind pid m w k → Each OfBytes cs
      → (map (λ f. f.frame) (closed_frames m cs) ≡ frames_of w (map valued cs)) × Each (TrueTo kind pid) (closed_frames m cs)
  unfolding closed_frames frames_of
  frames_alike m w k [] a none = (refl, none)
  frames_alike m w k (c ∷ cs) a (more f fs) =
      let test = ℕ_discrete (refusal_of w (valued c)) 0 in
      let later = frames_alike (after_call m c) (after w (valued c)) (work_after w k (valued c)) cs (alike_after kind pid m w k c f a) fs in (
        map_append (λ f. f.frame) (closed_in m c) (closed_frames (after_call m c) cs)
            ∙ ap₂ (λ (x y : List (List ℕ)). x ++ y) (closed_alike kind pid allowed m w k a c test) later.0,
        each_join (closed_true kind pid allowed m w k a c test) later.1,
      )
