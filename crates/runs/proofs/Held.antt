-- A run, call by call: the open frame's slots carry what its work describes. Assumes nothing.
use Prim.Native.Nat.{ℕ, ◌+◌, ◌%◌, ◌≤◌}
use mathlib.Core.Path.{◌≡◌, refl, sym, ap, ap₂, ◌∙◌}
use mathlib.Core.Bool.{Bool, true, false, false≢true}
use mathlib.Core.List.{List, [], ◌∷◌, ◌++◌, map}
use native.Mathlib.Omega.{arith}
use native.Mathlib.Decide.{ℕ_discrete}
use borrow.Author.Tests.{ne_eqb}
use lib.ListN.{length, take, drop, replicate, length-append}
use lib.Seq.{drop_at, length-take-le}
use Rattle.setting.specs.declared.Kind.{Kind}
use Rattle.setting.specs.declared.Setting.{Setting}
use Rattle.counters.specs.Counters.{last_slot}
use Rattle.setting.specs.Setting.{OfItsTypes}
use Rattle.setting.specs.Size.{slots_of, resized}
use Rattle.setting.proofs.Sizes.{sized, length-resized}
use Rattle.setting.proofs.Fields.{narrow}
use Rattle.setting.specs.Refusal.{NoneHolds, leaves}
use Rattle.setting.specs.Rules.{width_checks, rule_checks}
use Rattle.header_layout.specs.Header.{header}
use Rattle.setting.specs.declared.Announced.{Announced}
use Rattle.packet.specs.Packets.{packet_length, frame_length}
use Rattle.composer.specs.Slots.{nulls, cleared, empty_for, filled_by, some_unfit, marks_after, slots_with, frame_after}
use Rattle.setting.specs.Announcing.{announced}
use Rattle.composer.specs.Composing.{Composer, opened, marked, next_counter, next_version, closing, closed_with, closed, answer, begin_of, begun_frame, put_of, put_frame, close_of, closed_frame, version_behind}
use Rattle.composer_begin.proofs.Passed.{begin_passed}
use Rattle.composer_put.proofs.Passed.{PutPassed, put_passed}
use Rattle.composer_close.proofs.Passed.{ClosePassed, close_passed}
use Rattle.runs.specs.Runs.{Call, begin, put, close, Each, none, more, OfTypes, Run, refusal_of, after, closed_by, frames_of}
use Rattle.runs.specs.Work.{Work, added, work_after, done_by, works_of, slots_filled, said, headed_behind, frame_of}
use Rattle.runs.proofs.Filled.{marks_filled, unfit_filled, EachWhole, whole-added, put_adds}
use Rattle.runs.proofs.Carried.{numbers_of-filled, slots_none, marks_none, unfit_none}
use Rattle.runs.proofs.Front.{front-put}

-- ---- a refused call changes nothing

pub refused_same : (w : Run) (c : Call) → (refusal_of w c ≡ 0 → ⊥) → after w c ≡ w
unfolding after refusal_of begin_of put_of close_of answer begun_frame put_frame closed_frame leaves
refused_same w (begin buffer s) d = rw (ne_eqb _ 0 d)
refused_same w (put stream r) d = rw (ne_eqb _ 0 d)
refused_same w close d = rw (ne_eqb _ 0 d)

pub refused_work : (w : Run) (k : Work) (c : Call) → (refusal_of w c ≡ 0 → ⊥) → work_after w k c ≡ k
unfolding work_after
refused_work w k (begin buffer s) d = rw (ne_eqb _ 0 d)
refused_work w k (put stream r) d = rw (ne_eqb _ 0 d)
refused_work w k close d = refl

-- ---- what an accepted call makes

pub begun_run : (w : Run) (buffer : List ℕ) (s : Setting) → refusal_of w (begin buffer s) ≡ 0
    → after w (begin buffer s) ≡ record { state = opened w.state s; frame = cleared (slots_of w.state.kind) buffer }
unfolding after refusal_of begin_of answer begun_frame leaves
begun_run w buffer s e = rw e

pub put-run : (w : Run) (stream : List ℕ) (r : ℕ) → refusal_of w (put stream r) ≡ 0
    → after w (put stream r)
    ≡ record {
      state = marked w.state (marks_after r w.state.setting.relative_ts_number w.state.filled stream);
      frame = frame_after r w.state.setting.relative_ts_number w.state.filled stream w.frame;
    }
unfolding after refusal_of put_of put_frame leaves
put-run w stream r e = rw e

pub closed_run : (w : Run) → refusal_of w close ≡ 0
    → after w close ≡ record { state = closed w.state; frame = header w.state.kind w.state.pid (closing w.state) ++ drop packet_length w.frame }
unfolding after refusal_of close_of answer closed_frame leaves
closed_run w e = rw e

-- neither begin nor put changes what the next header is counted from
opened_numbers : (c : Composer) (s : Setting) → ((opened c s).counter ≡ c.counter) × ((opened c s).version ≡ c.version) × ((opened c s).last ≡ c.last)
unfolding opened
opened_numbers c s = (refl, refl, refl)

marked_numbers : (c : Composer) (ms : List Bool) → ((marked c ms).counter ≡ c.counter) × ((marked c ms).version ≡ c.version) × ((marked c ms).last ≡ c.last)
unfolding marked
marked_numbers c ms = (refl, refl, refl)

pub begun_work : (w : Run) (k : Work) (buffer : List ℕ) (s : Setting) → refusal_of w (begin buffer s) ≡ 0
    → work_after w k (begin buffer s) ≡ record { setting = s; lent = λ n. [] }
unfolding work_after
begun_work w k buffer s e = rw e

pub put_work : (w : Run) (k : Work) (stream : List ℕ) (r : ℕ) → refusal_of w (put stream r) ≡ 0
    → work_after w k (put stream r) ≡ record { setting = k.setting; lent = added r stream k.lent }
unfolding work_after
put_work w k stream r e = rw e

pub closed_work : (w : Run) (k : Work) → work_after w k close ≡ k
unfolding work_after
closed_work w k = refl

pub put_facts : (w : Run) (stream : List ℕ) (r : ℕ) → refusal_of w (put stream r) ≡ 0 → PutPassed w.state r stream (length w.frame)
unfolding refusal_of
put_facts w stream r e = put_passed w.state r stream (length w.frame) e

pub close_facts : (w : Run) → refusal_of w close ≡ 0 → ClosePassed w.state (length w.frame)
unfolding refusal_of
close_facts w e = close_passed w.state (length w.frame) e

-- ---- what holds between the calls

-- the open frame is as its work describes it, and its packets are fit
pub record Opened (kind : Kind) (pid : ℕ) (w : Run) (k : Work) : Type 0 where
  pub setting_is : w.state.setting ≡ k.setting
  pub marks_are : w.state.filled ≡ marks_filled k.setting.relative_ts_number k.lent
  pub header_room : packet_length ≤ length w.frame
  pub slots_are : drop packet_length w.frame ≡ slots_filled (resized (slots_of kind) k.setting.relative_ts_number) k.lent
  pub typed : OfItsTypes k.setting
  pub fit : unfit_filled pid k.setting.relative_ts_number k.lent ≡ false

-- header PID and kind stay, whole packets were lent, and so it is with an open frame
pub record Sound (kind : Kind) (pid : ℕ) (w : Run) (k : Work) : Type 0 where
  pub kind_is : w.state.kind ≡ kind
  pub pid_is : w.state.pid ≡ pid
  pub whole : EachWhole k.lent
  pub opened_as : w.state.is_open ≡ true → Opened kind pid w k

drop-front : (front rest : List ℕ) → packet_length ≤ length front → drop packet_length (take packet_length front ++ rest) ≡ rest
drop-front front rest h = drop_at (take packet_length front) rest packet_length (length-take-le packet_length front h)

front_room : (front rest : List ℕ) → packet_length ≤ length front → packet_length ≤ length (take packet_length front ++ rest)
front_room front rest h = omega (arith, length-append (take packet_length front) rest, length-take-le packet_length front h)

module _ (kind : Kind) (pid : ℕ) (w : Run) (k : Work) (o : Sound kind pid w k) where
  after_begin : (buffer : List ℕ) (s : Setting) → OfItsTypes s → refusal_of w (begin buffer s) ≡ 0
      → Sound kind pid (record { state = opened w.state s; frame = cleared (slots_of w.state.kind) buffer }) (record { setting = s; lent = λ n. [] })
  unfolding opened cleared refusal_of
  after_begin buffer s t e =
      let l : length buffer ≡ frame_length (slots_of w.state.kind) = begin_passed w.state s (length buffer) e in
      let plan : length s.relative_ts_number ≡ last_slot = t.numbers.0 in
      let front = resized (slots_of kind) s.relative_ts_number in
      record {
        kind_is = o.kind_is;
        pid_is = o.pid_is;
        whole = λ n. refl;
        opened_as = λ _. record {
          setting_is = refl;
          marks_are = sym (marks_none s.relative_ts_number ∙ ap (λ (n : ℕ). replicate n false) plan);
          header_room = front_room buffer (nulls (slots_of w.state.kind)) (omega arith);
          slots_are =
              drop-front buffer (nulls (slots_of w.state.kind)) (omega arith) ∙ ap (λ (x : Kind). nulls (slots_of x)) o.kind_is
              ∙ sym (slots_none front ∙ ap nulls (length-resized (slots_of kind) s.relative_ts_number));
          typed = t;
          fit = unfit_none pid s.relative_ts_number;
        };
      }

  after-put : (stream : List ℕ) (r : ℕ) → PutPassed w.state r stream (length w.frame) → Opened kind pid w k
      → Sound kind pid
      (record {
        state = marked w.state (marks_after r w.state.setting.relative_ts_number w.state.filled stream);
        frame = frame_after r w.state.setting.relative_ts_number w.state.filled stream w.frame;
      })
      (record { setting = k.setting; lent = added r stream k.lent })
  unfolding marked frame_after slots_with
  after-put stream r p q =
      let plan : w.state.setting.relative_ts_number ≡ k.setting.relative_ts_number = ap (λ (s : Setting). s.relative_ts_number) q.setting_is in
      let own = k.setting.relative_ts_number in
      let front = resized (slots_of kind) own in
      let widths : NoneHolds (width_checks kind k.setting) = rw (sym o.kind_is, sym q.setting_is) p.open_state.widths in
      let room : slots_of kind ≤ length own = omega (arith, (sized kind).slots, q.typed.numbers.0) in
      let a = put_adds pid r p.number own k.lent stream o.whole p.whole in
      let b = put_adds pid r p.number front k.lent stream o.whole p.whole in
      record {
        kind_is = o.kind_is;
        pid_is = o.pid_is;
        whole = whole-added r stream k.lent o.whole p.whole;
        opened_as = λ _. record {
          setting_is = q.setting_is;
          marks_are = ap₂ (λ (ns : List ℕ) (ms : List Bool). marks_after r ns ms stream) plan q.marks_are ∙ a.marks;
          header_room = front_room w.frame _ (omega (arith, p.long));
          slots_are =
              drop-front w.frame _ (omega (arith, p.long))
              ∙ ap₂ (λ (ns : List ℕ) (ms : List Bool). slots_with (filled_by stream (empty_for r ns ms)) stream (drop packet_length w.frame)) plan q.marks_are
              ∙ ap (slots_with (filled_by stream (empty_for r own (marks_filled own k.lent))) stream) q.slots_are
              ∙ front-put (slots_of kind) own room (narrow kind widths).numbers_behind r p.number k.lent stream (slots_filled front k.lent) ∙ b.slots;
          typed = q.typed;
          fit = a.fit q.fit
              (sym (ap (λ (n : ℕ). some_unfit n r w.state.setting.relative_ts_number w.state.filled stream) o.pid_is
              ∙ ap₂ (λ (ns : List ℕ) (ms : List Bool). some_unfit pid r ns ms stream) plan q.marks_are) ∙ p.fit);
        };
      }

  after_close : Sound kind pid (record { state = closed w.state; frame = header w.state.kind w.state.pid (closing w.state) ++ drop packet_length w.frame }) k
  unfolding closed closed_with
  after_close = record { kind_is = o.kind_is; pid_is = o.pid_is; whole = o.whole; opened_as = λ e. absurd (false≢true e) }

-- each call keeps it
pub sound_after : (kind : Kind) (pid : ℕ) (w : Run) (k : Work) (c : Call) → OfTypes c → Sound kind pid w k → Sound kind pid (after w c) (work_after w k c)
sound_after kind pid w k c t o = by_refusal c t (ℕ_discrete (refusal_of w c) 0)
  where
    by_refusal : (c : Call) → OfTypes c → Dec (refusal_of w c ≡ 0) → Sound kind pid (after w c) (work_after w k c)
    by_refusal c t (no d) = rw (refused_same w c d, refused_work w k c d) o
    by_refusal (begin buffer s) t (yes e) = rw (begun_run w buffer s e, begun_work w k buffer s e) (after_begin kind pid w k o buffer s t e)
    by_refusal (put stream r) t (yes e) =
        let p = put_facts w stream r e in
        rw (put-run w stream r e, put_work w k stream r e) (after-put kind pid w k o stream r p (o.opened_as p.open_state.is_open))
    by_refusal close t (yes e) = rw (closed_run w e, closed_work w k) (after_close kind pid w k o)

-- ---- the frames that are closed

-- what is known of a closed frame's work
pub record Done (kind : Kind) (pid : ℕ) (k : Work) : Type 0 where
  pub typed : OfItsTypes k.setting
  pub widths : NoneHolds (width_checks kind k.setting)
  pub rules : NoneHolds (rule_checks kind k.setting)
  pub whole : EachWhole k.lent
  pub fit : unfit_filled pid k.setting.relative_ts_number k.lent ≡ false

module _ (kind : Kind) (pid : ℕ) (w : Run) (k : Work) (o : Sound kind pid w k) (e : refusal_of w close ≡ 0) where
  pub open_as : Opened kind pid w k
  open_as = o.opened_as (close_facts w e).open_state.is_open

  -- it obeys the rules
  pub done : Done kind pid k
  done =
      let p = (close_facts w e).open_state in
      record {
        typed = open_as.typed;
        widths = rw (sym o.kind_is, sym open_as.setting_is) p.widths;
        rules = rw (sym o.kind_is, sym open_as.setting_is) p.rules;
        whole = o.whole;
        fit = open_as.fit;
      }

  -- its header says what the work describes
  closing-said : closing w.state ≡ said ((w.state.counter + 1) % 16) (version_behind w.state.version w.state.last k.setting) k
  unfolding closing said next_counter next_version
  closing-said = rw (open_as.setting_is, open_as.marks_are, numbers_of-filled k.setting.relative_ts_number k.lent)

  -- and the frame is the one that carries it
  pub closed_as : header w.state.kind w.state.pid (closing w.state) ++ drop packet_length w.frame
      ≡ frame_of kind pid (said ((w.state.counter + 1) % 16) (version_behind w.state.version w.state.last k.setting) k, k)
  unfolding frame_of
  closed_as =
      ap₂ (λ (a : Kind) (b : ℕ). header a b (closing w.state) ++ drop packet_length w.frame) o.kind_is o.pid_is
      ∙ ap₂ (λ (s : Setting) (l : List ℕ). header kind pid s ++ l) closing-said open_as.slots_are

  -- the next header stands behind this one
  closed_counter : (closed w.state).counter ≡ (w.state.counter + 1) % 16
  unfolding closed closed_with next_counter
  closed_counter = refl

  closed_version : (closed w.state).version ≡ version_behind w.state.version w.state.last k.setting
  unfolding closed closed_with next_version
  closed_version = rw open_as.setting_is

  next_last : (closed w.state).last ≡ announced k.setting
  unfolding closed closed_with
  next_last = rw open_as.setting_is

-- ---- call by call

-- the frames that the calls close from here on are those that their works describe, behind the last closed header
abbrev pub Holds : Kind → ℕ → Run → Work → List Call → Type 0
Holds kind pid w k cs =
    frames_of w cs ≡ map (frame_of kind pid) (headed_behind w.state.counter w.state.version w.state.last (works_of w k cs))

module _ (kind : Kind) (pid : ℕ) (w : Run) (k : Work) (c : Call) (cs : List Call) where
  -- a call that closes nothing
  quiet : closed_by w c ≡ [] → done_by w k c ≡ [] → (after w c).state.counter ≡ w.state.counter → (after w c).state.version ≡ w.state.version
      → (after w c).state.last ≡ w.state.last → Holds kind pid (after w c) (work_after w k c) cs → Holds kind pid w k (c ∷ cs)
  unfolding frames_of works_of
  quiet a b p q r ih =
      ap (λ (l : List (List ℕ)). l ++ frames_of (after w c) cs) a ∙ ih
      ∙ ap₂ (λ (x y : ℕ). map (frame_of kind pid) (headed_behind x y (after w c).state.last (works_of (after w c) (work_after w k c) cs))) p q
      ∙ ap₂ (λ (x : Announced) (l : List Work). map (frame_of kind pid) (headed_behind w.state.counter w.state.version x (l ++ works_of (after w c) (work_after w k c) cs))) r (sym b)

pub refused_none : (w : Run) (k : Work) (c : Call) → (refusal_of w c ≡ 0 → ⊥) → (closed_by w c ≡ []) × (done_by w k c ≡ [])
unfolding closed_by done_by
refused_none w k (begin buffer s) d = (refl, refl)
refused_none w k (put stream r) d = (refl, refl)
refused_none w k close d = (rw (ne_eqb _ 0 d), rw (ne_eqb _ 0 d))

pub begin_none : (w : Run) (k : Work) (buffer : List ℕ) (s : Setting) → (closed_by w (begin buffer s) ≡ []) × (done_by w k (begin buffer s) ≡ [])
unfolding closed_by done_by
begin_none w k buffer s = (refl, refl)

pub put_none : (w : Run) (k : Work) (stream : List ℕ) (r : ℕ) → (closed_by w (put stream r) ≡ []) × (done_by w k (put stream r) ≡ [])
unfolding closed_by done_by
put_none w k stream r = (refl, refl)

pub close_one : (w : Run) (k : Work) → refusal_of w close ≡ 0
    → (closed_by w close ≡ (header w.state.kind w.state.pid (closing w.state) ++ drop packet_length w.frame) ∷ []) × (done_by w k close ≡ k ∷ [])
unfolding closed_by done_by closed_frame leaves refusal_of
close_one w k e = (rw e, rw e)

-- a call that closes a frame
loud : (kind : Kind) (pid : ℕ) (w : Run) (k : Work) (cs : List Call) → Sound kind pid w k → refusal_of w close ≡ 0
    → Holds kind pid (after w close) (work_after w k close) cs → Holds kind pid w k (close ∷ cs)
unfolding frames_of works_of headed_behind
loud kind pid w k cs o e ih =
    let one = close_one w k e in
    let s = ap (λ (x : Run). x.state) (closed_run w e) in
    let p = ap (λ (x : Composer). x.counter) s ∙ closed_counter kind pid w k o e in
    let q = ap (λ (x : Composer). x.version) s ∙ closed_version kind pid w k o e in
    let r = ap (λ (x : Composer). x.last) s ∙ next_last kind pid w k o e in
    let later = works_of (after w close) (work_after w k close) cs in
    ap (λ (l : List (List ℕ)). l ++ frames_of (after w close) cs) one.0
    ∙ ap₂ (λ (f : List ℕ) (l : List (List ℕ)). f ∷ l) (closed_as kind pid w k o e)
    (ih
    ∙ ap₂ (λ (x y : ℕ). map (frame_of kind pid) (headed_behind x y (after w close).state.last later)) p q
    ∙ ap (λ (x : Announced). map (frame_of kind pid) (headed_behind ((w.state.counter + 1) % 16) (version_behind w.state.version w.state.last k.setting) x later)) r)
    ∙ ap (λ (l : List Work). map (frame_of kind pid) (headed_behind w.state.counter w.state.version w.state.last (l ++ later))) (sym one.1)

-- one call more
holds_more : (kind : Kind) (pid : ℕ) (w : Run) (k : Work) (c : Call) (cs : List Call) → Sound kind pid w k
    → Holds kind pid (after w c) (work_after w k c) cs → Holds kind pid w k (c ∷ cs)
holds_more kind pid w k c cs o ih = by_refusal c ih (ℕ_discrete (refusal_of w c) 0)
  where
    by_refusal : (c : Call) → Holds kind pid (after w c) (work_after w k c) cs → Dec (refusal_of w c ≡ 0) → Holds kind pid w k (c ∷ cs)
    by_refusal c ih (no d) =
        let n = refused_none w k c d in
        let s = ap (λ (x : Run). x.state) (refused_same w c d) in
        quiet kind pid w k c cs n.0 n.1 (ap (λ (x : Composer). x.counter) s) (ap (λ (x : Composer). x.version) s) (ap (λ (x : Composer). x.last) s) ih
    by_refusal (begin buffer s) ih (yes e) =
        let n = begin_none w k buffer s in
        let t = ap (λ (x : Run). x.state) (begun_run w buffer s e) in
        let u = opened_numbers w.state s in
        quiet kind pid w k (begin buffer s) cs n.0 n.1 (ap (λ (x : Composer). x.counter) t ∙ u.0) (ap (λ (x : Composer). x.version) t ∙ u.1)
        (ap (λ (x : Composer). x.last) t ∙ u.2) ih
    by_refusal (put stream r) ih (yes e) =
        let n = put_none w k stream r in
        let t = ap (λ (x : Run). x.state) (put-run w stream r e) in
        let u = marked_numbers w.state (marks_after r w.state.setting.relative_ts_number w.state.filled stream) in
        quiet kind pid w k (put stream r) cs n.0 n.1 (ap (λ (x : Composer). x.counter) t ∙ u.0) (ap (λ (x : Composer). x.version) t ∙ u.1)
        (ap (λ (x : Composer). x.last) t ∙ u.2) ih
    by_refusal close ih (yes e) = loud kind pid w k cs o e ih

pub holds : (kind : Kind) (pid : ℕ) (w : Run) (k : Work) (cs : List Call) → Sound kind pid w k → Each OfTypes cs → Holds kind pid w k cs
unfolding frames_of works_of headed_behind
holds kind pid w k [] o t = refl
holds kind pid w k (c ∷ cs) o (more t ts) =
    holds_more kind pid w k c cs o (holds kind pid (after w c) (work_after w k c) cs (sound_after kind pid w k c t o) ts)

-- each of their works is known
pub all_done : (kind : Kind) (pid : ℕ) (w : Run) (k : Work) (cs : List Call) → Sound kind pid w k → Each OfTypes cs → Each (Done kind pid) (works_of w k cs)
unfolding works_of
all_done kind pid w k [] o t = none
all_done kind pid w k (c ∷ cs) o (more t ts) =
    by_refusal c (ℕ_discrete (refusal_of w c) 0) (all_done kind pid (after w c) (work_after w k c) cs (sound_after kind pid w k c t o) ts)
  where
    by_refusal : (c : Call) → Dec (refusal_of w c ≡ 0) → Each (Done kind pid) (works_of (after w c) (work_after w k c) cs)
        → Each (Done kind pid) (done_by w k c ++ works_of (after w c) (work_after w k c) cs)
    by_refusal c (no d) ih = rw (refused_none w k c d).1 ih
    by_refusal (begin buffer s) (yes e) ih = rw (begin_none w k buffer s).1 ih
    by_refusal (put stream r) (yes e) ih = rw (put_none w k stream r).1 ih
    by_refusal close (yes e) ih = rw (close_one w k e).1 (more (done kind pid w k o e) ih)
