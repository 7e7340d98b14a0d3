-- A good header: it opens its frame from anywhere, and vouches for the one before it where that is whole. Assumes nothing.
use Prim.Native.Nat.{ℕ, ◌+◌, ◌*◌, ◌%◌, ◌^◌, ◌≤◌, ◌<◌}
use mathlib.Core.Path.{◌≡◌, refl, sym, ap, ap₂, subst, ◌∙◌}
use mathlib.Core.Bool.{Bool, true, false, cond, not, ◌&&◌}
use mathlib.Core.List.{List, [], ◌∷◌, ◌++◌}
use native.Mathlib.Omega.{arith}
use native.Mathlib.Decide.{ℕ_discrete}
use borrow.Author.Tests.{eq-eqb, ne_eqb, le-ltb, le-leb}
use lib.Dec.{ltb, eqb}
use lib.ListN.{length, drop}
use lib.Seq.{take_at}
use Rattle.bits.specs.Fields.{Fit}
use Rattle.setting.specs.declared.Kind.{Kind}
use Rattle.setting.specs.declared.Setting.{Setting}
use Rattle.counters.specs.Counters.{first_stream, last_slot}
use Rattle.setting.specs.Refusal.{NoneHolds, none, more, leaves}
use Rattle.setting.specs.Rules.{number_checks}
use Rattle.setting.specs.Size.{size_of, slots_of, streams_of}
use Rattle.setting.proofs.Refusals.{first_none, none_append, none_at}
use Rattle.header_read.specs.Reader.{Reading}
use Rattle.header_layout.specs.Header.{reading}
use Rattle.header_check.specs.Checking.{read_refusal, bare, refusal_by}
use Rattle.header_read.specs.Reader.{read_of}
use Rattle.packet.specs.Packets.{packet_length, slot, unfit}
use Rattle.receiver.specs.declared.Stage.{Stage}
use Rattle.receiver.specs.declared.Event.{Event}
use Rattle.receiver.specs.declared.Row.{Row}
use Rattle.slices.specs.Slices.{over}
use Rattle.receiver.specs.Store.{store_length, numbered, slots_for}
use Rattle.receiver.specs.Table.{makes_ready, Sort, good, broken, other, counter_step, row, open_row, row_of, is_ready}
use Rattle.receiver.specs.Arriving.{shown_remainder, sort_of, store_after}
use Rattle.receiver.specs.Receiving.{renumbered, receiver_after, row_for, receive_of, hand_out_refusal, hand_out_of, hand_out_buffer}
use Rattle.receiver.proofs.Said.{said_passes}
use Rattle.receiver.proofs.Store.{length-numbered, has_packets, for_at_most}
use Rattle.runs.proofs.Reception.{Reception, after_packet, handed, handed_out}
use Rattle.runs.proofs.Table.{Asked, Opens, open_at, ready_at, InRange, waits, opens, Set, state_none, event_is, after_is, row_opens}

-- ---- hand out

-- a number and a buffer that the ready frame's packets with this number go into
pub record Fits (kind : Kind) (r : ℕ) (out : List ℕ) (w : Reception) : Type 0 where
  pub from : first_stream ≤ r
  pub to : r ≤ streams_of kind
  pub room : packet_length * slots_for r w.state.before ≤ length out

-- a buffer with room for every packet of a frame has room for those
pub fits_all : (kind : Kind) (pid r : ℕ) (store out : List ℕ) (w : Reception) → Set kind pid w → Asked kind r store out → Fits kind r out w
fits_all kind pid r store out w s a =
    let most = for_at_most r (slots_of kind) w.state.before a.from (none_at s.before_pass 1) in
    record { from = a.from; to = a.to; room = omega (arith, a.room, most) }

-- it is not refused where a frame is ready
pub not_refused : (kind : Kind) (pid r : ℕ) (out : List ℕ) (w : Reception) → Set kind pid w → Fits kind r out w → is_ready w.state.stage ≡ true
    → hand_out_refusal w.state r (length w.store) (length out) ≡ 0
unfolding hand_out_refusal
not_refused kind pid r out w s a e =
    let long = s.store_long ∙ ap (λ (k : Kind). store_length (slots_of k)) (sym s.kind_is) in
    first_none
    (more (ap not (eq-eqb (length w.store) (store_length (slots_of w.state.kind)) long))
    (none_append (state_none kind pid w s)
    (more (rw (s.kind_is, le-leb first_stream r a.from, le-leb r (streams_of kind) a.to))
    (more (ap not e)
    (more (le-ltb (length out) (packet_length * slots_for r w.state.before) a.room) none)))))

-- a ready frame's packets with number r
pub handed_is : (kind : Kind) (pid r : ℕ) (out : List ℕ) (w : Reception) → Set kind pid w → Fits kind r out w → is_ready w.state.stage ≡ true
    → handed r out w ≡ numbered r w.state.before w.store
unfolding handed hand_out_of hand_out_buffer leaves over
handed_is kind pid r out w s a e =
    let whole : length (numbered r w.state.before w.store) ≡ packet_length * slots_for r w.state.before =
    length-numbered r w.state.before w.store (has_packets r (slots_of kind) w.state.before w.store a.from (none_at s.before_pass 1) (omega (arith, s.store_long))) in
    rw (not_refused kind pid r out w s a e) (take_at (numbered r w.state.before w.store) (drop (0 + length (numbered r w.state.before w.store)) out) (packet_length * slots_for r w.state.before) whole)

-- ---- the header of a frame that a run closed

-- an accepted header: this counter, and numbers in range
pub record GoodHeader (kind : Kind) (pid n : ℕ) (p : List ℕ) : Type 0 where
  pub setting : Setting
  pub read : read_of kind pid p ≡ record { refusal = bare 0; setting = setting }
  pub counter : setting.continuity_counter ≡ n
  pub small : n < 2 ^ 4
  pub numbers_fit : Fit 4 setting.relative_ts_number
  pub numbers_long : length setting.relative_ts_number ≡ last_slot
  pub long : length p ≡ packet_length

-- a frame with such a header, of whose packets none is broken or a header
pub record GoodFrame (kind : Kind) (pid n : ℕ) (f : List ℕ) : Type 0 where
  pub header : GoodHeader kind pid n (slot 0 f)
  pub long : length f ≡ packet_length * (slots_of kind + 1)
  pub fit : (i : ℕ) → i < slots_of kind → unfit pid (slot i (drop packet_length f)) ≡ false

pub accepted_reading : (kind : Kind) (pid : ℕ) (p : List ℕ) (s : Setting) → read_of kind pid p ≡ record { refusal = bare 0; setting = s }
    → (read_refusal kind pid p ≡ 0) × (reading kind p ≡ s)
unfolding read_of refusal_by
accepted_reading kind pid p s e =
    let z : read_refusal kind pid p ≡ 0 = ap (λ (x : Reading). x.refusal.number) e in
    let t : cond (eqb (read_refusal kind pid p) 0) (reading kind p) _ ≡ s = ap (λ (x : Reading). x.setting) e in
    (z, sym (rw z) ∙ t)

module _ (kind : Kind) (pid n : ℕ) (p : List ℕ) (w : Reception) (s : Set kind pid w) (g : GoodHeader kind pid n p) where
  facts : (read_refusal kind pid p ≡ 0) × (reading kind p ≡ g.setting)
  facts = accepted_reading kind pid p g.setting g.read

  good_sort : sort_of w.state.kind w.state.pid p ≡ good
  unfolding sort_of
  good_sort =
      ap₂ (λ (a : Kind) (b : ℕ). cond (eqb (read_refusal a b p) 0) good (cond (unfit b p) (broken (shown_remainder a b p)) other)) s.kind_is s.pid_is
      ∙ ap (λ (x : ℕ). cond (eqb x 0) good (cond (unfit pid p) (broken (shown_remainder kind pid p)) other)) facts.0

  said_is : reading w.state.kind p ≡ g.setting
  said_is = ap (λ (a : Kind). reading a p) s.kind_is ∙ facts.1

  good_row : row_for w.state p ≡ row_of (slots_of kind) w.state.stage good n
  unfolding row_for
  good_row =
      ap (λ (k : Kind). row_of (slots_of k) w.state.stage (sort_of w.state.kind w.state.pid p) (reading w.state.kind p).continuity_counter) s.kind_is
      ∙ ap₂ (λ (a : Sort) (b : ℕ). row_of (slots_of kind) w.state.stage a b) good_sort (ap (λ (x : Setting). x.continuity_counter) said_is ∙ g.counter)

  pub good_after : after_packet w p
      ≡ record { state = renumbered w.state (row_of (slots_of kind) w.state.stage good n).stage g.setting.relative_ts_number; store = w.store }
  unfolding receiver_after store_after
  good_after =
      after_is kind pid w s p g.long
      ∙ ap₂ (λ (a : Sort) (r : Row). record {
        state = receiver_after w.state a r.stage (reading w.state.kind p).relative_ts_number;
        store = store_after (slots_of kind) w.state.stage a p w.store;
      }) good_sort good_row
      ∙ ap (λ (x : Setting). record {
        state = renumbered w.state (row_of (slots_of kind) w.state.stage good n).stage x.relative_ts_number;
        store = w.store;
      }) said_is

  pub good_event : (receive_of w.state p (length w.store)).event ≡ (row_of (slots_of kind) w.state.stage good n).event
  good_event = event_is kind pid w s p g.long ∙ ap (λ (r : Row). r.event) good_row

  -- its frame is open, by its own numbers
  pub good_numbers : (after_packet w p).state.numbers ≡ g.setting.relative_ts_number
  unfolding renumbered
  good_numbers = ap (λ (v : Reception). v.state.numbers) good_after

  pub good_store : (after_packet w p).store ≡ w.store
  good_store = ap (λ (v : Reception). v.store) good_after

  good_stage : (after_packet w p).state.stage ≡ (row_of (slots_of kind) w.state.stage good n).stage
  unfolding renumbered
  good_stage = ap (λ (v : Reception). v.state.stage) good_after

  good_before : (after_packet w p).state.before ≡ w.state.numbers
  unfolding renumbered
  good_before = ap (λ (v : Reception). v.state.before) good_after

  opens_row : {stage : Stage} → InRange (slots_of kind) stage → Opens (row_of (slots_of kind) stage good n).stage n 0
  unfolding row_of open_row
  opens_row waits = open_at n 0
  opens_row {stage} (opens from k o h l) = subst (λ (r : Row). Opens r.stage n 0) (sym (row_opens (slots_of kind) good n o)) (either (eqb k (slots_of kind) && eqb (counter_step from n) 1))
    where
      either : (b : Bool) → Opens (cond b (row Event.Ready (Stage.Ready n)) (row (cond (ltb k (slots_of kind)) Event.Short Event.Jump) (Stage.Open n 0))).stage n 0
      either true = ready_at n
      either false = open_at n 0

  pub good_opens : Opens (after_packet w p).state.stage n 0
  good_opens = subst (λ (x : Stage). Opens x n 0) (sym good_stage) (opens_row s.stage_is)

  pub good_set : Set kind pid (after_packet w p)
  unfolding renumbered
  good_set =
      subst (Set kind pid) (sym good_after)
      (record {
        kind_is = s.kind_is;
        pid_is = s.pid_is;
        allowed = s.allowed;
        stage_is = opens n 0 (opens_row s.stage_is) g.small (omega arith);
        numbers_fit = g.numbers_fit;
        numbers_long = g.numbers_long;
        numbers_pass = subst (λ (x : Setting). NoneHolds (number_checks (size_of kind) x.relative_ts_number)) facts.1 (said_passes kind p g.long);
        before_fit = s.numbers_fit;
        before-long = s.numbers_long;
        before_pass = s.numbers_pass;
        store_long = s.store_long;
      })

-- ---- what the next header brings out

-- a frame is open whose header stands m + 1 frames before the next one, and all its slots are filled: then, and only where m is 0, the next
-- header, which has counter n, makes it ready
pub data Owes (slots r n m : ℕ) (x : List ℕ) (w : Reception) : Type 0 where
  nothing : w.state.stage ≡ Stage.Waiting → x ≡ [] → Owes slots r n m x w
  something : (from k : ℕ) → Opens w.state.stage from k → from < 2 ^ 4 → k ≤ slots → (from + m + 1) % 16 ≡ n
      → x ≡ cond (eqb k slots && eqb m 0) (numbered r w.state.numbers w.store) [] → Owes slots r n m x w

-- the step to a header m + 1 frames later is 1 where m is 0, and nowhere else below 16
pub step_one : (from m n : ℕ) → from < 2 ^ 4 → m ≤ 15 → (from + m + 1) % 16 ≡ n → eqb (counter_step from n) 1 ≡ eqb m 0
step_one from m n h l e = by_missing (ℕ_discrete m 0)
  where
    step : counter_step from n ≡ (m + 1) % 16
    step = omega arith

    by_missing : Dec (m ≡ 0) → eqb (counter_step from n) 1 ≡ eqb m 0
    by_missing (yes z) = eq-eqb (counter_step from n) 1 (step ∙ omega arith) ∙ sym (eq-eqb m 0 z)
    by_missing (no d) = ne_eqb (counter_step from n) 1 (λ q. d (omega (arith, step))) ∙ sym (ne_eqb m 0 d)

-- the row of an open frame, by whether the header vouches for it
pub vouched_row : (slots from k n : ℕ) → eqb k slots && eqb (counter_step from n) 1 ≡ true → open_row slots from k good n ≡ row Event.Ready (Stage.Ready n)
unfolding open_row
vouched_row slots from k n e = rw e

unvouched_event : (slots from k n : ℕ) → eqb k slots && eqb (counter_step from n) 1 ≡ false → makes_ready (open_row slots from k good n).event ≡ false
unfolding open_row
unvouched_event slots from k n e = rw e (by_room (ltb k slots))
  where
    by_room : (b : Bool) → makes_ready (cond b Event.Short Event.Jump) ≡ false
    by_room true = refl
    by_room false = refl

waiting_event : (slots n : ℕ) → makes_ready (row_of slots Stage.Waiting good n).event ≡ false
unfolding row_of
waiting_event slots n = refl

module _ (kind : Kind) (pid r n m : ℕ) (x store out p : List ℕ) (w : Reception) (s : Set kind pid w) (g : GoodHeader kind pid n p) (a : Asked kind r store out)
    (l : m ≤ 15) where
  abbrev slots : ℕ
  slots = slots_of kind

  abbrev next : Reception
  next = after_packet w p

  -- what comes out is what was owed
  given : Owes slots r n m x w → cond (makes_ready (row_of (slots_of kind) w.state.stage good n).event) (handed r out next) [] ≡ x
  given (nothing e z) = ap (λ (y : Stage). cond (makes_ready (row_of slots y good n).event) (handed r out next) []) e ∙ ap (λ (b : Bool). cond b (handed r out next) []) (waiting_event slots n) ∙ sym z
  given (something from k o h q e z) = by_test (eqb k slots && eqb m 0) refl
    where
      same : eqb k slots && eqb (counter_step from n) 1 ≡ eqb k slots && eqb m 0
      same = ap (λ (b : Bool). eqb k slots && b) (step_one from m n h l e)

      the_row : row_of (slots_of kind) w.state.stage good n ≡ open_row slots from k good n
      the_row = row_opens slots good n o

      by_test : (b : Bool) → eqb k slots && eqb m 0 ≡ b → cond (makes_ready (row_of (slots_of kind) w.state.stage good n).event) (handed r out next) [] ≡ x
      by_test true t =
          let v : row_of (slots_of kind) w.state.stage good n ≡ row Event.Ready (Stage.Ready n) = the_row ∙ vouched_row slots from k n (same ∙ t) in
          ap (λ (y : Row). cond (makes_ready y.event) (handed r out next) []) v
          ∙ handed_is kind pid r out next (good_set kind pid n p w s g) (fits_all kind pid r store out next (good_set kind pid n p w s g) a)
          (ap is_ready (good_stage kind pid n p w s g ∙ ap (λ (y : Row). y.stage) v))
          ∙ ap₂ (numbered r) (good_before kind pid n p w s g) (good_store kind pid n p w s g)
          ∙ sym (z ∙ ap (λ (b : Bool). cond b (numbered r w.state.numbers w.store) []) t)
      by_test false t =
          ap (λ (y : Row). cond (makes_ready y.event) (handed r out next) []) the_row
          ∙ ap (λ (b : Bool). cond b (handed r out next) []) (unvouched_event slots from k n (same ∙ t))
          ∙ sym (z ∙ ap (λ (b : Bool). cond b (numbered r w.state.numbers w.store) []) t)

  pub vouches : Owes slots r n m x w → (ps : List (List ℕ)) → handed_out r out w (p ∷ ps) ≡ x ++ handed_out r out next ps
  unfolding handed_out
  vouches o ps =
      ap (λ (y : Event). cond (makes_ready y) (handed r out next) [] ++ handed_out r out next ps) (good_event kind pid n p w s g)
      ∙ ap (λ (y : List ℕ). y ++ handed_out r out next ps) (given o)
