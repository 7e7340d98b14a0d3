-- A receiver packet by packet: what it stands at, and what each sort of packet does. Assumes nothing.
use Prim.Native.Nat.{ℕ, suc, ◌+◌, ◌*◌, ◌^◌, ◌≤◌, ◌<◌}
use mathlib.Core.Path.{◌≡◌, refl, sym, ap, ap₂, subst, ◌∙◌}
use mathlib.Core.Bool.{Bool, true, false, cond, not}
use mathlib.Core.List.{List, [], ◌∷◌, ◌++◌, append-nil, append_assoc}
use native.Mathlib.Omega.{arith}
use native.Mathlib.Decide.{dec_lt}
use borrow.Author.Tests.{eq-eqb, ne_eqb, lt-leb, lt-ltb, le-ltb}
use lib.Dec.{ltb, eqb}
use lib.ListN.{length, take, drop, length-append, length-drop}
use lib.Seq.{length-take-le, take_at, drop-append-add, drop-drop}
use Rattle.bits.specs.Fields.{Fit}
use Rattle.setting.specs.declared.Kind.{Kind}
use Rattle.counters.specs.Counters.{first_stream, last_slot}
use Rattle.setting.specs.Refusal.{NoneHolds, none, more, leaves}
use Rattle.setting.specs.Rules.{pid_allowed, number_checks}
use Rattle.setting.specs.Size.{size_of, slots_of, streams_of}
use Rattle.setting.proofs.Refusals.{first_none, none_append}
use Rattle.header_layout.specs.Header.{reading}
use Rattle.header_check.specs.Checking.{read_refusal}
use Rattle.packet.specs.Packets.{packet_length, unfit}
use Rattle.receiver.specs.declared.Stage.{Stage}
use Rattle.receiver.specs.declared.Event.{Event}
use Rattle.receiver.specs.declared.Row.{Row}
use Rattle.slices.specs.Slices.{over}
use Rattle.receiver.specs.Store.{store_length}
use Rattle.receiver.specs.Table.{makes_ready, Sort, good, broken, other, row, open_row, row_of, stage_checks, stored_of}
use Rattle.receiver.specs.Arriving.{shown_remainder, sort_of, store_after}
use Rattle.receiver.specs.Receiving.{Receiver, moved, receiver_after, receiver_checks, receive_refusal, row_for, receive_of, receive_store}
use Rattle.receiver.proofs.Sorts.{not_good}
use Rattle.runs.specs.Runs.{Each, none, more}
use Rattle.runs.proofs.Reception.{Reception, after_packet, handed, handed_out}

-- ---- a state that is in range

-- a stream number, a store, and a buffer with room for every packet of a frame
pub record Asked (kind : Kind) (r : ℕ) (store out : List ℕ) : Type 0 where
  pub from : first_stream ≤ r
  pub to : r ≤ streams_of kind
  pub store_long : length store ≡ store_length (slots_of kind)
  pub room : store_length (slots_of kind) ≤ length out

-- a frame is open behind a header with this counter, k packets stored
pub data Opens : Stage → ℕ → ℕ → Type 0 where
  open_at : (from k : ℕ) → Opens (Stage.Open from k) from k
  ready_at : (from : ℕ) → Opens (Stage.Ready from) from 0

pub data InRange (slots : ℕ) : Stage → Type 0 where
  waits : InRange slots Stage.Waiting
  opens : {stage : Stage} (from k : ℕ) → Opens stage from k → from < 2 ^ 4 → k ≤ slots → InRange slots stage

-- a receiver with its store, set to a PID and a kind, whose numbers are in range
pub record Set (kind : Kind) (pid : ℕ) (w : Reception) : Type 0 where
  pub kind_is : w.state.kind ≡ kind
  pub pid_is : w.state.pid ≡ pid
  pub allowed : pid_allowed pid ≡ true
  pub stage_is : InRange (slots_of kind) w.state.stage
  pub numbers_fit : Fit 4 w.state.numbers
  pub numbers_long : length w.state.numbers ≡ last_slot
  pub numbers_pass : NoneHolds (number_checks (size_of kind) w.state.numbers)
  pub before_fit : Fit 4 w.state.before
  pub before-long : length w.state.before ≡ last_slot
  pub before_pass : NoneHolds (number_checks (size_of kind) w.state.before)
  pub store_long : length w.store ≡ store_length (slots_of kind)

stage_none : {slots : ℕ} {stage : Stage} → InRange slots stage → NoneHolds (stage_checks slots stage)
unfolding stage_checks
stage_none waits = none
stage_none {slots} (opens from k (open_at _ _) h l) = more (lt-leb (2 ^ 4) from h) (more (le-ltb slots k l) none)
stage_none (opens from k (ready_at _) h l) = more (lt-leb (2 ^ 4) from h) none

module _ (kind : Kind) (pid : ℕ) (w : Reception) (s : Set kind pid w) where
  pub state_none : NoneHolds (receiver_checks w.state)
  unfolding receiver_checks
  state_none =
      more (ap (λ (n : ℕ). not (pid_allowed n)) s.pid_is ∙ ap not s.allowed)
      (subst (λ (k : Kind). NoneHolds (stage_checks (slots_of k) w.state.stage ++ (number_checks (size_of k) w.state.numbers ++ number_checks (size_of k) w.state.before)))
      (sym s.kind_is) (none_append (stage_none s.stage_is) (none_append s.numbers_pass s.before_pass)))

  -- no packet of 188 bytes is refused
  pub accepted : (p : List ℕ) → length p ≡ packet_length → receive_refusal w.state (length p) (length w.store) ≡ 0
  unfolding receive_refusal
  accepted p l =
      let long = s.store_long ∙ ap (λ (k : Kind). store_length (slots_of k)) (sym s.kind_is) in
      first_none (more (ap not (eq-eqb (length p) packet_length l)) (more (ap not (eq-eqb (length w.store) (store_length (slots_of w.state.kind)) long)) state_none))

  pub event_is : (p : List ℕ) → length p ≡ packet_length → (receive_of w.state p (length w.store)).event ≡ (row_for w.state p).event
  unfolding receive_of
  event_is p l = rw (accepted p l)

  pub after_is : (p : List ℕ) → length p ≡ packet_length
      → after_packet w p
      ≡ record {
        state = receiver_after w.state (sort_of w.state.kind w.state.pid p) (row_for w.state p).stage (reading w.state.kind p).relative_ts_number;
        store = store_after (slots_of kind) w.state.stage (sort_of w.state.kind w.state.pid p) p w.store;
      }
  unfolding after_packet receive_of receive_store leaves
  after_is p l = rw (accepted p l, s.kind_is) refl

-- ---- the row that a packet takes

pub row_opens : (slots : ℕ) {stage : Stage} {from k : ℕ} (sort : Sort) (to : ℕ) → Opens stage from k → row_of slots stage sort to ≡ open_row slots from k sort to
unfolding row_of
row_opens slots sort to (open_at _ _) = refl
row_opens slots sort to (ready_at _) = refl

stored_opens : (slots : ℕ) {stage : Stage} {from k : ℕ} → Opens stage from k → stored_of slots stage ≡ k
unfolding stored_of
stored_opens slots (open_at _ _) = refl
stored_opens slots (ready_at _) = refl

-- ---- a packet that is no good header

-- the frame that was open is open still, or dropped
pub data Follows (slots : ℕ) (stage : Stage) : Stage → Type 0 where
  dropped : Follows slots stage Stage.Waiting
  goes_on : {next : Stage} (from k j : ℕ) → Opens stage from k → Opens next from j → from < 2 ^ 4 → j ≤ slots → Follows slots stage next

-- such a packet makes no frame ready, and leaves the receiver in range
record Calm (slots : ℕ) (stage : Stage) (r : Row) : Type 0 where
  not_ready : makes_ready r.event ≡ false
  in_range : InRange slots r.stage
  follows : Follows slots stage r.stage

abbrev bad_sort : ℕ → Bool → Sort
bad_sort r b = cond b (broken r) other

calm_open : {slots : ℕ} {stage : Stage} (from k : ℕ) → Opens stage from k → from < 2 ^ 4 → k ≤ slots → (r : ℕ) (b : Bool) (to : ℕ) → Calm slots stage (open_row slots from k (bad_sort r b) to)
unfolding open_row
calm_open from k o h l r true to = record { not_ready = refl; in_range = waits; follows = dropped }
calm_open {slots} {stage} from k o h l r false to = by_room (dec_lt k slots)
  where
    by_room : Dec (k < slots) → Calm slots stage (cond (ltb k slots) (row Event.Stored (Stage.Open from (k + 1))) (row Event.Long Stage.Waiting))
    by_room (yes q) =
        rw (lt-ltb k slots q)
        (record {
          not_ready = refl;
          in_range = opens from (k + 1) (open_at from (k + 1)) h (omega arith);
          follows = goes_on from k (k + 1) o (open_at from (k + 1)) h (omega arith);
        })
    by_room (no q) = rw (le-ltb k slots (omega arith)) (record { not_ready = refl; in_range = waits; follows = dropped })

calm : {slots : ℕ} {stage : Stage} → InRange slots stage → (r : ℕ) (b : Bool) (to : ℕ) → Calm slots stage (row_of slots stage (bad_sort r b) to)
unfolding row_of
calm waits r true to = record { not_ready = refl; in_range = waits; follows = dropped }
calm waits r false to = record { not_ready = refl; in_range = waits; follows = dropped }
calm {slots} {stage} (opens from k o h l) r b to = subst (Calm slots stage) (sym (row_opens slots (bad_sort r b) to o)) (calm_open from k o h l r b to)

length_over : (at : ℕ) (p bytes : List ℕ) → at + length p ≤ length bytes → length (over at p bytes) ≡ length bytes
unfolding over
length_over at p bytes h =
    length-append (take at bytes) (p ++ drop (at + length p) bytes)
    ∙ omega (arith, length-take-le at bytes (omega arith), length-append p (drop (at + length p) bytes), length-drop (at + length p) bytes)

bad_store : (slots : ℕ) (stage : Stage) (r : ℕ) (b : Bool) (p store : List ℕ) → length p ≡ packet_length → length store ≡ store_length slots
    → length (store_after slots stage (bad_sort r b) p store) ≡ store_length slots
unfolding store_after
bad_store slots stage r true p store l h = h
bad_store slots stage r false p store l h = by_room (dec_lt (stored_of slots stage) slots)
  where
    by_room : Dec (stored_of slots stage < slots)
        → length (cond (ltb (stored_of slots stage) slots) (over (packet_length * stored_of slots stage) p store) store) ≡ store_length slots
    by_room (yes q) = rw (lt-ltb (stored_of slots stage) slots q) (length_over (packet_length * stored_of slots stage) p store (omega arith) ∙ h)
    by_room (no q) = rw (le-ltb (stored_of slots stage) slots (omega arith)) h

bad_moved : (c : Receiver) (r : ℕ) (b : Bool) (stage : Stage) (said : List ℕ) → receiver_after c (bad_sort r b) stage said ≡ moved c stage
unfolding receiver_after
bad_moved c r true stage said = refl
bad_moved c r false stage said = refl

module _ (kind : Kind) (pid : ℕ) (w : Reception) (s : Set kind pid w) (p : List ℕ) (l : length p ≡ packet_length) (d : read_refusal kind pid p ≡ 0 → ⊥) where
  sort_of-bad : sort_of w.state.kind w.state.pid p ≡ bad_sort (shown_remainder kind pid p) (unfit pid p)
  unfolding sort_of
  sort_of-bad = ap₂ (λ (a : Kind) (b : ℕ). cond (eqb (read_refusal a b p) 0) good (cond (unfit b p) (broken (shown_remainder a b p)) other)) s.kind_is s.pid_is ∙ rw (ne_eqb (read_refusal kind pid p) 0 d)

  pub bad_row : row_for w.state p ≡ row_of (slots_of kind) w.state.stage (bad_sort (shown_remainder kind pid p) (unfit pid p)) (reading w.state.kind p).continuity_counter
  unfolding row_for
  bad_row = rw (sort_of-bad, s.kind_is) refl

  -- the receiver and its store then
  bad_after : after_packet w p
      ≡ record {
        state = moved w.state (row_of (slots_of kind) w.state.stage (bad_sort (shown_remainder kind pid p) (unfit pid p)) (reading w.state.kind p).continuity_counter).stage;
        store = store_after (slots_of kind) w.state.stage (bad_sort (shown_remainder kind pid p) (unfit pid p)) p w.store;
      }
  bad_after =
      after_is kind pid w s p l
      ∙ ap₂ (λ (a : Sort) (r : Row). record {
        state = receiver_after w.state a r.stage (reading w.state.kind p).relative_ts_number;
        store = store_after (slots_of kind) w.state.stage a p w.store;
      }) sort_of-bad bad_row
      ∙ ap (λ (c : Receiver). record { state = c; store = store_after (slots_of kind) w.state.stage (bad_sort (shown_remainder kind pid p) (unfit pid p)) p w.store })
      (bad_moved w.state (shown_remainder kind pid p) (unfit pid p) (row_of (slots_of kind) w.state.stage (bad_sort (shown_remainder kind pid p) (unfit pid p)) (reading w.state.kind p).continuity_counter).stage
      (reading w.state.kind p).relative_ts_number)

  is_calm : Calm (slots_of kind) w.state.stage (row_of (slots_of kind) w.state.stage (bad_sort (shown_remainder kind pid p) (unfit pid p)) (reading w.state.kind p).continuity_counter)
  is_calm = calm s.stage_is (shown_remainder kind pid p) (unfit pid p) (reading w.state.kind p).continuity_counter

  -- nothing is handed out
  pub bad_quiet : (r : ℕ) (out : List ℕ) (ps : List (List ℕ)) → handed_out r out w (p ∷ ps) ≡ handed_out r out (after_packet w p) ps
  unfolding handed_out
  bad_quiet r out ps =
      ap (λ (b : Bool). cond b (handed r out (after_packet w p)) [] ++ handed_out r out (after_packet w p) ps)
      (ap makes_ready (event_is kind pid w s p l ∙ ap (λ (r : Row). r.event) bad_row) ∙ is_calm.not_ready)

  pub bad_set : Set kind pid (after_packet w p)
  unfolding moved
  bad_set =
      subst (Set kind pid) (sym bad_after)
      (record {
        kind_is = s.kind_is;
        pid_is = s.pid_is;
        allowed = s.allowed;
        stage_is = is_calm.in_range;
        numbers_fit = s.numbers_fit;
        numbers_long = s.numbers_long;
        numbers_pass = s.numbers_pass;
        before_fit = s.before_fit;
        before-long = s.before-long;
        before_pass = s.before_pass;
        store_long = bad_store (slots_of kind) w.state.stage (shown_remainder kind pid p) (unfit pid p) p w.store l s.store_long;
      })

  pub bad_numbers : (after_packet w p).state.numbers ≡ w.state.numbers
  unfolding moved
  bad_numbers = ap (λ (v : Reception). v.state.numbers) bad_after

  pub bad_follows : Follows (slots_of kind) w.state.stage (after_packet w p).state.stage
  unfolding moved
  bad_follows = subst (λ (v : Reception). Follows (slots_of kind) w.state.stage v.state.stage) (sym bad_after) is_calm.follows

  -- where there is room behind k packets, it is stored
  pub stored_stage : (from k : ℕ) → Opens w.state.stage from k → k < slots_of kind → unfit pid p ≡ false → Opens (after_packet w p).state.stage from (k + 1)
  unfolding moved open_row
  stored_stage from k o h u =
      let to = (reading w.state.kind p).continuity_counter in
      let r : row_of (slots_of kind) w.state.stage (bad_sort (shown_remainder kind pid p) (unfit pid p)) to ≡ row Event.Stored (Stage.Open from (k + 1)) =
      ap (λ (b : Bool). row_of (slots_of kind) w.state.stage (bad_sort (shown_remainder kind pid p) b) to) u ∙ row_opens (slots_of kind) other to o ∙ rw (lt-ltb k (slots_of kind) h) in
      subst (λ (v : Reception). Opens v.state.stage from (k + 1)) (sym bad_after) (subst (λ (x : Row). Opens x.stage from (k + 1)) (sym r) (open_at from (k + 1)))

  pub stored_store : (from k : ℕ) → Opens w.state.stage from k → k < slots_of kind → unfit pid p ≡ false → (after_packet w p).store ≡ over (packet_length * k) p w.store
  unfolding store_after
  stored_store from k o h u =
      ap (λ (v : Reception). v.store) bad_after
      ∙ ap (λ (b : Bool). store_after (slots_of kind) w.state.stage (bad_sort (shown_remainder kind pid p) b) p w.store) u
      ∙ ap (λ (n : ℕ). cond (ltb n (slots_of kind)) (over (packet_length * n) p w.store) w.store) (stored_opens (slots_of kind) o) ∙ rw (lt-ltb k (slots_of kind) h)

-- ---- packets that are stored one behind the other

-- a packet of 188 bytes that is neither broken nor a header
abbrev pub Plain : ℕ → List ℕ → Type 0
Plain pid p = (length p ≡ packet_length) × (unfit pid p ≡ false)

unfoldable pub joined : List (List ℕ) → List ℕ
joined [] = []
joined (p ∷ ps) = p ++ joined ps

unfoldable pub after_all : Reception → List (List ℕ) → Reception
after_all w [] = w
after_all w (p ∷ ps) = after_all (after_packet w p) ps

-- one packet more behind the front of the store
over-more : (front p bytes rest : List ℕ) (k : ℕ) → length front ≡ packet_length * k → length p ≡ packet_length → bytes ≡ front ++ drop (packet_length * k) rest
    → over (packet_length * k) p bytes ≡ (front ++ p) ++ drop (packet_length * (k + 1)) rest
unfolding over
over-more front p bytes rest k f l e =
    let at : packet_length * k + length p ≡ length front + packet_length = omega arith in
    let next : packet_length * k + packet_length ≡ packet_length * (k + 1) = omega arith in
    ap (λ (b : List ℕ). take (packet_length * k) b ++ (p ++ drop (packet_length * k + length p) b)) e
    ∙ ap₂ (λ (a b : List ℕ). a ++ (p ++ b)) (take_at front (drop (packet_length * k) rest) (packet_length * k) f)
    (ap (λ (n : ℕ). drop n (front ++ drop (packet_length * k) rest)) at ∙ drop-append-add front (drop (packet_length * k) rest) packet_length
    ∙ drop-drop packet_length (packet_length * k) rest ∙ ap (λ (n : ℕ). drop n rest) next)
    ∙ sym (append_assoc front p (drop (packet_length * (k + 1)) rest))

-- what a row of stored packets leaves: nothing was handed out, and they stand behind the front of the store
pub record StoredAll (kind : Kind) (pid r : ℕ) (out : List ℕ) (from k : ℕ) (w : Reception) (ps : List (List ℕ)) (front rest : List ℕ) : Type 0 where
  pub set_then : Set kind pid (after_all w ps)
  pub stage_then : Opens (after_all w ps).state.stage from (k + length ps)
  pub numbers_then : (after_all w ps).state.numbers ≡ w.state.numbers
  pub store_then : (after_all w ps).store ≡ (front ++ joined ps) ++ drop (packet_length * (k + length ps)) rest
  pub quiet_then : (later : List (List ℕ)) → handed_out r out w (ps ++ later) ≡ handed_out r out (after_all w ps) later

pub stored_all : (kind : Kind) (pid r : ℕ) (out : List ℕ) (from k : ℕ) (w : Reception) (ps : List (List ℕ)) (front rest : List ℕ)
    → Set kind pid w → Opens w.state.stage from k → k + length ps ≤ slots_of kind → Each (Plain pid) ps
    → length front ≡ packet_length * k → w.store ≡ front ++ drop (packet_length * k) rest
    → StoredAll kind pid r out from k w ps front rest
unfolding after_all joined
stored_all kind pid r out from k w [] front rest s o h none f e =
    let count : k ≡ k + 0 = omega arith in
    record {
      set_then = s;
      stage_then = subst (Opens w.state.stage from) count o;
      numbers_then = refl;
      store_then = e ∙ ap₂ (λ (a : List ℕ) (n : ℕ). a ++ drop (packet_length * n) rest) (sym (append-nil front)) count;
      quiet_then = λ later. refl;
    }
stored_all kind pid r out from k w (p ∷ ps) front rest s o h (more (l, u) fit) f e =
    let d = not_good kind pid p u in
    let q : k < slots_of kind = omega arith in
    let more-front : length (front ++ p) ≡ packet_length * (k + 1) = length-append front p ∙ omega arith in
    let store-next : (after_packet w p).store ≡ (front ++ p) ++ drop (packet_length * (k + 1)) rest =
    stored_store kind pid w s p l d from k o q u ∙ over-more front p w.store rest k f l e in
    let ih = stored_all kind pid r out from (k + 1) (after_packet w p) ps (front ++ p) rest (bad_set kind pid w s p l d)
    (stored_stage kind pid w s p l d from k o q u) (omega arith) fit more-front store-next in
    let count : k + 1 + length ps ≡ k + suc (length ps) = omega arith in
    record {
      set_then = ih.set_then;
      stage_then = subst (Opens (after_all (after_packet w p) ps).state.stage from) count ih.stage_then;
      numbers_then = ih.numbers_then ∙ bad_numbers kind pid w s p l d;
      store_then = ih.store_then ∙ ap₂ (λ (a : List ℕ) (n : ℕ). a ++ drop (packet_length * n) rest) (append_assoc front p (joined ps)) count;
      quiet_then = λ later. bad_quiet kind pid w s p l d r out (ps ++ later) ∙ ih.quiet_then later;
    }

-- packets of any kind but good headers: the frame that was open goes on or is dropped
pub record BadAll (kind : Kind) (pid r : ℕ) (out : List ℕ) (w : Reception) (ps : List (List ℕ)) : Type 0 where
  pub set_then : Set kind pid (after_all w ps)
  pub follows_then : Follows (slots_of kind) w.state.stage (after_all w ps).state.stage
  pub quiet_then : (later : List (List ℕ)) → handed_out r out w (ps ++ later) ≡ handed_out r out (after_all w ps) later

abbrev pub Bad : Kind → ℕ → List ℕ → Type 0
Bad kind pid p = (length p ≡ packet_length) × (read_refusal kind pid p ≡ 0 → ⊥)

pub same_opens : {stage : Stage} {from k from' k' : ℕ} → Opens stage from k → Opens stage from' k' → (from ≡ from') × (k ≡ k')
same_opens (open_at _ _) (open_at _ _) = (refl, refl)
same_opens (ready_at _) (ready_at _) = (refl, refl)

follows_on : {slots : ℕ} {a b : Stage} (c : Stage) → Follows slots a b → Follows slots b c → Follows slots a c
follows_on c f dropped = dropped
follows_on {slots = slots} {a = a} c dropped (goes_on from' k' j' o' p' h' l') = elim o' [ ]
follows_on c (goes_on from k j o p h l) (goes_on from' k' j' o' p' h' l') =
    goes_on from k j' o (subst (λ (n : ℕ). Opens c n j') (sym (same_opens p o').0) p') h l'

pub follows_self : {slots : ℕ} {stage : Stage} → InRange slots stage → Follows slots stage stage
follows_self waits = dropped
follows_self (opens from k o h l) = goes_on from k k o o h l

pub bad_all : (kind : Kind) (pid r : ℕ) (out : List ℕ) (w : Reception) (ps : List (List ℕ)) → Set kind pid w → Each (Bad kind pid) ps → BadAll kind pid r out w ps
unfolding after_all
bad_all kind pid r out w [] s none = record { set_then = s; follows_then = follows_self s.stage_is; quiet_then = λ later. refl }
bad_all kind pid r out w (p ∷ ps) s (more (l, d) bad) =
    let ih = bad_all kind pid r out (after_packet w p) ps (bad_set kind pid w s p l d) bad in
    record {
      set_then = ih.set_then;
      follows_then = follows_on (after_all (after_packet w p) ps).state.stage (bad_follows kind pid w s p l d) ih.follows_then;
      quiet_then = λ later. bad_quiet kind pid w s p l d r out (ps ++ later) ∙ ih.quiet_then later;
    }
