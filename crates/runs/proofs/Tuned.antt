-- A receiver's bytes go along with its state as a value, packet by packet. Assumes nothing.
use Prim.Native.Nat.{ℕ, suc, ◌+◌, ◌*◌, ◌≤◌}
use mathlib.Core.Path.{◌≡◌, refl, sym, ap, ap₂, subst, ◌∙◌}
use mathlib.Core.Bool.{Bool, true, false, cond, ◌&&◌, false≢true}
use mathlib.Core.List.{List, [], ◌∷◌, ◌++◌}
use native.Mathlib.Omega.{arith}
use native.Mathlib.Decide.{ℕ_discrete}
use borrow.Author.Tests.{ne_eqb}
use lib.Dec.{eqb, ltb}
use lib.ListN.{length, take}
use Rattle.setting.specs.declared.Kind.{Kind}
use Rattle.setting.specs.Refusal.{first_of, leaves}
use Rattle.setting.specs.Rules.{width_checks, rule_checks}
use Rattle.setting.proofs.Refusals.{none_before, none_at}
use Rattle.setting.proofs.Fields.{at_most, narrow}
use Rattle.setting.proofs.Sizes.{fit_four}
use Rattle.counters.specs.Counters.{first_stream}
use Rattle.setting.specs.Size.{slots_of}
use Rattle.header_layout.specs.Header.{reading}
use Rattle.header_check.specs.Checking.{read_refusal, refusal_by}
use Rattle.header_check.proofs.Accepted.{shown, meets}
use Rattle.header_read.specs.Reader.{read_of}
use Rattle.packet.specs.Packets.{packet_length}
use Rattle.receiver.specs.declared.Stage.{Stage}
use Rattle.receiver.specs.declared.Event.{Event}
use Rattle.receiver.specs.declared.Row.{Row}
use Rattle.receiver.specs.Bytes.{Told}
use Rattle.receiver.specs.Store.{store_length, slots_for}
use Rattle.receiver.specs.Table.{Sort, good, broken, other, row, open_row, row_of, counter_step, is_ready, makes_ready}
use Rattle.receiver.specs.Arriving.{sort_of}
use Rattle.receiver.proofs.Store.{for_at_most}
use Rattle.receiver.specs.Receiving.{Receiver, moved, renumbered, receiver_after, receive_refusal, row_for, receive_of, receive_store}
use Rattle.receiver.specs.Bytes.{told, event_number, receiver_bytes, receiver_of, Codable}
use Rattle.receiver.specs.Calls.{receive_told, receive_state, receive_memory, hand_out_packets, hand_out_memory}
use Rattle.receiver.proofs.Coding.{receiver_back}
use Rattle.receiver.proofs.OnBytes.{numbers_said, calls_on_bytes}
use Rattle.runs.proofs.Reception.{Reception, after_packet, handed, handed_out}
use Rattle.runs.specs.Firmware.{Demultiplexer, heard, says_ready, given, given_out, ready_bytes, WithRoom}
use Rattle.runs.proofs.Table.{Asked, Set, event_is, after_is, bad_set}
use Rattle.runs.proofs.Vouched.{GoodHeader, good_set, fits_all, handed_is}

-- ---- a receiver stays in range, whatever it is given

-- a packet of another length is refused
refused_packet : (w : Reception) (p : List ℕ) → (length p ≡ packet_length → ⊥)
    → (after_packet w p ≡ w) × ((receive_of w.state p (length w.store)).event ≡ Event.Nothing)
unfolding after_packet receive_of receive_store leaves receive_refusal first_of
refused_packet w p d = rw (ne_eqb (length p) packet_length d) (refl, refl)

good_header : (kind : Kind) (pid : ℕ) (p : List ℕ) → read_refusal kind pid p ≡ 0 → GoodHeader kind pid (reading kind p).continuity_counter p
unfolding read_of refusal_by
good_header kind pid p e =
    let s = shown kind pid p e in
    let n = narrow kind (none_before (width_checks kind (reading kind p)) (rule_checks kind (reading kind p)) (meets kind pid p s).fields) in
    record {
      setting = reading kind p;
      read = rw e;
      counter = refl;
      small = n.counter;
      numbers_fit = fit_four kind n.numbers;
      numbers_long = (numbers_said kind pid p e).0;
      long = s.whole;
    }

pub set_kept : (kind : Kind) (pid : ℕ) (w : Reception) → Set kind pid w → (p : List ℕ) → Set kind pid (after_packet w p)
set_kept kind pid w s p = by_packet (ℕ_discrete (length p) packet_length) (ℕ_discrete (read_refusal kind pid p) 0)
  where
    by_packet : Dec (length p ≡ packet_length) → Dec (read_refusal kind pid p ≡ 0) → Set kind pid (after_packet w p)
    by_packet (no d) q = subst (Set kind pid) (sym (refused_packet w p d).0) s
    by_packet (yes l) (yes e) = good_set kind pid (reading kind p).continuity_counter p w s (good_header kind pid p e)
    by_packet (yes l) (no d) = bad_set kind pid w s p l d

-- ---- its bytes

-- bytes that say such a receiver, and its store
pub record Tuned (kind : Kind) (pid : ℕ) (b : Demultiplexer) (w : Reception) : Type 0 where
  pub state_is : b.state ≡ receiver_bytes w.state
  pub store_is : b.store ≡ w.store
  pub set : Set kind pid w

pub codable : (kind : Kind) (pid : ℕ) (w : Reception) → Set kind pid w → Codable w.state
codable kind pid w s =
    let most = at_most 16 8190 pid s.allowed in
    record { pid = omega (arith, s.pid_is, most); numbers = (s.numbers_long, s.numbers_fit); before = (s.before-long, s.before_fit) }

module _ (kind : Kind) (pid : ℕ) (b : Demultiplexer) (w : Reception) (t : Tuned kind pid b w) where
  pub tuned_heard : (p : List ℕ) → Tuned kind pid (heard b p) (after_packet w p)
  unfolding heard after_packet
  tuned_heard p =
      let on = (calls_on_bytes w.state (codable kind pid w t.set)).0.receives p w.store in
      record {
        state_is = ap₂ (λ (x y : List ℕ). receive_state x p y) t.state_is t.store_is ∙ on.1.1.0;
        store_is = ap₂ (λ (x y : List ℕ). receive_memory x p y) t.state_is t.store_is ∙ on.1.1.1;
        set = set_kept kind pid w t.set p;
      }

  ready_number : (e : Event) → eqb (event_number e) (event_number Event.Ready) ≡ makes_ready e
  unfolding told
  ready_number Event.Nothing = refl
  ready_number Event.Opened = refl
  ready_number Event.Stored = refl
  ready_number Event.Ready = refl
  ready_number Event.Short = refl
  ready_number Event.Jump = refl
  ready_number Event.Long = refl
  ready_number (Event.Broken r) = refl

  pub says_ready-tuned : (p : List ℕ) → says_ready b p ≡ makes_ready (receive_of w.state p (length w.store)).event
  says_ready-tuned p =
      let on = (calls_on_bytes w.state (codable kind pid w t.set)).0.receives p w.store in
      ap (λ (n : ℕ). eqb n (event_number Event.Ready)) (ap (λ (d : Told). d.event) (ap₂ (λ (x y : List ℕ). receive_told x p y) t.state_is t.store_is ∙ on.1.0))
      ∙ ready_number (receive_of w.state p (length w.store)).event

  given_is : (r : ℕ) (out : List ℕ) → given r out b ≡ handed r out w
  unfolding given handed
  given_is r out =
      let on = (calls_on_bytes w.state (codable kind pid w t.set)).0.handing_out r w.store out in
      ap₂ (λ (x y : List ℕ). take (packet_length * hand_out_packets x r y out) (hand_out_memory x r y out)) t.state_is t.store_is
      ∙ ap₂ (λ (n : ℕ) (l : List ℕ). take (packet_length * n) l) on.1.0 on.1.1

  pub before_is : (receiver_of b.state).before ≡ w.state.before
  before_is = ap (λ (l : List ℕ). (receiver_of l).before) t.state_is ∙ ap (λ (c : Receiver). c.before) (receiver_back w.state (codable kind pid w t.set))

-- ---- a frame that a packet makes ready is ready then

ready_open : (slots from k : ℕ) (sort : Sort) (to : ℕ) → makes_ready (open_row slots from k sort to).event ≡ true → is_ready (open_row slots from k sort to).stage ≡ true
unfolding open_row
ready_open slots from k (broken r) to e = absurd (false≢true e)
ready_open slots from k good to e = by_test (eqb k slots && eqb (counter_step from to) 1) (ltb k slots) e
  where
    by_test : (a b : Bool) → makes_ready (cond {A = Row} a (row Event.Ready (Stage.Ready to)) (row (cond b Event.Short Event.Jump) (Stage.Open to 0))).event ≡ true
        → is_ready (cond {A = Row} a (row Event.Ready (Stage.Ready to)) (row (cond b Event.Short Event.Jump) (Stage.Open to 0))).stage ≡ true
    by_test true b q = refl
    by_test false true q = absurd (false≢true q)
    by_test false false q = absurd (false≢true q)
ready_open slots from k other to e = by_room (ltb k slots) e
  where
    by_room : (b : Bool) → makes_ready (cond {A = Row} b (row Event.Stored (Stage.Open from (k + 1))) (row Event.Long Stage.Waiting)).event ≡ true
        → is_ready (cond {A = Row} b (row Event.Stored (Stage.Open from (k + 1))) (row Event.Long Stage.Waiting)).stage ≡ true
    by_room true q = absurd (false≢true q)
    by_room false q = absurd (false≢true q)

ready_row : (slots : ℕ) (stage : Stage) (sort : Sort) (to : ℕ) → makes_ready (row_of slots stage sort to).event ≡ true → is_ready (row_of slots stage sort to).stage ≡ true
unfolding row_of
ready_row slots Stage.Waiting good to e = absurd (false≢true e)
ready_row slots Stage.Waiting (broken r) to e = absurd (false≢true e)
ready_row slots Stage.Waiting other to e = absurd (false≢true e)
ready_row slots (Stage.Open from k) sort to e = ready_open slots from k sort to e
ready_row slots (Stage.Ready from) sort to e = ready_open slots from 0 sort to e

-- the stage of a state that a packet led to is its row's
row-stage : (c : Receiver) (sort : Sort) (stage : Stage) (said : List ℕ) → (receiver_after c sort stage said).stage ≡ stage
unfolding receiver_after moved renumbered
row-stage c good stage said = refl
row-stage c (broken r) stage said = refl
row-stage c other stage said = refl

pub ready_then : (kind : Kind) (pid : ℕ) (w : Reception) → Set kind pid w → (p : List ℕ)
    → makes_ready (receive_of w.state p (length w.store)).event ≡ true → is_ready (after_packet w p).state.stage ≡ true
unfolding row_for
ready_then kind pid w s p e = by_length (ℕ_discrete (length p) packet_length)
  where
    sort : Sort
    sort = sort_of w.state.kind w.state.pid p

    to : ℕ
    to = (reading w.state.kind p).continuity_counter

    by_length : Dec (length p ≡ packet_length) → is_ready (after_packet w p).state.stage ≡ true
    by_length (no d) = absurd (false≢true (sym (ap makes_ready (refused_packet w p d).1) ∙ e))
    by_length (yes l) =
        ap (λ (v : Reception). is_ready v.state.stage) (after_is kind pid w s p l)
        ∙ ap is_ready (row-stage w.state sort (row_for w.state p).stage (reading w.state.kind p).relative_ts_number)
        ∙ ready_row (slots_of w.state.kind) w.state.stage sort to (sym (ap makes_ready (event_is kind pid w s p l)) ∙ e)

-- ---- what is given with room is what any large buffer would get

module _ (kind : Kind) (pid r : ℕ) (store big : List ℕ) (a : Asked kind r store big) where
  given_same : (b : Demultiplexer) (w : Reception) → Tuned kind pid b w → is_ready w.state.stage ≡ true
      → (out : List ℕ) → ready_bytes r b ≤ length out → given r out b ≡ handed r big w
  given_same b w t e out h =
      let room : packet_length * slots_for r w.state.before ≤ length out = subst (λ (l : List ℕ). packet_length * slots_for r l ≤ length out) (before_is kind pid b w t) h in
      given_is kind pid b w t r out
      ∙ handed_is kind pid r out w t.set (record { from = a.from; to = a.to; room = room }) e
      ∙ sym (handed_is kind pid r big w t.set (fits_all kind pid r store big w t.set a) e)

  pub given_out-tuned : (b : Demultiplexer) (w : Reception) → Tuned kind pid b w → (buffers : ℕ → List ℕ) (ps : List (List ℕ)) → WithRoom r buffers b ps
      → given_out r buffers b ps ≡ handed_out r big w ps
  unfolding given_out handed_out WithRoom
  given_out-tuned b w t buffers [] room = refl
  given_out-tuned b w t buffers (p ∷ ps) room =
      let next = tuned_heard kind pid b w t p in
      ap₂ (λ (x y : List ℕ). x ++ y)
      (by_event (makes_ready (receive_of w.state p (length w.store)).event) refl (given_same (heard b p) (after_packet w p) next) room.0)
      (given_out-tuned (heard b p) (after_packet w p) next (λ n. buffers (suc n)) ps room.1)
    where
      by_event : (c : Bool) → makes_ready (receive_of w.state p (length w.store)).event ≡ c
          → (is_ready (after_packet w p).state.stage ≡ true → (out : List ℕ) → ready_bytes r (heard b p) ≤ length out → given r out (heard b p) ≡ handed r big (after_packet w p))
          → (says_ready b p ≡ true → ready_bytes r (heard b p) ≤ length (buffers 0))
          → cond (says_ready b p) (given r (buffers 0) (heard b p)) [] ≡ cond (makes_ready (receive_of w.state p (length w.store)).event) (handed r big (after_packet w p)) []
      by_event true e same h =
          let says = says_ready-tuned kind pid b w t p ∙ e in
          rw (says, e) (same (ready_then kind pid w t.set p e) (buffers 0) (h says))
      by_event false e same h = rw (says_ready-tuned kind pid b w t p ∙ e, e)

-- buffers for all packets of a frame have room for every ask for a stream: none has more slots than the kind
pub room_always : (kind : Kind) (pid r : ℕ) → first_stream ≤ r
    → (b : Demultiplexer) (w : Reception) → Tuned kind pid b w → (buffers : ℕ → List ℕ)
    → ((n : ℕ) → store_length (slots_of kind) ≤ length (buffers n)) → (ps : List (List ℕ)) → WithRoom r buffers b ps
unfolding WithRoom
room_always kind pid r from b w t buffers large [] = tt
room_always kind pid r from b w t buffers large (p ∷ ps) =
    let next = tuned_heard kind pid b w t p in
    let most = for_at_most r (slots_of kind) (after_packet w p).state.before from (none_at next.set.before_pass 1) in (
      (λ _. subst (λ (l : List ℕ). packet_length * slots_for r l ≤ length (buffers 0)) (sym (before_is kind pid (heard b p) (after_packet w p) next))
          (omega (arith, most, large 0))),
      room_always kind pid r from (heard b p) (after_packet w p) next (λ n. buffers (suc n)) (λ n. large (suc n)) ps,
    )
