-- What a packet does that may stand in a slot, and what a header or a broken packet does, over the state's bytes. Assumes nothing.
use Prim.Native.Nat.{ℕ, ◌+◌, ◌*◌, ◌^◌, ◌≤◌, ◌<◌}
use mathlib.Core.Path.{◌≡◌, refl, sym, ap, ap₂, ◌∙◌}
use mathlib.Core.Bool.{true, false, not}
use mathlib.Core.List.{List, [], ◌++◌, append-nil}
use native.Mathlib.Omega.{arith}
use borrow.Author.Tests.{eq-eqb, ne_eqb, lt-ltb, le-ltb}
use lib.ListN.{length, get_or, set, replicate, take, drop, length-drop, drop_of_length-le}
use lib.Seq.{length-take-le, take-take, drop_at, drop-drop}
use Rattle.slices.specs.Slices.{over, some_at_least}
use Rattle.slices.proofs.Front.{put}
use Rattle.setting.specs.declared.Setting.{Setting}
use Rattle.setting.specs.Size.{slots_of}
use Rattle.setting.proofs.Refusals.{answers, passed}
use Rattle.setting_bytes.specs.Kinds.{is_kind}
use Rattle.packet.specs.Packets.{packet_length, unfit}
use Rattle.receiver.specs.declared.Stage.{Stage}
use Rattle.receiver.specs.declared.Event.{Event}
use Rattle.receiver.specs.declared.Row.{Row}
use Rattle.receiver.specs.Bytes.{Told}
use Rattle.receiver.specs.Table.{other, row, row_of, open_row, stored_of}
use Rattle.receiver.proofs.Rows.{kept, long}
use Rattle.receiver.specs.Packed.{packed_length, packed}
use Rattle.receiver.specs.Store.{store_length}
use Rattle.receiver.specs.Arriving.{store_after}
use Rattle.receiver.specs.Receiving.{Receiver, Received, receiver_checks, receive_refusal, receive_of, receive_store}
use Rattle.receiver.specs.Bytes.{kind_at, stage_at, counter_at, stored_at, numbers_at, receiver_length, stage_bytes, receiver_bytes, receiver_of, told}
use Rattle.receiver.specs.Calls.{lent_refusal, state_refused}
use Rattle.receiver.proofs.LentRefusal.{one_anyway}
use Rattle.receiver.proofs.Standing.{Stands, waits, opens, readies, standing, has_kind}
use Rattle.receiver.proofs.Bytes.{moved-bytes, renumbered-bytes, over-stage, front_kept, counted, unstaged}
use Rattle.receiver_receive.proofs.Sorts.{other_sort}
use Rattle.receiver_receive.proofs.Receipts.{sound_state, keeping, renumbering, other_receipt, other_store}

-- ---- the refusal

module _ (b : List ℕ) (packet store : ℕ) where
  abbrev long_store : ℕ
  long_store = store_length (slots_of (receiver_of b).kind)

  abbrev refusal : ℕ
  refusal = lent_refusal b (receive_refusal (receiver_of b) packet store)

  pub no_packet : (packet ≡ packet_length → ⊥) → 1 ≡ refusal
  unfolding receive_refusal
  no_packet h = one_anyway b (receive_refusal (receiver_of b) packet store) (answers 1 _ (ap not (ne_eqb packet packet_length h)))

  module _ (l : packet ≡ packet_length) where
    pub no_store : (store ≡ long_store → ⊥) → 1 ≡ refusal
    unfolding receive_refusal
    no_store h =
        one_anyway b (receive_refusal (receiver_of b) packet store)
        (passed 1 _ (ap not (eq-eqb packet packet_length l)) ∙ answers 1 _ (ap not (ne_eqb store long_store h)))

    pub the_states : store ≡ long_store → state_refused b ≡ refusal
    unfolding receive_refusal state_refused
    the_states m =
        ap (lent_refusal b)
        (sym (passed 1 _ (ap not (eq-eqb packet packet_length l)) ∙ passed 1 (receiver_checks (receiver_of b)) (ap not (eq-eqb store long_store m))))

-- ---- the state's bytes

-- a row's answer that keeps the numbers, and one that takes a header's, over the bytes
module _ (b p : List ℕ) (store : ℕ) (l : length b ≡ receiver_length) (w : some_at_least (2 ^ 8) b ≡ false) (e : receive_refusal (receiver_of b) (length p) store ≡ 0) where
  abbrev pub Moves : Told → List ℕ → Type 0
  Moves does after = (does ≡ told (receive_of (receiver_of b) p store).event) × (after ≡ receiver_bytes (receive_of (receiver_of b) p store).state)

  kind_is : is_kind (get_or b kind_at 0) ≡ true
  kind_is = has_kind b (sound_state (receiver_of b) (length p) store e)

  module _ (r : Row) {does : Told} (v : does ≡ told r.event) {after : List ℕ} where
    pub keeps : keeping (receiver_of b) p store r ≡ receive_of (receiver_of b) p store → after ≡ take stage_at b ++ (stage_bytes r.stage ++ drop numbers_at b)
        → Moves does after
    keeps t a =
        (v ∙ ap (λ (u : Received). told u.event) t, a ∙ moved-bytes b l w kind_is r.stage ∙ ap (λ (u : Received). receiver_bytes u.state) t)

    pub renews : (said : Setting) → renumbering (receiver_of b) p store r said ≡ receive_of (receiver_of b) p store
        → {opened : List ℕ} → packed said.relative_ts_number ≡ opened
        → after ≡ take stage_at b ++ (stage_bytes r.stage ++ (opened ++ take packed_length (drop numbers_at b)))
        → Moves does after
    renews said t o a = (
      v ∙ ap (λ (u : Received). told u.event) t,
      a ∙ renumbered-bytes b l w kind_is r.stage said.relative_ts_number o ∙ ap (λ (u : Received). receiver_bytes u.state) t,
    )

-- numbers that were lent and came back, and the stage written before them
pub renewed : (b ns opened : List ℕ) (stage : Stage) → length b ≡ receiver_length
    → ns ≡ opened ++ take packed_length (take (packed_length + packed_length) (drop numbers_at b))
    → over stage_at (stage_bytes stage) (put numbers_at (packed_length + packed_length) b ns)
    ≡ take stage_at b ++ (stage_bytes stage ++ (opened ++ take packed_length (drop numbers_at b)))
renewed b ns opened stage l e =
    let rest = drop (packed_length + packed_length) (drop numbers_at b) in
    let none : rest ≡ [] = drop_of_length-le (drop numbers_at b) {i = packed_length + packed_length} (rw length-drop (omega (arith, l))) in
    let six : length (take numbers_at b) ≡ numbers_at = length-take-le numbers_at b (omega (arith, l)) in
    let now = put numbers_at (packed_length + packed_length) b ns in
    let behind : drop numbers_at now ≡ opened ++ take packed_length (drop numbers_at b) =
    drop_at (take numbers_at b) (ns ++ rest) numbers_at six ∙ ap (λ (t : List ℕ). ns ++ t) none ∙ append-nil ns ∙ e
    ∙ ap (λ (t : List ℕ). opened ++ t) (take-take packed_length (packed_length + packed_length) (drop numbers_at b) (omega arith)) in
    over-stage now stage
    ∙ ap₂ (λ (x y : List ℕ). x ++ (stage_bytes stage ++ y)) (front_kept b (ns ++ rest) (omega (arith, l))) behind

-- ---- a packet that may stand in a slot

module _ (b p store : List ℕ) (l : length b ≡ receiver_length) (w : some_at_least (2 ^ 8) b ≡ false) (u : unfit (receiver_of b).pid p ≡ false)
    (e : receive_refusal (receiver_of b) (length p) (length store) ≡ 0) where
  abbrev c : Receiver
  c = receiver_of b

  abbrev Takes : ℕ → List ℕ → List ℕ → Type 0
  Takes event after memory =
      (told (receive_of c p (length store)).event ≡ record { event = event; remainder = 0 })
      × ((after ≡ receiver_bytes (receive_of c p (length store)).state) × (memory ≡ receive_store c p store))

  abbrev slots : ℕ
  slots = slots_of c.kind

  stood : Stands slots (get_or b stage_at 0) (get_or b counter_at 0) (get_or b stored_at 0) c.stage
  stood = standing b (sound_state c (length p) (length store) e)

  by_row : (r : Row) {event : ℕ} → told r.event ≡ record { event = event; remainder = 0 } → r ≡ row_of slots c.stage other 0 → {after memory : List ℕ} → after ≡ take stage_at b ++ (stage_bytes r.stage ++ drop numbers_at b)
      → memory ≡ store_after slots c.stage other p store → Takes event after memory
  by_row r v t a m =
      let sort = other_sort c.kind c.pid p u in
      let moves = keeps b p (length store) l w e r refl (other_receipt c p (length store) e sort t) a in
      (sym moves.0 ∙ v, (moves.1, other_store c p store e sort m))

  -- none is open: nothing happens
  pub waiting-on : get_or b stage_at 0 ≡ 0 → Takes 0 b store
  unfolding row_of stage_bytes store_after stored_of told
  waiting-on z = by_standing stood
    where
      by_standing : Stands slots (get_or b stage_at 0) (get_or b counter_at 0) (get_or b stored_at 0) c.stage → Takes 0 b store
      by_standing (waits t f k s) =
          by_row (row Event.Nothing Stage.Waiting) refl (rw s refl) (unstaged b (omega (arith, l)) t f k) (rw s (rw (le-ltb slots slots (omega arith)) refl))
      by_standing (opens t k s) = absurd (omega (arith, t, z))
      by_standing (readies t k s) = absurd (omega (arith, t, z))

  module _ (o : get_or b stage_at 0 ≡ 0 → ⊥) where
    -- a frame is open, with as many packets stored as the byte says
    opened : (row_of slots c.stage other 0 ≡ open_row slots (get_or b counter_at 0) (get_or b stored_at 0) other 0) × (stored_of slots c.stage ≡ get_or b stored_at 0)
    unfolding row_of stored_of
    opened = by_standing stood
      where
        by_standing : Stands slots (get_or b stage_at 0) (get_or b counter_at 0) (get_or b stored_at 0) c.stage
            → (row_of slots c.stage other 0 ≡ open_row slots (get_or b counter_at 0) (get_or b stored_at 0) other 0) × (stored_of slots c.stage ≡ get_or b stored_at 0)
        by_standing (waits t f k s) = absurd (o t)
        by_standing (opens t k s) = rw s (refl, refl)
        by_standing (readies t k s) = rw (s, k) (refl, refl)

    -- no room: the frame is dropped
    pub too_long : slots ≤ get_or b stored_at 0 → {zeros : List ℕ} → zeros ≡ replicate (length (take 3 (drop stage_at b))) 0 → Takes 6 (put stage_at 3 b zeros) store
    unfolding stage_bytes store_after told
    too_long h n =
        by_row (row Event.Long Stage.Waiting) refl (sym (opened.0 ∙ long slots (get_or b counter_at 0) (get_or b stored_at 0) 0 h))
        (ap₂ (λ (x y : List ℕ). take stage_at b ++ (x ++ y))
        (n ∙ ap (λ (m : ℕ). replicate m 0) (length-take-le 3 (drop stage_at b) (rw length-drop (omega (arith, l))))) (drop-drop 3 stage_at b))
        (rw (opened.1, le-ltb (get_or b stored_at 0) slots h) refl)

    -- stored behind those that are
    pub stored_on : get_or b stored_at 0 < slots
        → Takes 2 (set (set b stage_at 1) stored_at (get_or b stored_at 0 + 1)) (over (packet_length * get_or b stored_at 0) p store)
    unfolding stage_bytes store_after told
    stored_on h =
        by_row (row Event.Stored (Stage.Open (get_or b counter_at 0) (get_or b stored_at 0 + 1))) refl
        (sym (opened.0 ∙ kept slots (get_or b counter_at 0) (get_or b stored_at 0) 0 h)) (counted b (get_or b stored_at 0 + 1) (omega (arith, l)))
        (rw (opened.1, lt-ltb (get_or b stored_at 0) slots h) refl)
