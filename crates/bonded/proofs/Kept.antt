-- What the caller of a receiver keeps of frames that arrive whole: each of them, once the next header is there. Assumes nothing.
use Prim.Native.Nat.{ℕ, zero, suc, ◌+◌, ◌*◌, ◌%◌, ◌^◌, ◌≤◌, ◌<◌}
use mathlib.Core.Path.{◌≡◌, refl, ap, ap₂, subst, ◌∙◌}
use mathlib.Core.Bool.{Bool, true, false, cond}
use mathlib.Core.List.{List, [], ◌∷◌, ◌++◌, map, append-nil}
use native.Mathlib.Omega.{arith}
use borrow.Author.Tests.{lt-ltb, eq-eqb}
use lib.ListN.{length, take, drop, replicate, length-drop, length-replicate, drop_of_length-le, take-append-drop}
use Rattle.setting.specs.declared.Kind.{Kind}
use Rattle.setting.specs.Size.{slots_of}
use Rattle.setting_bytes.specs.Kinds.{kind_of}
use Rattle.header_layout.specs.Header.{reading}
use Rattle.packet.specs.Packets.{packet_length, slot, unfit}
use Rattle.receiver.specs.declared.Stage.{Stage}
use Rattle.receiver.specs.declared.Event.{Event}
use Rattle.receiver.specs.declared.Row.{Row}
use Rattle.receiver.specs.Bytes.{Told}
use Rattle.receiver.specs.Store.{store_length}
use Rattle.receiver.specs.Table.{makes_ready, good, broken, other, row, open_row, row_of}
use Rattle.receiver.specs.Receiving.{receive_of}
use Rattle.receiver.proofs.Sorts.{not_good}
use Rattle.runs.specs.Runs.{Each, none, more}
use Rattle.runs.specs.Losses.{header_arrives, packets_arrive, arriving}
use Rattle.runs.proofs.Reception.{Reception, fresh_with, after_packet}
use Rattle.runs.specs.Demands.{whole, header_alone}
use Rattle.runs.proofs.Table.{Opens, Set, event_is, row_opens, bad_row, bad_set, stored_stage, Plain, joined, after_all, StoredAll, stored_all}
use Rattle.runs.proofs.Vouched.{GoodFrame, good_event, good_set, good_store, good_opens, step_one, vouched_row}
use Rattle.runs.proofs.Lost.{arrive_plain, arrive_entire, Counted, no_more, and_then}
use Rattle.runs.proofs.Values.{waiting-stage}
use Rattle.runs.proofs.Demands.{all_arrive}
use Rattle.runs.proofs.Tuned.{Tuned, tuned_heard, codable, says_ready-tuned}
use Rattle.receiver.proofs.OnBytes.{calls_on_bytes}
use Rattle.receiver.specs.Bytes.{told, event_number}
use Rattle.receiver.specs.Arriving.{shown_remainder}
use Rattle.receiver.specs.Calls.{receive_told, receive_event}
use Rattle.runs.specs.Firmware.{Demultiplexer, heard}
use Rattle.bonded.specs.Carriers.{opens_frame, frames_kept}

-- ---- over a receiver's state as a value

-- whether a packet opened a frame
abbrev opens_by : Event → Bool
opens_by Event.Nothing = false
opens_by Event.Opened = true
opens_by Event.Stored = false
opens_by Event.Ready = true
opens_by Event.Short = true
opens_by Event.Jump = true
opens_by Event.Long = false
opens_by (Event.Broken r) = false

unfoldable frames_held : List ℕ → Reception → List (List ℕ) → List (List ℕ)
frames_held held w [] = []
frames_held held w (p ∷ ps) =
    cond (makes_ready (receive_of w.state p (length w.store)).event) ((held ++ (after_packet w p).store) ∷ []) []
    ++ frames_held (cond (opens_by (receive_of w.state p (length w.store)).event) p held) (after_packet w p) ps

-- what it does with a packet, by its event
abbrev kept_by : Event → List ℕ → Reception → List ℕ → List (List ℕ) → List (List ℕ)
kept_by e held w p ps =
    cond (makes_ready e) ((held ++ (after_packet w p).store) ∷ []) [] ++ frames_held (cond (opens_by e) p held) (after_packet w p) ps

frames_held-event : (e : Event) (held : List ℕ) (w : Reception) (p : List ℕ) (ps : List (List ℕ))
    → (receive_of w.state p (length w.store)).event ≡ e → frames_held held w (p ∷ ps) ≡ kept_by e held w p ps
unfolding frames_held
frames_held-event e held w p ps q = ap (λ (x : Event). kept_by x held w p ps) q

module _ (number pid : ℕ) where
  abbrev kind : Kind
  kind = kind_of number

  abbrev slots : ℕ
  slots = slots_of kind

  -- ---- packets that are stored

  stored_event : (from k : ℕ) (w : Reception) (p : List ℕ) → Set kind pid w → Plain pid p → Opens w.state.stage from k → k < slots
      → (receive_of w.state p (length w.store)).event ≡ Event.Stored
  unfolding open_row
  stored_event from k w p s (l, u) o h =
      let to = (reading w.state.kind p).continuity_counter in
      let r : row_of slots w.state.stage (cond (unfit pid p) (broken (shown_remainder kind pid p)) other) to ≡ row Event.Stored (Stage.Open from (k + 1)) =
      ap (λ (b : Bool). row_of slots w.state.stage (cond b (broken (shown_remainder kind pid p)) other) to) u ∙ row_opens slots other to o ∙ rw (lt-ltb k slots h) in
      event_is kind pid w s p l ∙ ap (λ (x : Row). x.event) (bad_row kind pid w s p l (not_good kind pid p u) ∙ r)

  -- they make no frame ready and open none
  stored_kept : (held : List ℕ) (from k : ℕ) (w : Reception) (ps later : List (List ℕ)) → Set kind pid w → Opens w.state.stage from k
      → k + length ps ≤ slots → Each (Plain pid) ps → frames_held held w (ps ++ later) ≡ frames_held held (after_all w ps) later
  unfolding after_all
  stored_kept held from k w [] later s o h none = refl
  stored_kept held from k w (p ∷ ps) later s o h (more (l, u) fit) =
      let d = not_good kind pid p u in
      let q : k < slots = omega arith in
      frames_held-event Event.Stored held w p (ps ++ later) (stored_event from k w p s (l, u) o q)
      ∙ stored_kept held from (k + 1) (after_packet w p) ps later (bad_set kind pid w s p l d)
      (stored_stage kind pid w s p l d from k o q u) (omega arith) fit

  -- ---- a header

  -- what the header with counter n brings: nothing where the receiver waits, and the frame that stands behind the header held where that
  -- is whole and has the counter before
  data Brings (n : ℕ) (held : List ℕ) (w : Reception) : List (List ℕ) → Type 0 where
    nothing : w.state.stage ≡ Stage.Waiting → Brings n held w []
    frame : (f : List ℕ) (from : ℕ) → Opens w.state.stage from slots → from < 2 ^ 4 → (from + 1) % 16 ≡ n → held ++ w.store ≡ f
        → Brings n held w (f ∷ [])

  header_kept : (n : ℕ) (held f : List ℕ) (w : Reception) (owed ps : List (List ℕ)) → Set kind pid w → GoodFrame kind pid n f
      → Brings n held w owed → frames_held held w (slot 0 f ∷ ps) ≡ owed ++ frames_held (slot 0 f) (after_packet w (slot 0 f)) ps
  unfolding row_of
  header_kept n held f w owed ps s g (nothing e) =
      frames_held-event Event.Opened held w (slot 0 f) ps (good_event kind pid n (slot 0 f) w s g.header ∙ ap (λ (x : Stage). (row_of slots x good n).event) e)
  header_kept n held f w owed ps s g (frame x from o h c e) =
      let step : (from + 0 + 1) % 16 ≡ n = omega (arith, c) in
      let v = row_opens slots good n o ∙ vouched_row slots from slots n (rw (eq-eqb slots slots refl) (step_one from 0 n h (omega arith) step)) in
      frames_held-event Event.Ready held w (slot 0 f) ps (good_event kind pid n (slot 0 f) w s g.header ∙ ap (λ (r : Row). r.event) v)
      ∙ ap (λ (y : List ℕ). y ∷ frames_held (slot 0 f) (after_packet w (slot 0 f)) ps)
      (ap (λ (y : List ℕ). held ++ y) (good_store kind pid n (slot 0 f) w s g.header) ∙ e)

  -- ---- a frame that arrives whole

  module _ (n : ℕ) (f : List ℕ) (w : Reception) (s : Set kind pid w) (g : GoodFrame kind pid n f) where
    abbrev opened : Reception
    opened = after_packet w (slot 0 f)

    abbrev packets : List (List ℕ)
    packets = packets_arrive (replicate slots true) (drop packet_length f)

    bytes-long : length (drop packet_length f) ≡ packet_length * length (replicate slots true)
    bytes-long = length-drop packet_length f ∙ omega (arith, g.long, length-replicate slots true)

    entire_then : (length packets ≡ slots) × (joined packets ≡ drop packet_length f)
    entire_then =
        let all = arrive_entire (replicate slots true) (drop packet_length f) (all_arrive slots) bytes-long in
        (all.0 ∙ length-replicate slots true, all.1)

    plain : Each (Plain pid) packets
    plain = arrive_plain pid (replicate slots true) (drop packet_length f) bytes-long (λ i h. g.fit i (omega (arith, h, length-replicate slots true)))

    count : 0 + length packets ≡ slots
    count = omega (arith, entire_then.0)

    few : 0 + length packets ≤ slots
    few = omega (arith, count)

    all_stored : StoredAll kind pid 0 [] n 0 opened packets [] opened.store
    all_stored =
        stored_all kind pid 0 [] n 0 opened packets [] opened.store (good_set kind pid n (slot 0 f) w s g.header)
        (good_opens kind pid n (slot 0 f) w s g.header) few plain refl refl

    store_then : (after_all opened packets).store ≡ drop packet_length f
    store_then =
        let long : length opened.store ≡ store_length slots = (good_set kind pid n (slot 0 f) w s g.header).store_long in
        let all : length opened.store ≤ packet_length * (0 + length packets) = omega (arith, long, count) in
        all_stored.store_then
        ∙ ap₂ (λ (x y : List ℕ). x ++ y) entire_then.1 (drop_of_length-le opened.store all) ∙ append-nil (drop packet_length f)

    -- behind its header it stands in the store, for the next header to bring
    brings_then : Brings ((n + 1) % 16) (slot 0 f) (after_all opened packets) (f ∷ [])
    unfolding slot
    brings_then =
        frame f n (subst (Opens (after_all opened packets).state.stage n) count all_stored.stage_then) g.header.small refl
        (ap (λ (x : List ℕ). take packet_length f ++ x) store_then ∙ take-append-drop packet_length f)

    frame_kept : (held : List ℕ) (owed later : List (List ℕ)) → Brings n held w owed
        → frames_held held w (slot 0 f ∷ (packets ++ later)) ≡ owed ++ frames_held (slot 0 f) (after_all opened packets) later
    frame_kept held owed later b =
        header_kept n held f w owed (packets ++ later) s g b
        ∙ ap (λ (x : List (List ℕ)). owed ++ x)
        (stored_kept (slot 0 f) n 0 opened packets later (good_set kind pid n (slot 0 f) w s g.header) (good_opens kind pid n (slot 0 f) w s g.header) few plain)

  -- ---- all frames, and the next header behind them

  none_arrive : (n : ℕ) (bytes : List ℕ) → packets_arrive (replicate n false) bytes ≡ []
  unfolding packets_arrive
  none_arrive zero bytes = refl
  none_arrive (suc n) bytes = none_arrive n (drop packet_length bytes)

  all_kept : (n : ℕ) (held : List ℕ) (w : Reception) (owed fs : List (List ℕ)) (next : List ℕ) → Set kind pid w → Brings n held w owed
      → Counted kind pid n (fs ++ (next ∷ [])) → frames_held held w (arriving (map (whole number) fs ++ (header_alone number next ∷ []))) ≡ owed ++ fs
  unfolding arriving header_arrives frames_held
  all_kept n held w owed [] next s b (and_then g no_more) =
      ap (λ (ps : List (List ℕ)). frames_held held w (slot 0 next ∷ (ps ++ []))) (none_arrive slots (drop packet_length next))
      ∙ header_kept n held next w owed [] s g b
  all_kept n held w owed (f ∷ fs) next s b (and_then g c) =
      frame_kept n f w s g held owed (arriving (map (whole number) fs ++ (header_alone number next ∷ []))) b
      ∙ ap (λ (x : List (List ℕ)). owed ++ x)
      (all_kept ((n + 1) % 16) (slot 0 f) (after_all (opened n f w s g) (packets n f w s g)) (f ∷ []) fs next
      (all_stored n f w s g).set_then (brings_then n f w s g) c)

-- ---- over a receiver's bytes

opens_number : (e : Event) → opens_frame (event_number e) ≡ opens_by e
unfolding told
opens_number Event.Nothing = refl
opens_number Event.Opened = refl
opens_number Event.Stored = refl
opens_number Event.Ready = refl
opens_number Event.Short = refl
opens_number Event.Jump = refl
opens_number Event.Long = refl
opens_number (Event.Broken r) = refl

module _ (kind : Kind) (pid : ℕ) where
  kept_alike : (held : List ℕ) (b : Demultiplexer) (w : Reception) → Tuned kind pid b w → (ps : List (List ℕ)) → frames_kept held b ps ≡ frames_held held w ps
  unfolding frames_kept frames_held
  kept_alike held b w t [] = refl
  kept_alike held b w t (p ∷ ps) =
      let next = tuned_heard kind pid b w t p in
      let on = (calls_on_bytes w.state (codable kind pid w t.set)).0.receives p w.store in
      let event : receive_event b.state p b.store ≡ event_number (receive_of w.state p (length w.store)).event =
      ap (λ (d : Told). d.event) (ap₂ (λ (x y : List ℕ). receive_told x p y) t.state_is t.store_is ∙ on.1.0) in
      let opens : opens_frame (receive_event b.state p b.store) ≡ opens_by (receive_of w.state p (length w.store)).event =
      ap opens_frame event ∙ opens_number (receive_of w.state p (length w.store)).event in
      ap₂ (λ (x y : List (List ℕ)). x ++ y)
      (ap₂ (λ (c : Bool) (l : List ℕ). cond c ((held ++ l) ∷ []) []) (says_ready-tuned kind pid b w t p) next.store_is)
      (ap (λ (c : Bool). frames_kept (cond c p held) (heard b p) ps) opens
      ∙ kept_alike (cond (opens_by (receive_of w.state p (length w.store)).event) p held) (heard b p) (after_packet w p) next ps)

-- a fresh receiver brings them all
pub fresh_kept : (number pid n : ℕ) (b : Demultiplexer) (store : List ℕ) → Tuned (kind_of number) pid b (fresh_with (kind_of number) pid store)
    → (fs : List (List ℕ)) (next : List ℕ)
    → Counted (kind_of number) pid n (fs ++ (next ∷ [])) → frames_kept [] b (arriving (map (whole number) fs ++ (header_alone number next ∷ []))) ≡ fs
fresh_kept number pid n b store t fs next c =
    kept_alike (kind_of number) pid [] b (fresh_with (kind_of number) pid store) t (arriving (map (whole number) fs ++ (header_alone number next ∷ [])))
    ∙ all_kept number pid n [] _ [] fs next t.set (nothing (waiting-stage (kind_of number) pid)) c
