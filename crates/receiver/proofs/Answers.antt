-- What each call answers and leaves over its bytes, by how it went. Assumes nothing.
use Prim.Native.Nat.{ℕ, ◌/◌, ◌%◌, ◌<◌}
use mathlib.Core.Path.{◌≡◌, refl, sym, ap, ◌∙◌}
use mathlib.Core.List.{List, [], ◌∷◌}
use native.Mathlib.Decide.{ℕ_discrete}
use borrow.Author.Tests.{eq-eqb, ne_eqb}
use lib.ListN.{length, replicate}
use Rattle.slices.specs.Slices.{copied}
use Rattle.setting.specs.Refusal.{of_length}
use Rattle.setting.proofs.Refusals.{kept, written}
use Rattle.setting_bytes.specs.Kinds.{kinds, kind_of}
use Rattle.setting_bytes.specs.Words.{word_bytes}
use Rattle.setting_bytes.proofs.KindsBack.{kind_same}
use Rattle.receiver.specs.Receiving.{HandedOut}
use Rattle.receiver.specs.declared.Event.{Event}
use Rattle.receiver.specs.Bytes.{Told}
use Rattle.receiver.specs.Receiving.{waiting, receive_refusal, receive_of, receive_store, hand_out_refusal, hand_out_of, hand_out_buffer}
use Rattle.receiver.specs.Bytes.{receiver_length, stage_bytes, receiver_bytes, receiver_of, told}
use Rattle.receiver.specs.Calls.{lent_refusal, receive_refused, receive_told, receive_event, receive_remainder, receive_state, receive_memory, hand_out_refused, hand_out_packets, hand_out_memory}
use Rattle.receiver.proofs.Bytes.{zeros-packed}

-- ---- start

-- zeros, and over them PID and kind
pub fresh-bytes : (state : List ℕ) (pid kind : ℕ) → length state ≡ receiver_length → kind < kinds → {zeros after : List ℕ} → zeros ≡ replicate (length state) 0
    → after ≡ copied zeros (pid / 256 ∷ pid % 256 ∷ kind ∷ []) → after ≡ receiver_bytes (waiting (kind_of kind) pid)
unfolding waiting receiver_bytes word_bytes stage_bytes copied
fresh-bytes state pid kind l h {zeros} n e =
    let none_yet : zeros ≡ replicate receiver_length 0 = n ∙ ap (λ (m : ℕ). replicate m 0) l in
    let bytes : receiver_bytes (waiting (kind_of kind) pid) ≡ pid / 256 ∷ pid % 256 ∷ kind ∷ replicate 55 0 = rw (zeros-packed, kind_same kind h) refl in
    e ∙ rw none_yet (sym bytes)

-- ---- receive

module _ (state p store : List ℕ) where
  -- what is asked of the answer, of the event and the remainder, and of what the state and the store are then
  abbrev pub Receives : ℕ → ℕ → ℕ → List ℕ → List ℕ → Type 0
  Receives n event remainder after memory =
      (n ≡ receive_refused state p store)
      × ((event ≡ receive_event state p store)
      × ((remainder ≡ receive_remainder state p store) × ((after ≡ receive_state state p store) × (memory ≡ receive_memory state p store))))

  pub when_receive_refused : {n : ℕ} → n ≡ lent_refusal state (receive_refusal (receiver_of state) (length p) (length store)) → (n ≡ 0 → ⊥) → Receives n 0 0 state store
  unfolding lent_refusal of_length receive_refused receive_told receive_state receive_memory receive_of receive_store told
  when_receive_refused {n} e h = by_length (ℕ_discrete (length state) receiver_length)
    where
      by_length : Dec (length state ≡ receiver_length) → Receives n 0 0 state store
      by_length (yes l) =
          let same = eq-eqb (length state) receiver_length l in
          let own : n ≡ receive_refusal (receiver_of state) (length p) (length store) = rw same at e in
          let no = ne_eqb _ 0 (λ z. h (own ∙ z)) in
          let said : n ≡ receive_refused state p store = rw (same, no) own in
          let nothing : told Event.Nothing ≡ receive_told state p store = rw (same, no) refl in
          (said, (ap (λ (t : Told). t.event) nothing, (ap (λ (t : Told). t.remainder) nothing, (kept said _ state h, rw same (kept own _ store h)))))
      by_length (no d) =
          let other = ne_eqb (length state) receiver_length d in
          let said : n ≡ receive_refused state p store = rw other (rw other at e) in
          let nothing : told Event.Nothing ≡ receive_told state p store = rw other refl in
          (said, (ap (λ (t : Told). t.event) nothing, (ap (λ (t : Told). t.remainder) nothing, (kept said _ state h, rw other refl))))

  module _ (l : length state ≡ receiver_length) (e : receive_refusal (receiver_of state) (length p) (length store) ≡ 0) where
    granted : 0 ≡ (receive_of (receiver_of state) p (length store)).refusal
    unfolding receive_of
    granted = rw (eq-eqb _ 0 e) refl

    pub receives : {t : Told} {after memory : List ℕ} → t ≡ told (receive_of (receiver_of state) p (length store)).event
        → after ≡ receiver_bytes (receive_of (receiver_of state) p (length store)).state → memory ≡ receive_store (receiver_of state) p store
        → Receives 0 t.event t.remainder after memory
    unfolding lent_refusal of_length receive_refused receive_told receive_state receive_memory
    receives {t} v a m =
        let same = eq-eqb (length state) receiver_length l in
        let does : t ≡ receive_told state p store = rw same v in
        let said : 0 ≡ receive_refused state p store = rw same granted in
        (said, (ap (λ (x : Told). x.event) does, (ap (λ (x : Told). x.remainder) does, (a ∙ written said _ state refl, rw same m))))

-- ---- hand out

module _ (state : List ℕ) (r : ℕ) (store out : List ℕ) where
  -- what is asked of the answer, of the number of packets, and of what the buffer is then
  abbrev Hands : ℕ → ℕ → List ℕ → Type 0
  Hands n packets buffer =
      (n ≡ hand_out_refused state r store out)
      × ((packets ≡ hand_out_packets state r store out) × (buffer ≡ hand_out_memory state r store out))

  pub hand_refused : {n : ℕ} → n ≡ lent_refusal state (hand_out_refusal (receiver_of state) r (length store) (length out)) → (n ≡ 0 → ⊥) → Hands n 0 out
  unfolding lent_refusal of_length hand_out_refused hand_out_packets hand_out_memory hand_out_of hand_out_buffer
  hand_refused {n} e h = by_length (ℕ_discrete (length state) receiver_length)
    where
      by_length : Dec (length state ≡ receiver_length) → Hands n 0 out
      by_length (yes l) =
          let same = eq-eqb (length state) receiver_length l in
          let own : n ≡ hand_out_refusal (receiver_of state) r (length store) (length out) = rw same at e in
          (rw same own, (rw (same, ne_eqb _ 0 (λ z. h (own ∙ z))) refl, rw same (kept own _ out h)))
      by_length (no d) =
          let other = ne_eqb (length state) receiver_length d in
          (rw other (rw other at e), (rw other refl, rw other refl))

  pub hands : length state ≡ receiver_length → {t : HandedOut} {buffer : List ℕ} → t ≡ hand_out_of (receiver_of state) r (length store) (length out)
      → buffer ≡ hand_out_buffer (receiver_of state) r store out → Hands t.refusal t.packets buffer
  unfolding lent_refusal of_length hand_out_refused hand_out_packets hand_out_memory
  hands l q b =
      let same = eq-eqb (length state) receiver_length l in
      (rw same (ap (λ (u : HandedOut). u.refusal) q), (rw same (ap (λ (u : HandedOut). u.packets) q), rw same b))
