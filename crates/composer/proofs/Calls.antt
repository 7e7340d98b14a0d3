-- What the exported calls answer and leave where the composer's own call is refused, and where it is not. Assumes nothing.
use Prim.Native.Nat.{ℕ}
use mathlib.Core.Path.{◌≡◌, refl, sym, ap, ◌∙◌}
use mathlib.Core.Bool.{Bool}
use mathlib.Core.List.{List, ◌++◌}
use borrow.Author.Tests.{eq-eqb, ne_eqb}
use lib.ListN.{length, drop}
use Rattle.composer.specs.Slots.{cleared, placed_by, marks_after, frame_after}
use Rattle.composer.specs.Composing.{Answer, opened, marked, closed, closing, answer, begin_refusal, begin_of, begun_frame, put_refusal, put_of, put_frame, close_refusal, close_of, closed_frame}
use Rattle.composer.proofs.Answers.{granted}
use Rattle.header_layout.specs.Header.{header}
use Rattle.packet.specs.Packets.{packet_length}
use Rattle.setting.specs.Size.{slots_of}
use Rattle.setting.proofs.Refusals.{kept, written}
use Rattle.setting_bytes.specs.Settings.{setting_length, setting_of}
use Rattle.composer.specs.States.{composer_length, composer_bytes, composer_of}
use Rattle.composer.specs.Calls.{begin_refused, begin_state, begin_memory, put_refused, put_placed, put_state, put_memory, close_refused, close_state, close_memory}

-- a begin, by what its checks answered
module _ (state setting frame : List ℕ) (l : length state ≡ composer_length) (t : length setting ≡ setting_length) {refusal : ℕ}
    (e : refusal ≡ begin_refusal (composer_of state) (setting_of setting) (length frame)) where
  begin_answer : refusal ≡ begin_refused state setting frame
  unfolding begin_refused begin_of answer
  begin_answer = rw (eq-eqb (length state) composer_length l, eq-eqb (length setting) setting_length t) e

  pub when_begin_refused : (refusal ≡ 0 → ⊥)
      → (refusal ≡ begin_refused state setting frame) × ((state ≡ begin_state state setting frame) × (frame ≡ begin_memory state setting frame))
  unfolding begin_state begin_memory begun_frame
  when_begin_refused h =
      (begin_answer, (kept begin_answer _ state h, rw (eq-eqb (length state) composer_length l, eq-eqb (length setting) setting_length t) (kept e _ frame h)))

  pub begin_done : refusal ≡ 0 → {bytes memory : List ℕ} → bytes ≡ composer_bytes (opened (composer_of state) (setting_of setting)) → memory ≡ cleared (slots_of (composer_of state).kind) frame
      → (0 ≡ begin_refused state setting frame) × ((bytes ≡ begin_state state setting frame) × (memory ≡ begin_memory state setting frame))
  unfolding begin_state begin_memory begun_frame begin_of answer
  begin_done z b m =
      let none : begin_refusal (composer_of state) (setting_of setting) (length frame) ≡ 0 = sym e ∙ z in
      (sym z ∙ begin_answer, (b ∙ rw none refl ∙ written begin_answer _ state z, rw (eq-eqb (length state) composer_length l, eq-eqb (length setting) setting_length t) (m ∙ written e _ frame z)))

-- a put, by what its checks answered
module _ (state : List ℕ) (n : ℕ) (stream frame : List ℕ) (l : length state ≡ composer_length) {refusal : ℕ}
    (e : refusal ≡ put_refusal (composer_of state) n stream (length frame)) where
  abbrev plan : List ℕ
  plan = (composer_of state).setting.relative_ts_number

  abbrev marks : List Bool
  marks = (composer_of state).filled

  put-answer : refusal ≡ put_refused state n stream frame
  unfolding put_refused put_of
  put-answer = rw (eq-eqb (length state) composer_length l) e

  pub when_put_refused : (refusal ≡ 0 → ⊥)
      → (refusal ≡ put_refused state n stream frame)
      × ((0 ≡ put_placed state n stream frame) × ((state ≡ put_state state n stream frame) × (frame ≡ put_memory state n stream frame)))
  unfolding put_placed put_state put_memory put_of put_frame
  when_put_refused h =
      (put-answer, (rw (eq-eqb (length state) composer_length l, ne_eqb _ 0 (λ z. h (e ∙ z))) refl, (kept put-answer _ state h, rw (eq-eqb (length state) composer_length l) (kept e _ frame h))))

  pub put_done : refusal ≡ 0 → {placed : ℕ} {bytes memory : List ℕ}
      → placed ≡ placed_by n plan marks stream
      → bytes ≡ composer_bytes (marked (composer_of state) (marks_after n plan marks stream))
      → memory ≡ frame_after n plan marks stream frame
      → (0 ≡ put_refused state n stream frame)
      × ((placed ≡ put_placed state n stream frame) × ((bytes ≡ put_state state n stream frame) × (memory ≡ put_memory state n stream frame)))
  unfolding put_placed put_state put_memory put_of put_frame
  put_done z p b m =
      let none : put_refusal (composer_of state) n stream (length frame) ≡ 0 = sym e ∙ z in
      (sym z ∙ put-answer, (rw (eq-eqb (length state) composer_length l, none) p, (b ∙ rw none refl ∙ written put-answer _ state z, rw (eq-eqb (length state) composer_length l) (m ∙ written e _ frame z))))

-- a close, by its refusal n
module _ (state frame : List ℕ) (l : length state ≡ composer_length) {n : ℕ} (e : n ≡ close_refusal (composer_of state) (length frame)) where
  close_answer : n ≡ close_refused state frame
  unfolding close_refused close_of answer
  close_answer = rw (eq-eqb (length state) composer_length l) e

  close_memory_from_frame : {memory : List ℕ} → memory ≡ closed_frame (composer_of state) frame → memory ≡ close_memory state frame
  unfolding close_memory
  close_memory_from_frame f = rw (eq-eqb (length state) composer_length l) f

  pub when_close_refused : (n ≡ 0 → ⊥) → (n ≡ close_refused state frame) × ((state ≡ close_state state frame) × (frame ≡ close_memory state frame))
  unfolding close_state closed_frame
  when_close_refused h = (close_answer, (kept close_answer _ state h, close_memory_from_frame (kept e _ frame h)))

  pub close_done : {bytes memory : List ℕ} → n ≡ 0 → bytes ≡ composer_bytes (closed (composer_of state))
      → memory ≡ header (composer_of state).kind (composer_of state).pid (closing (composer_of state)) ++ drop packet_length frame
      → (0 ≡ close_refused state frame) × ((bytes ≡ close_state state frame) × (memory ≡ close_memory state frame))
  unfolding close_state close_of closed_frame
  close_done z b f =
      let c = composer_of state in (
        sym z ∙ close_answer,
        (b ∙ ap (λ (a : Answer). composer_bytes a.state) (granted e (closed c) c z) ∙ written close_answer _ state z, close_memory_from_frame (f ∙ written e _ frame z)),
      )
