-- Two headers announce different things exactly where the bytes of what they announce differ. Assumes nothing.
use Prim.Native.Nat.{ℕ, ◌+◌, ◌*◌, ◌≤◌}
use mathlib.Core.Path.{◌≡◌, refl, sym, ap, ◌∙◌}
use mathlib.Core.Bool.{Bool, true, false, not, true≢false}
use mathlib.Core.List.{List}
use native.Mathlib.Omega.{arith}
use borrow.Author.Tests.{eq-eqb, eqb-true, not-false}
use lib.Dec.{eqb}
use lib.ListN.{length}
use Rattle.bits.specs.Fields.{Fit}
use Rattle.counters.specs.Counters.{last_stream}
use Rattle.slices.specs.Slices.{some_differ}
use Rattle.slices.proofs.Any.{neither}
use Rattle.slices.proofs.Differing.{differs_nowhere, same_lists}
use Rattle.setting.specs.declared.Announced.{Announced}
use Rattle.setting.specs.Announcing.{differ}
use Rattle.setting_bytes.specs.Words.{words_of}
use Rattle.setting_bytes.specs.Settings.{part, ts_id_at, network_id_at, statuses_at, announced_length, announced_bytes, announced_of}
use Rattle.setting_bytes.proofs.Numbers.{length-bytes}
use Rattle.setting_bytes.proofs.Parts.{Streams, length_part}
use Rattle.setting_bytes.proofs.Same.{words_same, announced_same}

-- ---- what is announced

differs_not : (a : Announced) → differ a a ≡ false
unfolding differ
differs_not a =
    rw (
      eq-eqb a.slot_allocation_type a.slot_allocation_type refl,
      eq-eqb a.frame_type a.frame_type refl,
      eq-eqb a.availability a.availability refl,
      differs_nowhere a.ts_id,
      differs_nowhere a.original_network_id,
      differs_nowhere a.receive_status,
      eq-eqb a.emergency_indicator a.emergency_indicator refl,
    ) refl

equal : (n m : ℕ) → not (eqb n m) ≡ false → n ≡ m
equal n m e = eqb-true n m (not-false _ e)

same_said : (a b : Announced) → Streams a → Streams b → differ a b ≡ false → a ≡ b
unfolding differ
same_said a b l m e =
    let slot_type = neither _ _ e in
    let same_frame_type = neither _ _ slot_type.1 in
    let streams = neither _ _ same_frame_type.1 in
    let ts_ids = neither _ _ streams.1 in
    let network_id = neither _ _ ts_ids.1 in
    let statuses = neither _ _ network_id.1 in
    rw (
      equal a.slot_allocation_type b.slot_allocation_type slot_type.0,
      equal a.frame_type b.frame_type same_frame_type.0,
      equal a.availability b.availability streams.0,
      same_lists a.ts_id b.ts_id (l.0 ∙ sym m.0) ts_ids.0,
      same_lists a.original_network_id b.original_network_id (l.1 ∙ sym m.1) network_id.0,
      same_lists a.receive_status b.receive_status (l.2 ∙ sym m.2) statuses.0,
      equal a.emergency_indicator b.emergency_indicator statuses.1,
    ) refl

-- ---- its bytes

module _ (b : List ℕ) (l : length b ≡ announced_length) (f : Fit 8 b) where
  words_long : (at : ℕ) → at + 2 * last_stream ≤ announced_length → length (words_of (part at (2 * last_stream) b)) ≡ last_stream
  words_long at h =
      let bytes = ap length (words_same at last_stream b (omega (arith, l, h)) f) in
      omega (arith, bytes, length-bytes (words_of (part at (2 * last_stream) b)), length_part at (2 * last_stream) b (omega (arith, l, h)))

  streams-said : Streams (announced_of b)
  unfolding announced_of
  streams-said =
      rw (eq-eqb (length b) announced_length l) (words_long ts_id_at (omega arith), words_long network_id_at (omega arith), length_part statuses_at last_stream b (omega (arith, l)))

module _ (a b : List ℕ) (l : length a ≡ announced_length) (m : length b ≡ announced_length) (f : Fit 8 a) (g : Fit 8 b) where
  pub bytes-differ : differ (announced_of a) (announced_of b) ≡ some_differ a b
  bytes-differ = by_bytes (some_differ a b) (differ (announced_of a) (announced_of b)) refl refl
    where
      by_bytes : (t u : Bool) → some_differ a b ≡ t → differ (announced_of a) (announced_of b) ≡ u → u ≡ t
      by_bytes true true e d = refl
      by_bytes false false e d = refl
      by_bytes false true e d =
          let same = same_lists a b (l ∙ sym m) e in
          absurd (true≢false (sym d ∙ ap (λ (x : List ℕ). differ (announced_of a) (announced_of x)) (sym same) ∙ differs_not (announced_of a)))
      by_bytes true false e d =
          let said = same_said (announced_of a) (announced_of b) (streams-said a l f) (streams-said b m g) d in
          let same = sym (announced_same a l f) ∙ ap announced_bytes said ∙ announced_same b m g in
          absurd (true≢false (sym e ∙ ap (λ (x : List ℕ). some_differ a x) (sym same) ∙ differs_nowhere a))
