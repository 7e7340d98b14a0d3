-- Lists read and written part by part. Assumes nothing.
use Prim.Native.Nat.{ℕ, ◌+◌, ◌-◌, ◌*◌, ◌≤◌}
use mathlib.Core.Path.{◌≡◌, refl, sym, ap, ap₂, ◌∙◌}
use mathlib.Core.List.{List, [], ◌∷◌, ◌++◌, append_assoc}
use native.Mathlib.Omega.{arith}
use borrow.Author.Tests.{eq-eqb}
use lib.ListN.{length, get_or, set, take, drop, replicate, length-append, length-drop, length-replicate}
use lib.Seq.{sets, sets-eq, drop_at, length-take-le}
use Rattle.slices.proofs.Front.{put, front_none, front_kept, front-part, front-more, front-all, copied-over}
use Rattle.slices.specs.Slices.{copied}
use Rattle.counters.specs.Counters.{last_stream, last_slot}
use Rattle.setting.specs.declared.Setting.{Setting}
use Rattle.setting.specs.Setting.{private_bytes, auxiliary_bytes}
use Rattle.setting.specs.declared.Announced.{Announced}
use Rattle.setting.specs.Announcing.{announced}
use Rattle.setting_bytes.specs.Words.{word_bytes}
use Rattle.setting_bytes.specs.Settings.{part, ts_id_at, network_id_at, statuses_at, emergency_at, announced_length, announced_bytes, announced_of}
use Rattle.setting_bytes.specs.Settings.{counter_at, version_at, announced_at, numbers_at, private_at, auxiliary_at, group_at, carriers_at, sequence_at, frames_at, position_at}
use Rattle.setting_bytes.specs.Settings.{setting_length, setting_from, setting_bytes, setting_of}
use Rattle.setting_bytes.proofs.Numbers.{length-bytes}

-- n elements from place k on are n where there are so many
pub length_part : (k n : ℕ) (b : List ℕ) → k + n ≤ length b → length (part k n b) ≡ n
length_part k n b h = length-take-le n (drop k b) (rw (length-drop k b) (omega arith))

-- a part of bytes copied over zeros, as many as it has
pub copied-part : (n k : ℕ) (b : List ℕ) → k + n ≤ length b → copied (replicate n 0) (part k n b) ≡ part k n b
copied-part n k b h = copied-over (replicate n 0) (part k n b) (length-replicate n 0 ∙ sym (length_part k n b h))

-- how long the lists of what is announced are, which the types say
abbrev pub Streams : Announced → Type 0
Streams a = (length a.ts_id ≡ last_stream) × (length a.original_network_id ≡ last_stream) × (length a.receive_status ≡ last_stream)

-- what is announced: five parts of its bytes, filled one after the other
pub announced_parts : (a : Announced) (bytes i t o r : List ℕ) → length bytes ≡ announced_length → Streams a
    → i ≡ a.slot_allocation_type ∷ a.frame_type ∷ word_bytes (a.availability ∷ [])
    → t ≡ word_bytes a.ts_id
    → o ≡ word_bytes a.original_network_id
    → r ≡ a.receive_status
    → set (put statuses_at last_stream (put network_id_at (2 * last_stream) (put ts_id_at (2 * last_stream) (put 0 ts_id_at bytes i) t) o) r) emergency_at a.emergency_indicator ≡ announced_bytes a
unfolding announced_bytes word_bytes
announced_parts a bytes i t o r long streams pi pt po pr =
    let lt = length-bytes a.ts_id in
    let lo = length-bytes a.original_network_id in
    let n₁ = streams.0 in
    let n₂ = streams.1 in
    let f₁ = front-part bytes [] bytes i 0 ts_id_at (front_none bytes) (ap length pi) in
    let f₂ = front-part bytes i _ t ts_id_at (2 * last_stream) f₁ (ap length pt ∙ omega arith) in
    let f₃ = front-part bytes (i ++ t) _ o network_id_at (2 * last_stream) f₂ (ap length po ∙ omega arith) in
    let f₄ = front-part bytes (i ++ t ++ o) _ r statuses_at last_stream f₃ (ap length pr ∙ streams.2) in
    let f₅ = front-more bytes (i ++ t ++ o ++ r) _ emergency_at a.emergency_indicator f₄ (omega arith) in
    front-all bytes (i ++ t ++ o ++ r ++ (a.emergency_indicator ∷ [])) _ announced_length f₅ (omega arith)
    ∙ simp append_assoc
    (rw (pi, pt, po, pr) refl)

-- how many bytes what is announced takes
pub length-announced : (a : Announced) → Streams a → length (announced_bytes a) ≡ announced_length
unfolding announced_bytes word_bytes
length-announced a streams =
    let lt = length-bytes a.ts_id in
    let lo = length-bytes a.original_network_id in
    let n₁ = streams.0 in
    let n₂ = streams.1 in
    let n₃ = streams.2 in
    rw (
      length-append (word_bytes a.ts_id) (word_bytes a.original_network_id ++ (a.receive_status ++ (a.emergency_indicator ∷ []))),
      length-append (word_bytes a.original_network_id) (a.receive_status ++ (a.emergency_indicator ∷ [])),
      length-append a.receive_status (a.emergency_indicator ∷ []),
    ) (omega arith)

-- how long a setting's lists are, which the types say
pub record Long (s : Setting) : Type 0 where
  pub ts_ids : length s.ts_id ≡ last_stream
  pub network_id : length s.original_network_id ≡ last_stream
  pub statuses : length s.receive_status ≡ last_stream
  pub numbers : length s.relative_ts_number ≡ last_slot
  pub privates : length s.private_data ≡ private_bytes
  pub auxiliaries : length s.auxiliary ≡ auxiliary_bytes

-- and those of what it announces
pub streams : (s : Setting) → Long s → Streams (announced s)
unfolding announced
streams s long = (long.ts_ids, long.network_id, long.statuses)

-- the bytes of a setting before its private ones: what it announces and the slots' numbers, then the two bytes before them
pub setting_front : (s : Setting) (bytes a n : List ℕ) → length bytes ≡ private_at → length a ≡ announced_length → length n ≡ last_slot
    → a ≡ announced_bytes (announced s)
    → n ≡ s.relative_ts_number
    → set (set (put numbers_at last_slot (put announced_at announced_length bytes a) n) counter_at s.continuity_counter) version_at s.version_number
    ≡ (s.continuity_counter ∷ s.version_number ∷ []) ++ (announced_bytes (announced s) ++ s.relative_ts_number)
setting_front s bytes a n whole la ln pa pn =
    let c : List ℕ = s.continuity_counter ∷ s.version_number ∷ [] in
    let f₁ = front_kept bytes [] bytes 0 announced_at (front_none bytes) (omega arith) in
    let f₂ = front-part bytes (take announced_at bytes) _ a announced_at announced_length f₁ la in
    let f₃ = front-part bytes (take announced_at bytes ++ a) _ n numbers_at last_slot f₂ ln in
    let filled : put numbers_at last_slot (put announced_at announced_length bytes a) n ≡ take announced_at bytes ++ (a ++ n) = front-all bytes (take announced_at bytes ++ a ++ n) _ private_at f₃ (omega arith) ∙ append_assoc (take announced_at bytes) a n in
    let long = length-append (take announced_at bytes) (a ++ n) in
    let two : length (take announced_at bytes) ≡ announced_at = length-take-le announced_at bytes (omega arith) in
    ap (λ (l : List ℕ). sets l counter_at c) filled
    ∙ sets-eq c (take announced_at bytes ++ (a ++ n)) counter_at (omega arith)
    ∙ ap (λ (l : List ℕ). c ++ l) (drop_at (take announced_at bytes) (a ++ n) announced_at two ∙ ap₂ (λ (l m : List ℕ). l ++ m) pa pn)

-- where a place of a setting is found, counted from the auxiliary bytes on
abbrev behind : ℕ → ℕ
behind k = k - auxiliary_at

-- the bytes of a setting behind its private ones: the auxiliary bytes and the bonding fields
pub setting_end : (s : Setting) (bytes x : List ℕ) → length bytes ≡ setting_from auxiliary_at → length x ≡ auxiliary_bytes → x ≡ s.auxiliary
    → set (set (set (set (set (put 0 auxiliary_bytes bytes x) (behind group_at) s.group_id) (behind carriers_at) s.number_of_carriers) (behind sequence_at) s.carrier_sequence) (behind frames_at) s.number_of_frames) (behind position_at) s.frame_position.0
    ≡ s.auxiliary ++ (s.group_id ∷ s.number_of_carriers ∷ s.carrier_sequence ∷ s.number_of_frames ∷ s.frame_position.0 ∷ [])
setting_end s bytes x whole lx px =
    let f₁ = front-part bytes [] bytes x 0 auxiliary_bytes (front_none bytes) lx in
    let f₂ = front-more bytes x _ (behind group_at) s.group_id f₁ (omega arith) in
    let f₃ = front-more bytes _ _ (behind carriers_at) s.number_of_carriers f₂ (omega arith) in
    let f₄ = front-more bytes _ _ (behind sequence_at) s.carrier_sequence f₃ (omega arith) in
    let f₅ = front-more bytes _ _ (behind frames_at) s.number_of_frames f₄ (omega arith) in
    let f₆ = front-more bytes _ _ (behind position_at) s.frame_position.0 f₅ (omega arith) in
    front-all bytes _ _ (behind setting_length) f₆ (omega arith) ∙ simp append_assoc (rw px refl)

-- how five parts are bracketed
five : (c a n p b : List ℕ) → (c ++ (a ++ n)) ++ p ++ b ≡ c ++ (a ++ (n ++ (p ++ b)))
five c a n p b = simp append_assoc refl

-- a setting: its front, its private bytes and its back, filled one after the other
pub setting_parts : (s : Setting) (bytes f p b : List ℕ) → length bytes ≡ setting_length → length f ≡ private_at → length p ≡ private_bytes → length b ≡ setting_from auxiliary_at
    → f ≡ (s.continuity_counter ∷ s.version_number ∷ []) ++ (announced_bytes (announced s) ++ s.relative_ts_number)
    → p ≡ s.private_data
    → b ≡ s.auxiliary ++ (s.group_id ∷ s.number_of_carriers ∷ s.carrier_sequence ∷ s.number_of_frames ∷ s.frame_position.0 ∷ [])
    → put auxiliary_at (setting_from auxiliary_at) (put private_at private_bytes (put 0 private_at bytes f) p) b ≡ setting_bytes s
unfolding setting_bytes
setting_parts s bytes f p b whole lf lp lb pf pp pb =
    let f₁ = front-part bytes [] bytes f 0 private_at (front_none bytes) lf in
    let f₂ = front-part bytes f _ p private_at private_bytes f₁ lp in
    let f₃ = front-part bytes (f ++ p) _ b auxiliary_at (setting_from auxiliary_at) f₂ lb in
    front-all bytes (f ++ p ++ b) _ setting_length f₃ (omega arith) ∙ ap₂ (λ (l m : List ℕ). l ++ m) (ap₂ (λ (l m : List ℕ). l ++ m) pf pp) pb
    ∙ five (s.continuity_counter ∷ s.version_number ∷ []) (announced_bytes (announced s)) s.relative_ts_number s.private_data
    (s.auxiliary ++ (s.group_id ∷ s.number_of_carriers ∷ s.carrier_sequence ∷ s.number_of_frames ∷ s.frame_position.0 ∷ []))

-- a setting read: what its bytes announce, and three parts copied over zeros
pub setting_of-read : (b n p x : List ℕ) (a : Announced) → length b ≡ setting_length
    → a ≡ announced_of (part announced_at announced_length b)
    → n ≡ copied (replicate last_slot 0) (part numbers_at last_slot b)
    → p ≡ copied (replicate private_bytes 0) (part private_at private_bytes b)
    → x ≡ copied (replicate auxiliary_bytes 0) (part auxiliary_at auxiliary_bytes b)
    → setting_of b
    ≡ record {
      continuity_counter = get_or b counter_at 0;
      version_number = get_or b version_at 0;
      slot_allocation_type = a.slot_allocation_type;
      frame_type = a.frame_type;
      availability = a.availability;
      ts_id = a.ts_id;
      original_network_id = a.original_network_id;
      receive_status = a.receive_status;
      emergency_indicator = a.emergency_indicator;
      relative_ts_number = n;
      private_data = p;
      auxiliary = x;
      group_id = get_or b group_at 0;
      number_of_carriers = get_or b carriers_at 0;
      carrier_sequence = get_or b sequence_at 0;
      number_of_frames = get_or b frames_at 0;
      frame_position = record { 0 = get_or b position_at 0 };
    }
unfolding setting_of
setting_of-read b n p x a whole pa pn pp px =
    rw (
      eq-eqb (length b) setting_length whole,
      pa,
      pn ∙ copied-part last_slot numbers_at b (omega arith),
      pp ∙ copied-part private_bytes private_at b (omega arith),
      px ∙ copied-part auxiliary_bytes auxiliary_at b (omega arith),
    ) refl
