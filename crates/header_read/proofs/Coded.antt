-- What a packet says, as the bytes of a setting: how long its lists are, and its bytes written part by part. Assumes nothing.
use Prim.Native.Nat.{ℕ, ◌+◌, ◌-◌, ◌*◌, ◌/◌, ◌%◌}
use mathlib.Core.Path.{◌≡◌, sym, ap, ap₂, ◌∙◌}
use mathlib.Core.List.{List, [], ◌∷◌, ◌++◌, append_assoc}
use native.Mathlib.Omega.{arith}
use lib.ListN.{length, get_or, take, drop, set, length-append, length-replicate}
use lib.Seq.{drop_at, drop-drop, length-take-le, sets, sets-eq}
use Rattle.bits.specs.Fields.{Fit, run, cut}
use Rattle.bits.proofs.Laws.{length_cut}
use Rattle.slices.proofs.Front.{drop-take, put, front_none, front_kept, front-part, front-more, front-all}
use Rattle.counters.specs.Counters.{last_stream, last_slot}
use Rattle.setting.specs.declared.Kind.{Kind}
use Rattle.setting.specs.declared.Setting.{Setting}
use Rattle.setting.specs.Setting.{private_bytes, auxiliary_bytes}
use Rattle.setting.specs.Announcing.{announced}
use Rattle.setting.specs.Size.{size_of, streams_of, resized}
use Rattle.setting.proofs.Sizes.{sized, length-resized}
use Rattle.setting_pairs.specs.Identifiers.{ids_apart}
use Rattle.setting_bytes.specs.Words.{word_bytes}
use Rattle.setting_bytes.specs.Settings.{slot_type_at, ts_id_at, network_id_at, statuses_at, emergency_at, announced_length, announced_bytes}
use Rattle.setting_bytes.specs.Settings.{counter_at, announced_at, numbers_at, private_at, auxiliary_at, group_at, carriers_at, sequence_at, frames_at, position_at, setting_length, setting_bytes}
use Rattle.setting_bytes.proofs.Parts.{Long, streams as streams-long, announced_parts}
use Rattle.header_layout.specs.Rows.{row_at}
use Rattle.header_layout.specs.Layout.{identifiers_start, control_start, numbers_start, private_start}
use Rattle.header_layout.specs.Header.{header_length, reading}
use Rattle.header_layout.proofs.LaidOut.{laid_out}
use Rattle.header_layout.proofs.Said.{fields_are, status, privates_are}
use Rattle.header_check.proofs.Identifiers.{ts_ids_in, network_ids_in}

-- how long the lists are that a packet says
length_auxiliary : (kind : Kind) (p : List ℕ) → length (reading kind p).auxiliary ≡ auxiliary_bytes
unfolding reading laid_out row_at
length_auxiliary Kind.Plain p = length-replicate {A = ℕ} auxiliary_bytes 0
length_auxiliary Kind.Short p = length-replicate {A = ℕ} auxiliary_bytes 0
length_auxiliary Kind.Extended p = length_cut 8 auxiliary_bytes _

pub reading-long : (kind : Kind) (p : List ℕ) → Long (reading kind p)
unfolding reading
reading-long kind p =
    record {
      ts_ids = length-resized last_stream _;
      network_id = length-resized last_stream _;
      statuses = length-resized last_stream _;
      numbers = length-resized last_slot _;
      privates = length-resized private_bytes _;
      auxiliaries = length_auxiliary kind p;
    }

-- the version stands in the same place in every kind
pub version_is : (kind : Kind) (p : List ℕ) → Fit 8 p → length p ≡ header_length → get_or p 6 0 / 32 ≡ (reading kind p).version_number
version_is kind p fit whole = (fields_are p fit whole kind).1

-- the identifiers and the statuses, as they are cut from the packet's parts
module _ (kind : Kind) (p : List ℕ) (fit : Fit 8 p) (whole : length p ≡ header_length) where
  pub ts_read : resized last_stream (ids_apart 4 (streams_of kind) (take (control_start (size_of kind) - identifiers_start (size_of kind)) (drop (identifiers_start (size_of kind)) p))) ≡ (reading kind p).ts_id
  ts_read =
      let span : control_start (size_of kind) - identifiers_start (size_of kind) ≡ 4 * streams_of kind = omega arith in
      ap (λ (n : ℕ). resized last_stream (ids_apart 4 (streams_of kind) (take n (drop (identifiers_start (size_of kind)) p)))) span ∙ ts_ids_in kind p fit whole

  pub networks_read : resized last_stream (ids_apart 4 (streams_of kind) (take (control_start (size_of kind) - (identifiers_start (size_of kind) + 2)) (drop (identifiers_start (size_of kind) + 2) p))) ≡ (reading kind p).original_network_id
  networks_read =
      let n = streams_of kind in
      let at = identifiers_start (size_of kind) in
      let bytes = (sized kind).stream_bytes in
      let span : control_start (size_of kind) - (at + 2) ≡ 4 * n - 2 = omega arith in
      let both : 2 + (4 * n - 2) ≡ 4 * n = omega arith in
      ap (λ (k : ℕ). resized last_stream (ids_apart 4 n (take k (drop (at + 2) p)))) span
      ∙ ap (λ (l : List ℕ). resized last_stream (ids_apart 4 n l))
      (sym (ap (λ (k : ℕ). drop 2 (take k (drop at p))) (sym both) ∙ drop-take 2 (4 * n - 2) (drop at p) ∙ ap (take (4 * n - 2)) (drop-drop 2 at p)))
      ∙ network_ids_in kind p fit whole

  pub statuses_read : resized last_stream (cut 2 (streams_of kind) (run 8 (take (numbers_start (size_of kind) - control_start (size_of kind)) (drop (control_start (size_of kind)) p)))) ≡ (reading kind p).receive_status
  unfolding reading
  statuses_read =
      let span : numbers_start (size_of kind) - control_start (size_of kind) ≡ (streams_of kind + 1) / 4 = omega arith in
      ap (λ (n : ℕ). resized last_stream (cut 2 (streams_of kind) (run 8 (take n (drop (control_start (size_of kind)) p))))) span ∙ ap (resized last_stream) (status p fit whole kind)

-- what a packet announces, written one part behind the other: slot information, identifiers, statuses and the emergency bit
pub announced-written : (kind : Kind) (p bytes t o r : List ℕ) (streams emergency : ℕ) → Fit 8 p → length p ≡ header_length → length bytes ≡ announced_length
    → streams ≡ (reading kind p).availability
    → t ≡ word_bytes (reading kind p).ts_id
    → o ≡ word_bytes (reading kind p).original_network_id
    → r ≡ (reading kind p).receive_status
    → emergency ≡ (reading kind p).emergency_indicator
    → set (put statuses_at last_stream (put network_id_at (2 * last_stream) (put ts_id_at (2 * last_stream)
    (sets bytes slot_type_at (get_or p 6 0 / 16 % 2 ∷ get_or p 6 0 % 16 ∷ streams / 256 ∷ streams % 256 ∷ [])) t) o) r) emergency_at emergency
    ≡ announced_bytes (announced (reading kind p))
unfolding announced word_bytes
announced-written kind p bytes t o r streams emergency fit whole long ps pt po pr pe =
    let s = reading kind p in
    let fields = fields_are p fit whole kind in
    let i : List ℕ = get_or p 6 0 / 16 % 2 ∷ get_or p 6 0 % 16 ∷ streams / 256 ∷ streams % 256 ∷ [] in
    ap₂ (λ (l : List ℕ) (e : ℕ). set (put statuses_at last_stream (put network_id_at (2 * last_stream) (put ts_id_at (2 * last_stream) l t) o) r) emergency_at e)
    (sets-eq i bytes slot_type_at (omega arith)) pe
    ∙ announced_parts (announced s) bytes i t o r long (streams-long s (reading-long kind p))
    (λ j. fields.2 j ∷ fields.3 j ∷ ps j / 256 ∷ ps j % 256 ∷ []) pt po pr

-- the private data: an extended header has none
pub privates_by : (kind : Kind) (p : List ℕ) → Fit 8 p → length p ≡ header_length
    → resized private_bytes (take (size_of kind).private_bytes (drop (private_start (size_of kind)) p)) ≡ (reading kind p).private_data
unfolding size_of
privates_by Kind.Plain p fit whole = privates_are p fit whole Kind.Plain
privates_by Kind.Extended p fit whole = privates_are p fit whole Kind.Extended
privates_by Kind.Short p fit whole = privates_are p fit whole Kind.Short

-- how the bytes of a setting are bracketed
regrouped : (c a n d x : List ℕ) (g k q f w : ℕ)
    → c ++ a ++ n ++ d ++ x ++ (g ∷ []) ++ (k ∷ []) ++ (q ∷ []) ++ (f ∷ []) ++ (w ∷ []) ≡ c ++ (a ++ (n ++ (d ++ (x ++ (g ∷ k ∷ q ∷ f ∷ w ∷ [])))))
regrouped c a n d x g k q f w = simp append_assoc

-- the bytes of a setting: those behind the first two written one part behind the other, then the first two
pub setting_written : (s : Setting) (bytes a n d x : List ℕ) (c v g k q f w : ℕ)
    → length bytes ≡ setting_length → length a ≡ announced_length → length n ≡ last_slot → length d ≡ private_bytes → length x ≡ auxiliary_bytes
    → a ≡ announced_bytes (announced s)
    → n ≡ s.relative_ts_number
    → d ≡ s.private_data
    → x ≡ s.auxiliary
    → g ∷ k ∷ q ∷ f ∷ w ∷ [] ≡ s.group_id ∷ s.number_of_carriers ∷ s.carrier_sequence ∷ s.number_of_frames ∷ s.frame_position.0 ∷ []
    → c ∷ v ∷ [] ≡ s.continuity_counter ∷ s.version_number ∷ []
    → sets (sets (put auxiliary_at auxiliary_bytes (put private_at private_bytes (put numbers_at last_slot (put announced_at announced_length bytes a) n) d) x) group_at (g ∷ k ∷ q ∷ f ∷ w ∷ [])) counter_at (c ∷ v ∷ [])
    ≡ setting_bytes s
unfolding setting_bytes
setting_written s bytes a n d x c v g k q f w whole la ln ld lx pa pn pd px pb pc =
    let two : List ℕ = take announced_at bytes in
    let rest : List ℕ = a ++ (n ++ (d ++ (x ++ (g ∷ k ∷ q ∷ f ∷ w ∷ [])))) in
    let f₁ = front_kept bytes [] bytes 0 announced_at (front_none bytes) (omega arith) in
    let f₂ = front-part bytes two _ a announced_at announced_length f₁ la in
    let f₃ = front-part bytes _ _ n numbers_at last_slot f₂ ln in
    let f₄ = front-part bytes _ _ d private_at private_bytes f₃ ld in
    let f₅ = front-part bytes _ _ x auxiliary_at auxiliary_bytes f₄ lx in
    let f₆ = front-more bytes _ _ group_at g f₅ (omega arith) in
    let f₇ = front-more bytes _ _ carriers_at k f₆ (omega arith) in
    let f₈ = front-more bytes _ _ sequence_at q f₇ (omega arith) in
    let f₉ = front-more bytes _ _ frames_at f f₈ (omega arith) in
    let f₁₀ = front-more bytes _ _ position_at w f₉ (omega arith) in
    let l₂ : length two ≡ announced_at = length-take-le announced_at bytes (omega arith) in
    let l = length-append two rest in
    ap (λ (b : List ℕ). sets b counter_at (c ∷ v ∷ [])) (front-all bytes _ _ setting_length f₁₀ (omega arith) ∙ regrouped two a n d x g k q f w)
    ∙ sets-eq (c ∷ v ∷ []) (two ++ rest) counter_at (omega arith)
    ∙ ap (λ (b : List ℕ). (c ∷ v ∷ []) ++ b) (drop_at two rest announced_at l₂)
    ∙ (λ i. pc i ++ (pa i ++ (pn i ++ (pd i ++ (px i ++ pb i)))))
