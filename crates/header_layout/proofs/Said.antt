-- What a packet says, as byte-wise code reads it. Assumes nothing.
use Prim.Native.Nat.{ℕ, ◌+◌, ◌-◌, ◌*◌, ◌/◌, ◌%◌, ◌^◌, ◌≤◌, ◌<◌}
use mathlib.Core.Path.{◌≡◌, refl, sym, ap, ◌∙◌, subst}
use mathlib.Core.List.{List, []}
use native.Mathlib.Omega.{arith}
use lib.ListN.{length, get_or, take, drop, replicate}
use lib.Pow.{shr_mod}
use Rattle.bits.specs.Fields.{Fit, number, run, cut}
use Rattle.bits.proofs.Laws.{fit_get_d}
use Rattle.counters.specs.Counters.{last_slot, last_stream}
use Rattle.setting.specs.declared.Kind.{Kind}
use Rattle.setting.specs.Setting.{private_bytes, auxiliary_bytes}
use Rattle.setting.specs.Size.{size_of, slots_of, streams_of, resized}
use Rattle.setting.specs.Rules.{by_kind}
use Rattle.setting.proofs.Sizes.{sized}
use Rattle.header_layout.specs.Rows.{place, row_at}
use Rattle.header_layout.specs.Layout.{Field, private_table, identifiers_start, control_start, numbers_start, private_start}
use Rattle.header_layout.specs.Header.{header_length, streams_beyond, values, reading}
use Rattle.header_layout.proofs.Cut.{byte_field, word_field, word_at, part-row, byte_row}
use Rattle.header_layout.proofs.LaidOut.{laid_out, identifiers-place, statuses-place, emergency_place, numbers_place, private_before}

-- the bonding fields, as numbers
abbrev pub Bonding : Kind → List ℕ → ℕ → ℕ → ℕ → ℕ → ℕ → Type 0
Bonding kind p group carriers sequence frames position =
    (group ≡ (reading kind p).group_id) × ((carriers ≡ (reading kind p).number_of_carriers)
    × ((sequence ≡ (reading kind p).carrier_sequence) × ((frames ≡ (reading kind p).number_of_frames)
    × (position ≡ (reading kind p).frame_position.0))))

-- a plain header and a short one have none
pub no_bonding : (p : List ℕ) {kind : Kind} → kind ≡ Kind.Plain → Bonding kind p 0 0 0 0 0
unfolding reading
no_bonding p e = subst (λ (k : Kind). Bonding k p 0 0 0 0 0) (sym e) (refl, (refl, (refl, (refl, refl))))

pub no_bonding_short : (p : List ℕ) {kind : Kind} → kind ≡ Kind.Short → Bonding kind p 0 0 0 0 0
unfolding reading
no_bonding_short p e = subst (λ (k : Kind). Bonding k p 0 0 0 0 0) (sym e) (refl, (refl, (refl, (refl, refl))))

module _ (p : List ℕ) (f : Fit 8 p) (h : length p ≡ header_length) where
  -- the bonding fields of an extended header
  extended : Bonding Kind.Extended p (get_or p 127 0) (get_or p 128 0) (get_or p 129 0) (get_or p 130 0 / 16) (get_or p 130 0 % 16)
  unfolding reading laid_out row_at place cut size_of
  extended = (
    sym (byte_field p 127 0 8 0 (omega arith) refl ∙ omega (arith, fit_get_d f 127)),
    (
      sym (byte_field p 128 0 8 0 (omega arith) refl ∙ omega (arith, fit_get_d f 128)),
      (
        sym (byte_field p 129 0 8 0 (omega arith) refl ∙ omega (arith, fit_get_d f 129)),
        (sym (byte_field p 130 0 4 4 (omega arith) refl ∙ omega (arith, fit_get_d f 130)), sym (byte_field p 130 4 4 0 (omega arith) refl ∙ omega arith)),
      ),
    ),
  )

  pub bonding_are : {kind : Kind} → kind ≡ Kind.Extended
      → Bonding kind p (get_or p 127 0) (get_or p 128 0) (get_or p 129 0) (get_or p 130 0 / 16) (get_or p 130 0 % 16)
  bonding_are e =
      subst (λ (k : Kind). Bonding k p (get_or p 127 0) (get_or p 128 0) (get_or p 129 0) (get_or p 130 0 / 16) (get_or p 130 0 % 16)) (sym e) extended

  -- the fields of a few bits that stand in the same place in every size
  pub fields_are : (kind : Kind) → (get_or p 3 0 % 16 ≡ (reading kind p).continuity_counter)
      × (get_or p 6 0 / 32 ≡ (reading kind p).version_number)
      × (get_or p 6 0 / 16 % 2 ≡ (reading kind p).slot_allocation_type)
      × (get_or p 6 0 % 16 ≡ (reading kind p).frame_type)
  unfolding reading laid_out row_at place cut
  fields_are kind = (
    sym (byte_field p 3 4 4 0 (omega arith) refl ∙ omega arith),
    sym (byte_field p 6 0 3 5 (omega arith) refl ∙ omega (arith, fit_get_d f 6)),
    sym (byte_field p 6 3 1 4 (omega arith) refl),
    sym (byte_field p 6 4 4 0 (omega arith) refl ∙ omega arith),
  )

  -- the availability: the first bits of bytes 7 and 8, one for each stream
  pub streams_are : (kind : Kind) → word_at p 7 / 2 ^ (16 - streams_of kind) * 2 ^ streams_beyond (size_of kind) ≡ (reading kind p).availability
  unfolding reading laid_out row_at place cut
  streams_are kind =
      let n = streams_of kind in
      let few : n ≤ last_stream = (sized kind).streams in
      let all : 16 ≡ n + (16 - n) = omega arith in
      let word : word_at p 7 < 2 ^ (n + (16 - n)) = subst (λ (w : ℕ). word_at p 7 < 2 ^ w) all (omega (arith, fit_get_d f 7, fit_get_d f 8)) in
      ap (λ (v : ℕ). v * 2 ^ streams_beyond (size_of kind))
      (sym (word_field p 7 0 n (16 - n) f (omega arith) (omega arith) ∙ shr_mod n (16 - n) word))

  -- the parts behind it, each at its place in bytes
  module _ (kind : Kind) where
    -- they end before the CRC
    ends : private_start (size_of kind) ≤ 184
    ends = private_before kind

    pub identifiers : cut 16 (2 * streams_of kind) (run 8 (take (4 * streams_of kind) (drop (identifiers_start (size_of kind)) p))) ≡ values kind p Field.identifiers
    unfolding laid_out row_at
    identifiers =
        let n = streams_of kind in
        let before : identifiers_start (size_of kind) + 4 * n ≤ length p = let e = ends in omega arith in
        part-row p (identifiers_start (size_of kind)) (4 * n) 16 (2 * n) before (omega arith)
        ∙ ap (λ (at : ℕ). cut 16 (2 * n) (drop at (run 8 p))) (sym (identifiers-place (size_of kind) (private_table kind) (sized kind)))

    pub status : cut 2 (streams_of kind) (run 8 (take ((streams_of kind + 1) / 4) (drop (control_start (size_of kind)) p))) ≡ values kind p Field.statuses
    unfolding laid_out row_at
    status =
        let n = streams_of kind in
        let whole = (sized kind).stream_bytes in
        let before : control_start (size_of kind) + (n + 1) / 4 ≤ length p = let e = ends in omega arith in
        part-row p (control_start (size_of kind)) ((n + 1) / 4) 2 n before (omega arith)
        ∙ ap (λ (at : ℕ). cut 2 n (drop at (run 8 p))) (sym (statuses-place (size_of kind) (private_table kind) (sized kind)))

    pub emergency_is : get_or p (numbers_start (size_of kind) - 1) 0 % 2 ≡ (reading kind p).emergency_indicator
    unfolding reading laid_out row_at cut
    emergency_is =
        let at = numbers_start (size_of kind) - 1 in
        let before : at < length p = let e = ends in omega arith in
        sym (ap (λ (m : ℕ). number (take 1 (drop m (run 8 p)))) (emergency_place (size_of kind) (private_table kind) (sized kind))
        ∙ byte_field p at 7 1 0 before refl ∙ omega arith)

    pub numbers_are : resized last_slot (cut (size_of kind).number_bits (slots_of kind) (run 8 (take (slots_of kind * (size_of kind).number_bits / 8) (drop (numbers_start (size_of kind)) p))))
        ≡ (reading kind p).relative_ts_number
    unfolding reading laid_out row_at
    numbers_are =
        let w = (size_of kind).number_bits in
        let n = slots_of kind in
        let whole : n * w / 8 * 8 ≡ n * w = (sized kind).number-bytes in
        let before : numbers_start (size_of kind) + n * w / 8 ≤ length p = let e = ends in omega arith in
        ap (resized last_slot)
        (part-row p (numbers_start (size_of kind)) (n * w / 8) w n before (omega arith)
        ∙ ap (λ (at : ℕ). cut w n (drop at (run 8 p))) (sym (numbers_place (size_of kind) (private_table kind) (sized kind))))

  -- the private data by kind, and the auxiliary information
  pub privates_are : (kind : Kind)
      → resized private_bytes (by_kind kind (take (size_of kind).private_bytes (drop (private_start (size_of kind)) p)) []) ≡ (reading kind p).private_data
  unfolding reading laid_out row_at place size_of
  privates_are Kind.Plain = ap (resized private_bytes) (byte_row p 99 85 f (omega arith))
  privates_are Kind.Extended = refl
  privates_are Kind.Short = ap (resized private_bytes) (byte_row p 53 131 f (omega arith))

  pub auxiliaries_are : (kind : Kind) → by_kind kind (replicate auxiliary_bytes 0) (take auxiliary_bytes (drop (private_start (size_of kind)) p)) ≡ (reading kind p).auxiliary
  unfolding reading laid_out row_at place size_of
  auxiliaries_are Kind.Plain = refl
  auxiliaries_are Kind.Short = refl
  auxiliaries_are Kind.Extended = byte_row p 99 28 f (omega arith)
