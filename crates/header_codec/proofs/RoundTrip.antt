-- A setting that meets the rules is written, and read back equal. Assumes nothing.
use Prim.Native.Nat.{ℕ, ◌+◌, ◌*◌, ◌/◌, ◌^◌, ◌≤◌, ◌<◌}
use mathlib.Core.Path.{◌≡◌, refl, sym, ap, ap₂, ◌∙◌, subst}
use mathlib.Core.Bool.{Bool, true, false, cond, not, ◌&&◌}
use mathlib.Core.List.{List, [], ◌∷◌}
use native.Mathlib.Omega.{arith}
use native.Mathlib.Nat.{suc_inj, add-zero}
use lib.Arith.{lt-one}
use lib.Dec.{lit<, leb, eqb}
use lib.ListN.{length, get_or, drop, replicate}
use lib.Pow.{split}
use borrow.Author.Tests.{leb-false, eq-eqb}
use Rattle.bits.specs.Fields.{Fit}
use Rattle.slices.specs.Slices.{some_at_least}
use Rattle.slices.proofs.Differing.{differs_nowhere}
use Rattle.crc.specs.Crc.{register_of}
use Rattle.setting.specs.declared.Kind.{Kind}
use Rattle.setting.specs.declared.Setting.{Setting}
use Rattle.counters.specs.Counters.{last_slot, last_stream}
use Rattle.setting.specs.Setting.{private_bytes, auxiliary_bytes, blank, OfItsTypes}
use Rattle.setting.specs.Size.{size_of, slots_of, streams_of, resized}
use Rattle.setting.specs.Refusal.{NoneHolds, none, more}
use Rattle.setting.specs.Rules.{width_checks, absent_checks, rule_checks}
use Rattle.setting.proofs.Fields.{fit_some, Narrow, narrow as narrow-of}
use Rattle.setting.proofs.Sizes.{sized, length-resized, resized_back}
use Rattle.setting.proofs.Refusals.{first_none, none_at, none_append, none_before, none_behind}
use Rattle.header_read.specs.Reader.{Reading}
use Rattle.header_layout.specs.Rows.{place, row_at}
use Rattle.header_layout.specs.Layout.{Field, table, layout, row_with, reserved_from}
use Rattle.header_layout.specs.Header.{paired, firsts, seconds, all_ones, streams_beyond, content, header_length, header, values, value, reading, packet_checks, zero_check, reserved_checks}
use Rattle.header_write.specs.Writing.{written}
use Rattle.header_check.specs.Checking.{read_checks, read_refusal, refusal_by}
use Rattle.header_read.specs.Reader.{read_of}
use Rattle.header_layout.specs.Meets.{MeetsRules}
use Rattle.header_codec.specs.Demands.{WrittenAndReadBack}
use Rattle.header_layout.proofs.Rows.{row_of}
use Rattle.header_layout.proofs.LaidOut.{laid_out}
use Rattle.header_write.proofs.Calls.{not_refused}
use Rattle.header_layout.proofs.Content.{suits}
use Rattle.header_layout.proofs.Whole.{length-header, row-header, register_header}

-- ---- what was put into a row, taken out again

firsts-paired : (ts os : List ℕ) → length ts ≡ length os → firsts (paired ts os) ≡ ts
unfolding firsts paired
firsts-paired [] os e = refl
firsts-paired (t ∷ ts) [] e = absurd (omega arith)
firsts-paired (t ∷ ts) (o ∷ os) e = ap (λ (l : List ℕ). t ∷ l) (firsts-paired ts os (suc_inj e))

seconds-paired : (ts os : List ℕ) → length ts ≡ length os → seconds (paired ts os) ≡ os
unfolding seconds paired
seconds-paired [] [] e = refl
seconds-paired [] (o ∷ os) e = absurd (omega arith)
seconds-paired (t ∷ ts) [] e = absurd (omega arith)
seconds-paired (t ∷ ts) (o ∷ os) e = ap (λ (l : List ℕ). o ∷ l) (seconds-paired ts os (suc_inj e))

-- what fits in no bits is zero
absent : (n : ℕ) → leb (2 ^ 0) n ≡ false → 0 ≡ n
absent n e = sym (lt-one (leb-false 1 n e))

zeros : {xs : List ℕ} → Fit 0 xs → replicate (length xs) 0 ≡ xs
zeros Fit.none = refl
zeros (Fit.more h f) = ap₂ (λ (x : ℕ) (xs : List ℕ). x ∷ xs) (sym (lt-one h)) (zeros f)

absent_list : (n : ℕ) (xs : List ℕ) → length xs ≡ n → some_at_least (2 ^ 0) xs ≡ false → replicate n 0 ≡ xs
absent_list n xs e h = ap (λ (k : ℕ). replicate k 0) (sym e) ∙ zeros (fit_some 0 xs h)

-- two settings agree in the parts that the kinds differ in
record SamePrivate (r s : Setting) : Type 0 where
  privates : r.private_data ≡ s.private_data
  auxiliaries : r.auxiliary ≡ s.auxiliary
  group : r.group_id ≡ s.group_id
  carriers : r.number_of_carriers ≡ s.number_of_carriers
  sequence : r.carrier_sequence ≡ s.carrier_sequence
  frames : r.number_of_frames ≡ s.number_of_frames
  position : r.frame_position.0 ≡ s.frame_position.0

module _ (kind : Kind) (pid : ℕ) (s : Setting) (t : OfItsTypes s) (m : MeetsRules kind pid s) where
  -- the values in the row that holds a field, and the one value
  row_back : (f : Field) → row_with f (table kind) < length (layout kind)
      → values kind (header kind pid s) f ≡ get_or (content kind pid s) (row_with f (table kind)) []
  row_back f h = row-header kind pid s (suits kind pid s t m) (row_with f (table kind)) h

  value_back : (f : Field) → row_with f (table kind) < length (layout kind)
      → value kind (header kind pid s) f ≡ get_or (get_or (content kind pid s) (row_with f (table kind)) []) 0 0
  value_back f h = ap (λ (l : List ℕ). get_or l 0 0) (row_back f h)

  reading_back : SamePrivate (reading kind (header kind pid s)) s → reading kind (header kind pid s) ≡ s
  unfolding laid_out reading
  reading_back private =
      λ i. record {
        continuity_counter = value_back Field.counter (omega arith) i;
        version_number = value_back Field.version (omega arith) i;
        slot_allocation_type = value_back Field.slot_type (omega arith) i;
        frame_type = value_back Field.frame_type_field (omega arith) i;
        availability = (ap (λ (v : ℕ). v * 2 ^ streams_beyond (size_of kind)) (value_back Field.streams (omega arith)) ∙ streams-whole) i;
        ts_id = (ap (λ (l : List ℕ). resized last_stream (firsts l)) (row_back Field.identifiers (omega arith)) ∙ ap (resized last_stream) (firsts-paired (resized n s.ts_id) (resized n s.original_network_id) same_count) ∙ resized_back n last_stream s.ts_id t.ts_ids.0 few narrow.ts_behind) i;
        original_network_id = (ap (λ (l : List ℕ). resized last_stream (seconds l)) (row_back Field.identifiers (omega arith)) ∙ ap (resized last_stream) (seconds-paired (resized n s.ts_id) (resized n s.original_network_id) same_count) ∙ resized_back n last_stream s.original_network_id t.network_id.0 few narrow.network_behind) i;
        receive_status = (ap (resized last_stream) (row_back Field.statuses (omega arith)) ∙ resized_back n last_stream s.receive_status t.statuses.0 few narrow.statuses-behind) i;
        emergency_indicator = value_back Field.emergency (omega arith) i;
        relative_ts_number = (ap (resized last_slot) (row_back Field.numbers (omega arith)) ∙ resized_back (slots_of kind) last_slot s.relative_ts_number t.numbers.0 (sized kind).slots narrow.numbers_behind) i;
        private_data = private.privates i;
        auxiliary = private.auxiliaries i;
        group_id = private.group i;
        number_of_carriers = private.carriers i;
        carrier_sequence = private.sequence i;
        number_of_frames = private.frames i;
        frame_position = record { 0 = private.position i };
      }
    where
      n : ℕ
      n = streams_of kind

      few : streams_of kind ≤ last_stream
      few = (sized kind).streams

      narrow : Narrow kind s
      narrow = narrow-of kind (none_before (width_checks kind s) (rule_checks kind s) m.fields)

      same_count : length (resized n s.ts_id) ≡ length (resized n s.original_network_id)
      same_count = length-resized n s.ts_id ∙ sym (length-resized n s.original_network_id)

      -- the streams beyond the size are not available, so no bit is lost
      streams-whole : s.availability / 2 ^ streams_beyond (size_of kind) * 2 ^ streams_beyond (size_of kind) ≡ s.availability
      streams-whole =
          let rest = narrow.streams-behind in
          let all = split s.availability (streams_beyond (size_of kind)) in
          sym (add-zero _) ∙ ap (λ (r : ℕ). s.availability / 2 ^ streams_beyond (size_of kind) * 2 ^ streams_beyond (size_of kind) + r) (sym rest) ∙ all

private_back : (kind : Kind) (pid : ℕ) (s : Setting) → OfItsTypes s → MeetsRules kind pid s → SamePrivate (reading kind (header kind pid s)) s
unfolding laid_out reading width_checks absent_checks resized size_of
private_back Kind.Plain pid s t m =
    record {
      privates =
          ap (resized private_bytes) (row_back Kind.Plain pid s t m Field.privates (lit< tt))
          ∙ resized_back (size_of Kind.Plain).private_bytes private_bytes s.private_data t.privates.0 (sized Kind.Plain).privates (none_at m.fields 13);
      auxiliaries = absent_list auxiliary_bytes s.auxiliary t.auxiliaries.0 (none_at m.fields 14);
      group = absent s.group_id (none_at m.fields 15);
      carriers = absent s.number_of_carriers (none_at m.fields 16);
      sequence = absent s.carrier_sequence (none_at m.fields 17);
      frames = absent s.number_of_frames (none_at m.fields 18);
      position = absent s.frame_position.0 (none_at m.fields 19);
    }
private_back Kind.Short pid s t m =
    record {
      privates =
          ap (resized private_bytes) (row_back Kind.Short pid s t m Field.privates (lit< tt))
          ∙ resized_back (size_of Kind.Short).private_bytes private_bytes s.private_data t.privates.0 (sized Kind.Short).privates (none_at m.fields 13);
      auxiliaries = absent_list auxiliary_bytes s.auxiliary t.auxiliaries.0 (none_at m.fields 14);
      group = absent s.group_id (none_at m.fields 15);
      carriers = absent s.number_of_carriers (none_at m.fields 16);
      sequence = absent s.carrier_sequence (none_at m.fields 17);
      frames = absent s.number_of_frames (none_at m.fields 18);
      position = absent s.frame_position.0 (none_at m.fields 19);
    }
private_back Kind.Extended pid s t m =
    record {
      privates = resized_back (size_of Kind.Extended).private_bytes private_bytes s.private_data t.privates.0 (sized Kind.Extended).privates (none_at m.fields 13);
      auxiliaries = row_back Kind.Extended pid s t m Field.auxiliary (lit< tt);
      group = value_back Kind.Extended pid s t m Field.group (lit< tt);
      carriers = value_back Kind.Extended pid s t m Field.carriers (lit< tt);
      sequence = value_back Kind.Extended pid s t m Field.sequence (lit< tt);
      frames = value_back Kind.Extended pid s t m Field.frames (lit< tt);
      position = value_back Kind.Extended pid s t m Field.position (lit< tt);
    }

-- ---- the answers

module _ (kind : Kind) (pid : ℕ) (s : Setting) (t : OfItsTypes s) (m : MeetsRules kind pid s) where
  same : reading kind (header kind pid s) ≡ s
  same = reading_back kind pid s t m (private_back kind pid s t m)

  packet_none : NoneHolds (packet_checks pid (header kind pid s))
  unfolding laid_out packet_checks row_at place
  packet_none =
      more (ap not (shown Field.sync_byte_field (omega arith)))
      (more (ap not (shown Field.header-pid (omega arith)))
      (more (ap₂ (λ (x y : Bool). not (x && y)) (shown Field.zeros (omega arith)) (shown Field.payload (omega arith)))
      (more (ap not (shown Field.tsmf_sync_field (omega arith)))
      (more (ap not (eq-eqb (register_of (drop 4 (header kind pid s))) 0 (register_header kind pid s (suits kind pid s t m)))) none))))
    where
      shown : (f : Field) → row_with f (table kind) < length (layout kind)
          → eqb (value kind (header kind pid s) f) (get_or (get_or (content kind pid s) (row_with f (table kind)) []) 0 0) ≡ true
      shown f h = eq-eqb (value kind (header kind pid s) f) (get_or (get_or (content kind pid s) (row_with f (table kind)) []) 0 0) (value_back kind pid s t m f h)

  -- a reserved row is written as ones
  ones : (k : ℕ) → k < length (layout kind) → get_or (content kind pid s) k [] ≡ all_ones (row_of (layout kind) k) → (zero_check kind (header kind pid s) k).1 ≡ false
  ones k h e = rw (row-header kind pid s (suits kind pid s t m) k h ∙ e) (differs_nowhere (all_ones (row_of (layout kind) k)))

  reserved_none : NoneHolds (drop 3 (reserved_checks kind (header kind pid s))) → NoneHolds (reserved_checks kind (header kind pid s))
  unfolding laid_out reserved_checks reserved_from
  reserved_none behind = more (ones 5 (omega arith) refl) (more (ones 11 (omega arith) refl) (more (ones 14 (omega arith) refl) behind))

reserved_bytes_none : (kind : Kind) (pid : ℕ) (s : Setting) → OfItsTypes s → MeetsRules kind pid s → NoneHolds (drop 3 (reserved_checks kind (header kind pid s)))
unfolding laid_out reserved_checks reserved_from
reserved_bytes_none Kind.Plain pid s t m = none
reserved_bytes_none Kind.Short pid s t m = none
reserved_bytes_none Kind.Extended pid s t m = more (ones Kind.Extended pid s t m 23 (lit< tt) refl) none

module _ (kind : Kind) (pid : ℕ) (s : Setting) (t : OfItsTypes s) (m : MeetsRules kind pid s) where
  read_back : read_refusal kind pid (header kind pid s) ≡ 0
  unfolding read_refusal read_checks
  read_back =
      first_none (more (ap not (eq-eqb (length (header kind pid s)) header_length (length-header kind pid s)))
      (more (ap not m.pid-allowed)
      (none_append (packet_none kind pid s t m)
      (none_append (reserved_none kind pid s t m (reserved_bytes_none kind pid s t m))
      (subst (λ (r : Setting). NoneHolds (rule_checks kind r)) (sym (same kind pid s t m)) (none_behind (width_checks kind s) m.fields))))))

pub written_and_read_back : WrittenAndReadBack
unfolding written read_of refusal_by
written_and_read_back kind pid s buffer t m e = (
  not_refused kind pid (length buffer) s m e,
  ap (λ (n : ℕ). read_of kind pid (cond (eqb n 0) (header kind pid s) buffer)) (not_refused kind pid (length buffer) s m e)
      ∙ ap (λ (n : ℕ). answer n (reading kind (header kind pid s))) (read_back kind pid s t m)
      ∙ ap (answer 0) (same kind pid s t m),
)
  where
    answer : ℕ → Setting → Reading
    answer n r = record { refusal = refusal_by n (header kind pid s); setting = cond (eqb n 0) r blank }
