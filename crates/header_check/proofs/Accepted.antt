-- What a packet that the reader accepts shows, and that what is read from it meets the rules. Assumes nothing.
use Prim.Native.Nat.{ℕ, ◌+◌, ◌-◌, ◌*◌, ◌%◌, ◌^◌, ◌≤◌, ◌<◌}
use mathlib.Core.Path.{◌≡◌, refl, ap, ◌∙◌, subst}
use mathlib.Core.Bool.{true, false, not}
use mathlib.Core.List.{List, [], ◌∷◌, ◌++◌}
use native.Mathlib.Omega.{arith}
use native.Mathlib.Nat.{le_of_eq, mul-mod_left}
use lib.Dec.{lit<, leb, eqb}
use lib.ListN.{length, drop, replicate}
use lib.Pow.{shl_lt}
use borrow.Author.Tests.{lt-leb, eqb-true, eq-eqb, not-false}
use Rattle.bits.specs.Fields.{run}
use Rattle.bits.proofs.Laws.{fit_run, fit_get_d, length_run}
use Rattle.crc.specs.Crc.{register_of}
use Rattle.slices.proofs.Any.{both}
use Rattle.setting.specs.declared.Kind.{Kind}
use Rattle.setting.specs.declared.Setting.{Setting}
use Rattle.counters.specs.Counters.{last_stream}
use Rattle.setting.specs.Setting.{private_bytes, auxiliary_bytes}
use Rattle.setting.specs.Size.{size_of, streams_of, resized}
use Rattle.setting.specs.Refusal.{NoneHolds, none, more}
use Rattle.setting.specs.Rules.{pid_allowed, some_behind, bonding_absent, absent_checks, width_checks, bonding_checks, rule_checks}
use Rattle.setting.proofs.Fields.{some_fit}
use Rattle.setting.proofs.Sizes.{sized, fit_resized, none_behind_resized}
use Rattle.setting.proofs.Refusals.{none_before, numbered, numbered_append, none_first, none_at, none_append, none_behind}
use Rattle.header_layout.specs.Rows.{place, row_at}
use Rattle.header_layout.specs.Layout.{sync_byte, tsmf_sync, Field, table, layout, row_with}
use Rattle.header_layout.specs.Header.{header_length, firsts, seconds, streams_beyond, row, values, value, reading, call_checks, packet_checks, reserved_checks}
use Rattle.header_check.specs.Checking.{read_checks, read_refusal}
use Rattle.header_layout.specs.Meets.{MeetsRules}
use Rattle.header_layout.proofs.Rows.{size, row_of, Fills, row_fills}
use Rattle.header_layout.proofs.LaidOut.{laid_out, size-layout}
use Rattle.header_layout.proofs.Content.{fills_replicate}
use Rattle.header_layout.proofs.Numbers.{numbers_said}
use Rattle.header_layout.proofs.Reserved.{numbered_reserved}

numbered_rules : (kind : Kind) (s : Setting) → numbered (rule_checks kind s) ≡ true
unfolding rule_checks bonding_checks
numbered_rules Kind.Plain s = refl
numbered_rules Kind.Extended s = refl
numbered_rules Kind.Short s = refl

-- no check of a read has the number 0
pub numbered_read : (kind : Kind) (pid : ℕ) (p : List ℕ) → numbered (read_checks kind pid p) ≡ true
unfolding read_checks packet_checks
numbered_read kind pid p = numbered_append (reserved_checks kind p) (rule_checks kind (reading kind p)) (numbered_reserved kind p) (numbered_rules kind (reading kind p))

-- what the checks of a read leave of an accepted packet
pub record Shown (kind : Kind) (pid : ℕ) (p : List ℕ) : Type 0 where
  pub whole : length p ≡ header_length
  pub allowed : pid_allowed pid ≡ true
  pub sync : value kind p Field.sync_byte_field ≡ sync_byte
  pub zeros : value kind p Field.zeros ≡ 0
  pub pid-row : value kind p Field.header-pid ≡ pid
  pub payload : value kind p Field.payload ≡ 1
  pub tsmf : value kind p Field.tsmf_sync_field ≡ tsmf_sync
  pub register : register_of (drop 4 p) ≡ 0
  pub checks : NoneHolds (read_checks kind pid p)
  pub reserved : NoneHolds (reserved_checks kind p)
  pub rules : NoneHolds (rule_checks kind (reading kind p))

pub shown : (kind : Kind) (pid : ℕ) (p : List ℕ) → read_refusal kind pid p ≡ 0 → Shown kind pid p
unfolding laid_out read_refusal read_checks packet_checks row_at place
shown kind pid p e =
    let marks = both (eqb (value kind p Field.zeros) 0) (eqb (value kind p Field.payload) 1) (not-false _ (none_at h 4)) in
    record {
      whole = eqb-true _ _ (not-false _ (none_at h 0));
      allowed = not-false _ (none_at h 1);
      sync = eqb-true _ _ (not-false _ (none_at h 2));
      zeros = eqb-true _ _ marks.0;
      pid-row = eqb-true _ _ (not-false _ (none_at h 3));
      payload = eqb-true _ _ marks.1;
      tsmf = eqb-true _ _ (not-false _ (none_at h 5));
      register = eqb-true _ _ (not-false _ (none_at h 6));
      checks = none_behind (call_checks pid (length p)) h;
      reserved = none_before (reserved_checks kind p) (rule_checks kind (reading kind p)) behind;
      rules = none_behind (reserved_checks kind p) behind;
    }
  where
    h : NoneHolds (call_checks pid (length p) ++ read_checks kind pid p)
    h = none_first (call_checks pid (length p) ++ read_checks kind pid p) (numbered_read kind pid p) e

    behind : NoneHolds (reserved_checks kind p ++ rule_checks kind (reading kind p))
    behind = none_behind (packet_checks pid p) (none_behind (call_checks pid (length p)) h)

-- of pairs, one half
pub length-firsts : (xs : List ℕ) (n : ℕ) → length xs ≡ n + n → length (firsts xs) ≡ n
unfolding firsts
length-firsts [] n e = omega arith
length-firsts (x ∷ []) n e = absurd (omega arith)
length-firsts (x ∷ y ∷ xs) n e = let l = length-firsts xs (n - 1) (omega arith) in omega arith

pub length-seconds : (xs : List ℕ) (n : ℕ) → length xs ≡ n + n → length (seconds xs) ≡ n
unfolding seconds
length-seconds [] n e = omega arith
length-seconds (x ∷ []) n e = absurd (omega arith)
length-seconds (x ∷ y ∷ xs) n e = let l = length-seconds xs (n - 1) (omega arith) in omega arith

module _ (kind : Kind) (p : List ℕ) (whole : length p ≡ header_length) where
  pub long : size (layout kind) ≤ length (run 8 p)
  long = let e = size-layout kind in rw length_run (omega arith)

  pub row_filled : (k : ℕ) → k < length (layout kind) → Fills (row_of (layout kind) k) (row kind p k)
  row_filled = row_fills (layout kind) (run 8 p) (fit_run 8 p) long

-- what the kind does not have is read as zeros: private data, and what only an extended header has
privates_none : (kind : Kind) (p : List ℕ) → length p ≡ header_length → some_behind (size_of kind).private_bytes (reading kind p).private_data ≡ false
unfolding laid_out reading
privates_none Kind.Plain p whole =
    none_behind_resized (size_of Kind.Plain).private_bytes private_bytes (values Kind.Plain p Field.privates) (le_of_eq (row_filled Kind.Plain p whole 17 (lit< tt)).0)
privates_none Kind.Short p whole =
    none_behind_resized (size_of Kind.Short).private_bytes private_bytes (values Kind.Short p Field.privates) (le_of_eq (row_filled Kind.Short p whole 17 (lit< tt)).0)
privates_none Kind.Extended p whole = none_behind_resized (size_of Kind.Extended).private_bytes private_bytes [] (omega arith)

bonding_none : (kind : Kind) (p : List ℕ)
    → let s = reading kind p in NoneHolds (bonding_absent kind s.auxiliary s.group_id s.number_of_carriers s.carrier_sequence s.number_of_frames s.frame_position.0)
unfolding reading
bonding_none Kind.Plain p =
    more (some_fit 0 (replicate auxiliary_bytes 0) (fills_replicate 0 auxiliary_bytes 0 (lit< tt)).1)
    (more refl (more refl (more refl (more refl (more refl none)))))
bonding_none Kind.Extended p = none
bonding_none Kind.Short p =
    more (some_fit 0 (replicate auxiliary_bytes 0) (fills_replicate 0 auxiliary_bytes 0 (lit< tt)).1)
    (more refl (more refl (more refl (more refl (more refl none)))))

module _ (kind : Kind) (pid : ℕ) (p : List ℕ) (a : Shown kind pid p) where
  pub meets : MeetsRules kind pid (reading kind p)
  unfolding laid_out width_checks absent_checks reading
  meets =
      record {
        pid-allowed = a.allowed;
        fields =
            none_append (more (narrow Field.counter (omega arith)) (more (narrow Field.version (omega arith)) (more (narrow Field.slot_type (omega arith)) (more (narrow Field.frame_type_field (omega arith))
            (more streams_fit
            (more (some_fit 2 (resized last_stream (values kind p Field.statuses)) (fit_resized last_stream (filled Field.statuses (omega arith)).1)) (more (narrow Field.emergency (omega arith))
            (more (ap not (eq-eqb (available % 2 ^ streams_beyond (size_of kind)) 0 beyond))
            (more (none_behind_resized n last_stream (firsts ids) (le_of_eq (length-firsts ids n pairs)))
            (more (none_behind_resized n last_stream (seconds ids) (le_of_eq (length-seconds ids n pairs)))
            (more (none_behind_resized n last_stream (values kind p Field.statuses) (le_of_eq (filled Field.statuses (omega arith)).0))
            (more (numbers_said kind p a.whole).0 (more (numbers_said kind p a.whole).1
            (more (privates_none kind p a.whole) (bonding_none kind p))))))))))))))) a.rules;
      }
    where
      n : ℕ
      n = streams_of kind

      filled : (f : Field) → row_with f (table kind) < length (layout kind)
          → Fills (row_of (layout kind) (row_with f (table kind))) (values kind p f)
      filled f h = row_filled kind p a.whole (row_with f (table kind)) h

      narrow : (f : Field) → row_with f (table kind) < length (layout kind)
          → leb (2 ^ (row_of (layout kind) (row_with f (table kind))).0) (value kind p f) ≡ false
      narrow f h = lt-leb (2 ^ (row_of (layout kind) (row_with f (table kind))).0) (value kind p f) (fit_get_d (filled f h).1 0)

      -- the identifiers, two for each stream
      ids : List ℕ
      ids = values kind p Field.identifiers

      pairs : length (values kind p Field.identifiers) ≡ n + n
      pairs = (filled Field.identifiers (omega arith)).0 ∙ omega arith

      -- the availability, with zeros for the streams beyond the size
      available : ℕ
      available = value kind p Field.streams * 2 ^ streams_beyond (size_of kind)

      streams_fit : leb (2 ^ last_stream) (value kind p Field.streams * 2 ^ streams_beyond (size_of kind)) ≡ false
      streams_fit =
          let all : n + streams_beyond (size_of kind) ≡ last_stream = let l = (sized kind).streams in omega arith in
          lt-leb (2 ^ last_stream) available (subst (λ (w : ℕ). available < 2 ^ w) all (shl_lt n (streams_beyond (size_of kind)) (fit_get_d (filled Field.streams (omega arith)).1 0)))

      beyond : value kind p Field.streams * 2 ^ streams_beyond (size_of kind) % 2 ^ streams_beyond (size_of kind) ≡ 0
      beyond = mul-mod_left (value kind p Field.streams) (2 ^ streams_beyond (size_of kind))
