-- What the checks say of a setting's fields. Assumes nothing.
use Prim.Native.Nat.{ℕ, ◌-◌, ◌%◌, ◌^◌, ◌≤◌, ◌<◌}
use mathlib.Core.Path.{◌≡◌, sym, ap, subst, ◌∙◌}
use mathlib.Core.Bool.{true, false}
use mathlib.Core.List.{List}
use native.Mathlib.Omega.{arith}
use native.Mathlib.Decide.{dec_lt}
use lib.Dec.{leb}
use lib.ListN.{length, get_or, take, drop, get_or-eq_default}
use lib.Seq.{drop-length}
use lib.Pow.{pow_pos}
use borrow.Author.Tests.{leb-true, leb-false, eqb-true, not-false, lt-leb}
use Rattle.bits.specs.Fields.{Fit}
use Rattle.bits.proofs.Laws.{fit_of, fit_get_d}
use Rattle.slices.specs.Slices.{any_below, some_at_least}
use Rattle.slices.proofs.Any.{both, any_no, any_each}
use Rattle.setting.specs.declared.Kind.{Kind}
use Rattle.setting.specs.declared.Setting.{Setting}
use Rattle.counters.specs.Counters.{last_stream, within}
use Rattle.setting.specs.Refusal.{NoneHolds}
use Rattle.setting.specs.Size.{size_of, slots_of, streams_of}
use Rattle.setting.specs.Rules.{some_behind, width_checks, bonding_checks, bonding_of, rule_checks, absent_checks}
use Rattle.setting.proofs.Refusals.{none_at, none_behind}

pub some_fit : (w : ℕ) (xs : List ℕ) → Fit w xs → some_at_least (2 ^ w) xs ≡ false
unfolding some_at_least
some_fit w xs f = any_no (λ i. leb (2 ^ w) (get_or xs i 0)) (length xs) (λ i l. lt-leb (2 ^ w) (get_or xs i 0) (fit_get_d f i))

pub fit_some : (w : ℕ) (xs : List ℕ) → some_at_least (2 ^ w) xs ≡ false → Fit w xs
unfolding some_at_least
fit_some w xs e = fit_of w xs (λ i. below i (dec_lt i (length xs)))
  where
    below : (i : ℕ) → Dec (i < length xs) → get_or xs i 0 < 2 ^ w
    below i (yes l) = leb-false (2 ^ w) (get_or xs i 0) (any_each (λ i. leb (2 ^ w) (get_or xs i 0)) (length xs) e i l)
    below i (no l) = subst (λ (n : ℕ). n < 2 ^ w) (sym (get_or-eq_default xs 0 (omega arith))) (pow_pos w)

-- behind all elements there is none
pub none_left : (limit n : ℕ) (xs : List ℕ) → length xs ≡ n → some_at_least limit (drop n xs) ≡ false
unfolding some_at_least any_below
none_left limit n xs e = ap (some_at_least limit) (ap (λ (k : ℕ). drop k xs) (sym e) ∙ drop-length xs)

pub at_most : (first last n : ℕ) → within first last n ≡ true → n ≤ last
at_most first last n e = leb-true n last (both (leb first n) (leb n last) e).1

-- the bonding fields fit their bits: what the checks of 11 leave
pub record Bonded (s : Setting) : Type 0 where
  pub carriers : s.number_of_carriers < 2 ^ 8
  pub sequence : s.carrier_sequence < 2 ^ 8
  pub frames : s.number_of_frames < 2 ^ 4
  pub position : s.frame_position.0 < 2 ^ 4

pub bonded : (s : Setting) → NoneHolds (bonding_of Kind.Extended s) → Bonded s
unfolding bonding_checks
bonded s h =
    let carriers = at_most 1 8 s.number_of_carriers (not-false _ (none_at h 0)) in
    let sequence = at_most 1 s.number_of_carriers s.carrier_sequence (not-false _ (none_at h 1)) in
    let frames = at_most 3 4 s.number_of_frames (not-false _ (none_at h 2)) in
    let position = at_most 1 s.number_of_frames s.frame_position.0 (not-false _ (none_at h 3)) in
    record { carriers = omega arith; sequence = omega arith; frames = omega arith; position = omega arith }

pub bonding_none : (kind : Kind) (s : Setting) → NoneHolds (rule_checks kind s) → NoneHolds (bonding_of kind s)
unfolding rule_checks
bonding_none kind s h = none_behind (take 3 (rule_checks kind s)) h

-- each field that all kinds have fits its bits, and zeros stand behind what the size reaches: what the checks of 17 leave
pub record Narrow (kind : Kind) (s : Setting) : Type 0 where
  pub counter : s.continuity_counter < 2 ^ 4
  pub version : s.version_number < 2 ^ 3
  pub slot_type : s.slot_allocation_type < 2 ^ 1
  pub frame_type_fits : s.frame_type < 2 ^ 4
  pub streams : s.availability < 2 ^ last_stream
  pub statuses : Fit 2 s.receive_status
  pub emergency : s.emergency_indicator < 2 ^ 1
  pub streams-behind : s.availability % 2 ^ (last_stream - streams_of kind) ≡ 0
  pub ts_behind : some_behind (streams_of kind) s.ts_id ≡ false
  pub network_behind : some_behind (streams_of kind) s.original_network_id ≡ false
  pub statuses-behind : some_behind (streams_of kind) s.receive_status ≡ false
  pub numbers : Fit (size_of kind).number_bits s.relative_ts_number
  pub numbers_behind : some_behind (slots_of kind) s.relative_ts_number ≡ false
  pub privates_behind : some_behind (size_of kind).private_bytes s.private_data ≡ false

pub narrow : (kind : Kind) {s : Setting} → NoneHolds (width_checks kind s) → Narrow kind s
unfolding width_checks absent_checks
narrow kind {s} h =
    record {
      counter = leb-false (2 ^ 4) s.continuity_counter (none_at h 0);
      version = leb-false (2 ^ 3) s.version_number (none_at h 1);
      slot_type = leb-false (2 ^ 1) s.slot_allocation_type (none_at h 2);
      frame_type_fits = leb-false (2 ^ 4) s.frame_type (none_at h 3);
      streams = leb-false (2 ^ last_stream) s.availability (none_at h 4);
      statuses = fit_some 2 s.receive_status (none_at h 5);
      emergency = leb-false (2 ^ 1) s.emergency_indicator (none_at h 6);
      streams-behind = eqb-true (s.availability % 2 ^ (last_stream - streams_of kind)) 0 (not-false _ (none_at h 7));
      ts_behind = none_at h 8;
      network_behind = none_at h 9;
      statuses-behind = none_at h 10;
      numbers = fit_some (size_of kind).number_bits s.relative_ts_number (none_at h 11);
      numbers_behind = none_at h 12;
      privates_behind = none_at h 13;
    }
