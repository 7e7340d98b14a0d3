-- `said_by` meets its contract, check by check. Assumes nothing.
use Prim.Native.Nat.{ℕ, ◌%◌}
use mathlib.Core.Path.{◌≡◌, sym, ap, ◌∙◌}
use mathlib.Core.Bool.{Bool, true, false, not}
use mathlib.Core.List.{List}
use borrow.Author.Rules.{rules}
use lib.ListN.{length, get_or}
use Rattle.bits.specs.Fields.{Fit}
use Rattle.bits.proofs.Laws.{fit_of}
use Rattle.refusals.specs.Refusals.{number, answer}
use Rattle.setting.specs.declared.Kind.{Kind}
use Rattle.setting.specs.declared.Setting.{Setting}
use Rattle.setting.specs.Refusal.{Check, first_of}
use Rattle.setting.specs.Rules.{type_allowed, some_unavailable, pair_twice, bonding_checks, rule_checks}
use Rattle.setting.proofs.Refusals.{answers, passed}
use Rattle.header_layout.specs.Header.{header_length, reading}
use Rattle.header_check.specs.Checking.{bare, parts_of}
use Rattle.header_check.proofs.Asked.{counter_is, type_is}
use Rattle.header_check.proofs.parts.said_by.Goals as goal

-- the rows that the function goes through, each by what its own call said
module _ (kind : Kind) (p : List ℕ) (f : Fit 8 p) (h : length p ≡ header_length) where
  abbrev said : Setting
  said = reading kind p

  abbrev rows : List Check
  rows = rule_checks kind said

  allowed : {b : Bool} → b ≡ type_allowed kind (get_or p 6 0 % 16) → not (type_allowed kind said.frame_type) ≡ not b
  allowed e = ap not (sym (e ∙ ap (type_allowed kind) (type_is kind p f h)))

  barred : false ≡ type_allowed kind (get_or p 6 0 % 16) → 8 ≡ first_of rows
  unfolding rule_checks
  barred e = sym (answers 8 _ (allowed e))

  module _ (type : true ≡ type_allowed kind (get_or p 6 0 % 16)) {a : ℕ} (streams : a ≡ said.availability) where
    unavailable : {b : Bool} → b ≡ some_unavailable a said.relative_ts_number → some_unavailable said.availability said.relative_ts_number ≡ b
    unavailable e = sym (e ∙ ap (λ (n : ℕ). some_unavailable n said.relative_ts_number) streams)

    twice : {b : Bool} → b ≡ pair_twice a said.ts_id said.original_network_id → pair_twice said.availability said.ts_id said.original_network_id ≡ b
    twice e = sym (e ∙ ap (λ (n : ℕ). pair_twice n said.ts_id said.original_network_id) streams)

    found : true ≡ some_unavailable a said.relative_ts_number → 9 ≡ first_of rows
    unfolding rule_checks
    found e = sym (passed _ _ (allowed type) ∙ answers 9 _ (unavailable e))

    module _ (none : false ≡ some_unavailable a said.relative_ts_number) where
      paired : true ≡ pair_twice a said.ts_id said.original_network_id → 10 ≡ first_of rows
      unfolding rule_checks
      paired e = sym (passed _ _ (allowed type) ∙ passed _ _ (unavailable none) ∙ answers 10 _ (twice e))

      -- the bonding fields answer for all
      bonded : false ≡ pair_twice a said.ts_id said.original_network_id → {c s f q : ℕ} → c ≡ said.number_of_carriers → s ≡ said.carrier_sequence → f ≡ said.number_of_frames → q ≡ said.frame_position.0 → {n : ℕ} → n ≡ first_of (bonding_checks kind c s f q) → n ≡ first_of rows
      unfolding rule_checks
      bonded apart c s f q e =
          e ∙ (λ i. first_of (bonding_checks kind (c i) (s i) (f i) (q i))) ∙ sym (passed _ _ (allowed type) ∙ passed _ _ (unavailable none) ∙ passed _ _ (twice apart))

pub returns-then-not-frame_type_allowed-clause-value : goal.returns-then-not-frame_type_allowed-clause-value
returns-then-not-frame_type_allowed-clause-value c =
    let p = c.args.packet.now in
    barred c.args.kind p (fit_of 8 p c.fits-packet) c.told-packet c.if-not-frame_type_allowed.ensures

pub returns-then-has_unavailable-clause-value : goal.returns-then-has_unavailable-clause-value
returns-then-has_unavailable-clause-value c =
    let p = c.args.packet.now in
    found c.args.kind p (fit_of 8 p c.fits-packet) c.told-packet c.if-not-frame_type_allowed.ensures c.availability_of-availability.ensures
    c.if-has_unavailable.ensures

pub returns-then-has_pair_twice-clause-value : goal.returns-then-has_pair_twice-clause-value
returns-then-has_pair_twice-clause-value c =
    let p = c.args.packet.now in
    paired c.args.kind p (fit_of 8 p c.fits-packet) c.told-packet c.if-not-frame_type_allowed.ensures c.availability_of-availability.ensures
    c.if-has_unavailable.ensures c.if-has_pair_twice.ensures

pub returns-in_err-bonding_refusal-clause-value : goal.returns-in_err-bonding_refusal-clause-value
returns-in_err-bonding_refusal-clause-value c =
    let p = c.args.packet.now in
    let b = c.bonding_of-bonding.ensures in
    let passed_up : answer c.from_residual.result ≡ number c.in_err-bonding_refusal.field-0.0 = search rules in
    passed_up
    ∙ bonded c.args.kind p (fit_of 8 p c.fits-packet) c.told-packet c.if-not-frame_type_allowed.ensures c.availability_of-availability.ensures
    c.if-has_unavailable.ensures c.if-has_pair_twice.ensures b.number_of_carriers_value b.carrier_sequence_value b.number_of_frames_value b.frame_position_value
    c.in_err-bonding_refusal.ensures

pub returns-clause-value : goal.returns-clause-value
returns-clause-value c =
    let p = c.args.packet.now in
    let b = c.bonding_of-bonding.ensures in
    bonded c.args.kind p (fit_of 8 p c.fits-packet) c.told-packet c.if-not-frame_type_allowed.ensures c.availability_of-availability.ensures
    c.if-has_unavailable.ensures c.if-has_pair_twice.ensures b.number_of_carriers_value b.carrier_sequence_value b.number_of_frames_value b.frame_position_value
    c.in_ok-bonding_refusal.ensures

pub returns-clause-said : goal.returns-clause-said
unfolding parts_of reading
returns-clause-said c =
    let p = c.args.packet.now in
    let b = c.bonding_of-bonding.ensures in
    let counter = counter_is c.args.kind p (fit_of 8 p c.fits-packet) c.told-packet in
    (λ i. record {
      refusal = bare 0;
      continuity_counter = counter i;
      availability = c.availability_of-availability.ensures i;
      group_id = b.group_id_value i;
      number_of_carriers = b.number_of_carriers_value i;
      carrier_sequence = b.carrier_sequence_value i;
      number_of_frames = b.number_of_frames_value i;
      frame_position = record { 0 = b.frame_position_value i };
    })
