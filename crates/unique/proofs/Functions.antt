-- The other public functions. Of an outcome x with what its contract tells, p, each line says which equation gives which part: the answer, then the
-- arguments in their order. `_` stands for what is not lent to write.
use mathlib.Core.Path.{refl, sym, ◌∙◌}
use Rattle.unique.specs.Functions.{Functions}
use Rattle.unique.proofs.One.{one}
use Rattle.unique.proofs.Saying.{saying, says}
use Rattle.unique.proofs.Again.{fixed, checks, reads_into, counts, header_checks, header_reads, receives, hands_out, headers_reads, moves, lists}

pub functions : Functions
functions = record {
  -- ground
  refusals_refusal_number = one (λ κs a x p i. (p i, _));
  bits_wide = one (λ κs a x p i. (p.0 i, _));
  bits_word = one (λ κs a x p i. (p i, _));
  bits_long = one (λ κs a x p i. (p i, _));
  bits_pack_halves = one (λ κs a x p i. (_, (p i, _)));
  slices_copy = one (λ κs a x p i. (_, (p i, _)));
  slices_fill = one (λ κs a x p i. (_, (p i, _)));
  slices_some_at_least = one (λ κs a x p i. (p i, _));
  slices_some_other = one (λ κs a x p i. (p i, _));
  slices_differ = one (λ κs a x p i. (p i, _));
  slices_are_bytes = one (λ κs a x p i. _);
  counters_slot_new = one (λ κs a x p i. (fixed (counts (λ v. v.0) (λ n. record { 0 = n }) (λ v. refl)) x.0 p i, _));
  counters_relative_number_new = one (λ κs a x p i. (fixed (counts (λ v. v.0) (λ n. record { 0 = n }) (λ v. refl)) x.0 p i, _));
  counters_relative_number_is_available = one (λ κs a x p i. (p i, _));
  counters_frame_position_new = one (λ κs a x p i. (fixed (counts (λ v. v.0) (λ n. record { 0 = n }) (λ v. refl)) x.0 p i, _));
  counters_is_within = one (λ κs a x p i. (p i, _));
  counters_count_available = one (λ κs a x p i. (p i, _));
  crc_register = one (λ κs a x p i. (p i, _));
  slot_bits_slots_as_bits = one (λ κs a x p i. (p i, _));
  -- settings
  setting_setting_blank = one (λ κs a x p i. (p i, _));
  setting_pid_allowed = one (λ κs a x p i. (p i, _));
  setting_announce = one (λ κs a x p i. (p i, _));
  setting_size_of = one (λ κs a x p i. (p i, _));
  setting_slots_has_unavailable = one (λ κs a x p i. (p i, _));
  setting_slots_has_unavailable_half = one (λ κs a x p i. (p i, _));
  setting_pairs_has_pair_twice = one (λ κs a x p i. (p i, _));
  setting_rules_bonding_refusal = one (λ κs a x p i. (fixed checks x.0 p i, _));
  setting_rules_frame_type_allowed = one (λ κs a x p i. (p i, _));
  setting_bytes_read_words = one (λ κs a x p i. (_, (p i, _)));
  setting_bytes_kind_of = one (λ κs a x p i. (p i, _));
  setting_bytes_kind_number = one (λ κs a x p i. (p i, _));
  setting_read_announced_of = one (λ κs a x p i. (p i, _));
  setting_read_setting_of = one (λ κs a x p i. (p i, _));
  setting_write_write_announced = one (λ κs a x p i. (_, (p i, _)));
  setting_write_write_setting = one (λ κs a x p i. (_, (p i, _)));
  setting_checks_announced_refusal = one (λ κs a x p i. (fixed checks x.0 p i, _));
  setting_checks_width_refusal = one (λ κs a x p i. (fixed checks x.0 p i, _));
  setting_checks_rule_refusal = one (λ κs a x p i. (fixed checks x.0 p i, _));
  -- headers and packets
  packet_frame_bytes = one (λ κs a x p i. (p i, _));
  packet_place_refusal = one (λ κs a x p i. (fixed checks x.0 p i, _));
  packet_has_unfit = one (λ κs a x p i. (p i, _));
  packet_rest = λ κs a x y p q. p ∙ sym q;
  header_layout_places_of = one (λ κs a x p i. (p.0 i, _));
  header_check_refused_from = one (λ κs a x p i. (p i, _));
  header_check_cut_run = one (λ κs a x p i. (_, (p i, _)));
  header_check_read_numbers = one (λ κs a x p i. (_, (p i, _)));
  header_check_check = one (λ κs a x p i. (fixed header_checks x.0 p i, _));
  header_read_read_into = one (λ κs a x p i. (fixed reads_into x.0 p.0 i, (_, (_, (_, (p.1 i, _))))));
  header_read_read = one (λ κs a x p i. (fixed header_reads x.0 p i, _));
  header_write_write_header = one (λ κs a x p i. (_, (p i, _)));
  header_write_write = one (λ κs a x p i. (fixed checks x.0 p.0 i, (p.1 i, _)));
  header_calls_call_refusal = one (λ κs a x p i. (fixed checks x.0 p i, _));
  -- frames composed
  composer_checks_state_refusal = one (λ κs a x p i. (fixed checks x.0 p i, _));
  composer_checks_open_rule_refusal = one (λ κs a x p i. (fixed checks x.0 p i, _));
  composer_checks_mark_refusal = one (λ κs a x p i. (fixed checks x.0 p i, _));
  composer_checks_open_refusal = one (λ κs a x p i. (fixed checks x.0 p i, _));
  composer_start_start = one (λ κs a x p i. (record { checked = fixed checks x.0.checked p.0 i; state = p.1 i }, _));
  composer_begin_begin = one (λ κs a x p i. (fixed checks x.0 p.0 i, (p.1.0 i, (p.1.1 i, _))));
  composer_put_put = λ κs a x y p q. (
    p.0 ∙ sym q.0,
    (
      p.1.0 ∙ sym q.1.0,
      (
        p.1.1.0 ∙ sym q.1.1.0,
        (λ i. (p.1.1.1.0 i, (p.1.1.1.1 i, _))) ∙ sym (λ i. (q.1.1.1.0 i, (q.1.1.1.1 i, _))),
      ),
    ),
  );
  composer_close_close = one (λ κs a x p i. (fixed checks x.0 p.0 i, (p.1.0 i, (p.1.1 i, _))));
  -- frames received
  receiver_table_header_row = one (λ κs a x p i. (p i, _));
  receiver_table_broken_row = one (λ κs a x p i. (p 0 i, _));
  receiver_stage_stage_in = one (λ κs a x p i. (p i, _));
  receiver_stage_write_stage = one (λ κs a x p i. (_, (p i, _)));
  receiver_stage_store_bytes = one (λ κs a x p i. (p i, _));
  receiver_stage_state_refusal = one (λ κs a x p i. (fixed checks x.0 p i, _));
  receiver_event_number = one (λ κs a x p i. (p i, _));
  receiver_event_remainder = one (λ κs a x p i. (p i, _));
  receiver_start_start = one (λ κs a x p i. (record { checked = fixed checks x.0.checked p.0 i; state = p.1 i }, _));
  receiver_receive_receive =
      one (λ κs a x p i. (fixed receives x.0 (λ j. (p.0 j, record { event = p.1.0 j; remainder = p.1.1.0 j })) i, (p.1.1.1.0 i, (_, (p.1.1.1.1 i, _)))));
  receiver_hand_out_hand_out = one (λ κs a x p i. (fixed hands_out x.0 (λ j. (p.0 j, p.1.0 j)) i, (_, (_, (p.1.1 i, _)))));
  -- bonded carriers
  bond_group_shown_from = one (λ κs a x p i. (p (saying a.0) (says a.0) i, _));
  bond_group_read_headers = one (λ κs a x p i. (fixed headers_reads x.0 p.0 i, (_, (_, (p.1.0 i, (p.1.1 i, _))))));
  bond_spread = one (λ κs a x p i. (fixed moves x.0 p.0 i, (p.1 i, _)));
  bond_gather = one (λ κs a x p i. (fixed moves x.0 p.0 i, (_, (p.1 i, _))));
  -- the lister
  listing_list = one (λ κs a x p i. (fixed lists x.0 p.0 i, (p.1.0 i, _)));
}
