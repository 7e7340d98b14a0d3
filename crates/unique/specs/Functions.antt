-- Each other public function, by its crate and its name: its contract allows one outcome.
use Rattle.std.specs.Prelude.{◌≡◌}
use contract.Lifetimes.{Lfts}
use denote.Triple.Entry.{Args}
use Rattle.refusals.specs.Refusals.{answer}
use Rattle.composer_put.specs.Placing.{placed_in, rest_in}
use Rattle.unique.specs.Outcomes.{Outcome, Allows, OneOutcome}
use Rattle.refusals.proofs.Refusal.number as refusals_refusal_number
use Rattle.refusals.specs.contracts.Refusal.number as refusals_refusal_number_contract
use Rattle.bits.proofs.wide as bits_wide
use Rattle.bits.specs.contracts.wide as bits_wide_contract
use Rattle.bits.proofs.word as bits_word
use Rattle.bits.specs.contracts.word as bits_word_contract
use Rattle.bits.proofs.long as bits_long
use Rattle.bits.specs.contracts.long as bits_long_contract
use Rattle.bits.proofs.pack_halves as bits_pack_halves
use Rattle.bits.specs.contracts.pack_halves as bits_pack_halves_contract
use Rattle.slices.proofs.copy as slices_copy
use Rattle.slices.specs.contracts.copy as slices_copy_contract
use Rattle.slices.proofs.fill as slices_fill
use Rattle.slices.specs.contracts.fill as slices_fill_contract
use Rattle.slices.proofs.some_at_least as slices_some_at_least
use Rattle.slices.specs.contracts.some_at_least as slices_some_at_least_contract
use Rattle.slices.proofs.some_other as slices_some_other
use Rattle.slices.specs.contracts.some_other as slices_some_other_contract
use Rattle.slices.proofs.differ as slices_differ
use Rattle.slices.specs.contracts.differ as slices_differ_contract
use Rattle.slices.proofs.are_bytes as slices_are_bytes
use Rattle.slices.specs.contracts.are_bytes as slices_are_bytes_contract
use Rattle.counters.proofs.Slot.new as counters_slot_new
use Rattle.counters.specs.contracts.Slot.new as counters_slot_new_contract
use Rattle.counters.proofs.RelativeNumber.new as counters_relative_number_new
use Rattle.counters.specs.contracts.RelativeNumber.new as counters_relative_number_new_contract
use Rattle.counters.proofs.RelativeNumber.is_available as counters_relative_number_is_available
use Rattle.counters.specs.contracts.RelativeNumber.is_available as counters_relative_number_is_available_contract
use Rattle.counters.proofs.FramePosition.new as counters_frame_position_new
use Rattle.counters.specs.contracts.FramePosition.new as counters_frame_position_new_contract
use Rattle.counters.proofs.is_within as counters_is_within
use Rattle.counters.specs.contracts.is_within as counters_is_within_contract
use Rattle.counters.proofs.count_available as counters_count_available
use Rattle.counters.specs.contracts.count_available as counters_count_available_contract
use Rattle.crc.proofs.register as crc_register
use Rattle.crc.specs.contracts.register as crc_register_contract
use Rattle.slot_bits.proofs.slots_as_bits as slot_bits_slots_as_bits
use Rattle.slot_bits.specs.contracts.slots_as_bits as slot_bits_slots_as_bits_contract
use Rattle.setting.proofs.Setting.blank as setting_setting_blank
use Rattle.setting.specs.contracts.Setting.blank as setting_setting_blank_contract
use Rattle.setting.proofs.pid_allowed as setting_pid_allowed
use Rattle.setting.specs.contracts.pid_allowed as setting_pid_allowed_contract
use Rattle.setting.proofs.announce as setting_announce
use Rattle.setting.specs.contracts.announce as setting_announce_contract
use Rattle.setting.proofs.size_of as setting_size_of
use Rattle.setting.specs.contracts.size_of as setting_size_of_contract
use Rattle.setting_slots.proofs.has_unavailable as setting_slots_has_unavailable
use Rattle.setting_slots.specs.contracts.has_unavailable as setting_slots_has_unavailable_contract
use Rattle.setting_slots.proofs.has_unavailable_half as setting_slots_has_unavailable_half
use Rattle.setting_slots.specs.contracts.has_unavailable_half as setting_slots_has_unavailable_half_contract
use Rattle.setting_pairs.proofs.has_pair_twice as setting_pairs_has_pair_twice
use Rattle.setting_pairs.specs.contracts.has_pair_twice as setting_pairs_has_pair_twice_contract
use Rattle.setting_rules.proofs.bonding_refusal as setting_rules_bonding_refusal
use Rattle.setting_rules.specs.contracts.bonding_refusal as setting_rules_bonding_refusal_contract
use Rattle.setting_rules.proofs.frame_type_allowed as setting_rules_frame_type_allowed
use Rattle.setting_rules.specs.contracts.frame_type_allowed as setting_rules_frame_type_allowed_contract
use Rattle.setting_bytes.proofs.read_words as setting_bytes_read_words
use Rattle.setting_bytes.specs.contracts.read_words as setting_bytes_read_words_contract
use Rattle.setting_bytes.proofs.kind_of as setting_bytes_kind_of
use Rattle.setting_bytes.specs.contracts.kind_of as setting_bytes_kind_of_contract
use Rattle.setting_bytes.proofs.kind_number as setting_bytes_kind_number
use Rattle.setting_bytes.specs.contracts.kind_number as setting_bytes_kind_number_contract
use Rattle.setting_read.proofs.announced_of as setting_read_announced_of
use Rattle.setting_read.specs.contracts.announced_of as setting_read_announced_of_contract
use Rattle.setting_read.proofs.setting_of as setting_read_setting_of
use Rattle.setting_read.specs.contracts.setting_of as setting_read_setting_of_contract
use Rattle.setting_write.proofs.write_announced as setting_write_write_announced
use Rattle.setting_write.specs.contracts.write_announced as setting_write_write_announced_contract
use Rattle.setting_write.proofs.write_setting as setting_write_write_setting
use Rattle.setting_write.specs.contracts.write_setting as setting_write_write_setting_contract
use Rattle.setting_checks.proofs.announced_refusal as setting_checks_announced_refusal
use Rattle.setting_checks.specs.contracts.announced_refusal as setting_checks_announced_refusal_contract
use Rattle.setting_checks.proofs.width_refusal as setting_checks_width_refusal
use Rattle.setting_checks.specs.contracts.width_refusal as setting_checks_width_refusal_contract
use Rattle.setting_checks.proofs.rule_refusal as setting_checks_rule_refusal
use Rattle.setting_checks.specs.contracts.rule_refusal as setting_checks_rule_refusal_contract
use Rattle.packet.proofs.frame_bytes as packet_frame_bytes
use Rattle.packet.specs.contracts.frame_bytes as packet_frame_bytes_contract
use Rattle.packet.proofs.place_refusal as packet_place_refusal
use Rattle.packet.specs.contracts.place_refusal as packet_place_refusal_contract
use Rattle.packet.proofs.has_unfit as packet_has_unfit
use Rattle.packet.specs.contracts.has_unfit as packet_has_unfit_contract
use Rattle.packet.proofs.rest as packet_rest
use Rattle.packet.specs.contracts.rest as packet_rest_contract
use Rattle.header_layout.proofs.places_of as header_layout_places_of
use Rattle.header_layout.specs.contracts.places_of as header_layout_places_of_contract
use Rattle.header_check.proofs.RefusedFromRefusal.from as header_check_refused_from
use Rattle.header_check.specs.contracts.RefusedFromRefusal.from as header_check_refused_from_contract
use Rattle.header_check.proofs.cut_run as header_check_cut_run
use Rattle.header_check.specs.contracts.cut_run as header_check_cut_run_contract
use Rattle.header_check.proofs.read_numbers as header_check_read_numbers
use Rattle.header_check.specs.contracts.read_numbers as header_check_read_numbers_contract
use Rattle.header_check.proofs.check as header_check_check
use Rattle.header_check.specs.contracts.check as header_check_check_contract
use Rattle.header_read.proofs.read_into as header_read_read_into
use Rattle.header_read.specs.contracts.read_into as header_read_read_into_contract
use Rattle.header_read.proofs.read as header_read_read
use Rattle.header_read.specs.contracts.read as header_read_read_contract
use Rattle.header_write.proofs.write_header as header_write_write_header
use Rattle.header_write.specs.contracts.write_header as header_write_write_header_contract
use Rattle.header_write.proofs.write as header_write_write
use Rattle.header_write.specs.contracts.write as header_write_write_contract
use Rattle.header_calls.proofs.call_refusal as header_calls_call_refusal
use Rattle.header_calls.specs.contracts.call_refusal as header_calls_call_refusal_contract
use Rattle.composer_checks.proofs.state_refusal as composer_checks_state_refusal
use Rattle.composer_checks.specs.contracts.state_refusal as composer_checks_state_refusal_contract
use Rattle.composer_checks.proofs.open_rule_refusal as composer_checks_open_rule_refusal
use Rattle.composer_checks.specs.contracts.open_rule_refusal as composer_checks_open_rule_refusal_contract
use Rattle.composer_checks.proofs.mark_refusal as composer_checks_mark_refusal
use Rattle.composer_checks.specs.contracts.mark_refusal as composer_checks_mark_refusal_contract
use Rattle.composer_checks.proofs.open_refusal as composer_checks_open_refusal
use Rattle.composer_checks.specs.contracts.open_refusal as composer_checks_open_refusal_contract
use Rattle.composer_start.proofs.start as composer_start_start
use Rattle.composer_start.specs.contracts.start as composer_start_start_contract
use Rattle.composer_begin.proofs.begin as composer_begin_begin
use Rattle.composer_begin.specs.contracts.begin as composer_begin_begin_contract
use Rattle.composer_put.proofs.put as composer_put_put
use Rattle.composer_put.specs.contracts.put as composer_put_put_contract
use Rattle.composer_close.proofs.close as composer_close_close
use Rattle.composer_close.specs.contracts.close as composer_close_close_contract
use Rattle.receiver_table.proofs.header_row as receiver_table_header_row
use Rattle.receiver_table.specs.contracts.header_row as receiver_table_header_row_contract
use Rattle.receiver_table.proofs.broken_row as receiver_table_broken_row
use Rattle.receiver_table.specs.contracts.broken_row as receiver_table_broken_row_contract
use Rattle.receiver_stage.proofs.stage_in as receiver_stage_stage_in
use Rattle.receiver_stage.specs.contracts.stage_in as receiver_stage_stage_in_contract
use Rattle.receiver_stage.proofs.write_stage as receiver_stage_write_stage
use Rattle.receiver_stage.specs.contracts.write_stage as receiver_stage_write_stage_contract
use Rattle.receiver_stage.proofs.store_bytes as receiver_stage_store_bytes
use Rattle.receiver_stage.specs.contracts.store_bytes as receiver_stage_store_bytes_contract
use Rattle.receiver_stage.proofs.state_refusal as receiver_stage_state_refusal
use Rattle.receiver_stage.specs.contracts.state_refusal as receiver_stage_state_refusal_contract
use Rattle.receiver.proofs.Event.number as receiver_event_number
use Rattle.receiver.specs.contracts.Event.number as receiver_event_number_contract
use Rattle.receiver.proofs.Event.remainder as receiver_event_remainder
use Rattle.receiver.specs.contracts.Event.remainder as receiver_event_remainder_contract
use Rattle.receiver_start.proofs.start as receiver_start_start
use Rattle.receiver_start.specs.contracts.start as receiver_start_start_contract
use Rattle.receiver_receive.proofs.receive as receiver_receive_receive
use Rattle.receiver_receive.specs.contracts.receive as receiver_receive_receive_contract
use Rattle.receiver_hand_out.proofs.hand_out as receiver_hand_out_hand_out
use Rattle.receiver_hand_out.specs.contracts.hand_out as receiver_hand_out_hand_out_contract
use Rattle.bond_group.proofs.headers.ShownFromSaid.from as bond_group_shown_from
use Rattle.bond_group.specs.contracts.headers.ShownFromSaid.from as bond_group_shown_from_contract
use Rattle.bond_group.proofs.read_headers as bond_group_read_headers
use Rattle.bond_group.specs.contracts.read_headers as bond_group_read_headers_contract
use Rattle.bond.proofs.spread as bond_spread
use Rattle.bond.specs.contracts.spread as bond_spread_contract
use Rattle.bond.proofs.gather as bond_gather
use Rattle.bond.specs.contracts.gather as bond_gather_contract
use Rattle.listing.proofs.list as listing_list
use Rattle.listing.specs.contracts.list as listing_list_contract

pub record Functions : Type 0 where
  -- ground
  pub refusals_refusal_number : OneOutcome refusals_refusal_number_contract.ended refusals_refusal_number.Reads.Learnt
  pub bits_wide : OneOutcome bits_wide_contract.ended bits_wide.Reads.Learnt
  pub bits_word : OneOutcome bits_word_contract.ended bits_word.Reads.Learnt
  pub bits_long : OneOutcome bits_long_contract.ended bits_long.Reads.Learnt
  pub bits_pack_halves : OneOutcome bits_pack_halves_contract.ended bits_pack_halves.Reads.Learnt
  pub slices_copy : OneOutcome slices_copy_contract.ended slices_copy.Reads.Learnt
  pub slices_fill : OneOutcome slices_fill_contract.ended slices_fill.Reads.Learnt
  pub slices_some_at_least : OneOutcome slices_some_at_least_contract.ended slices_some_at_least.Reads.Learnt
  pub slices_some_other : OneOutcome slices_some_other_contract.ended slices_some_other.Reads.Learnt
  pub slices_differ : OneOutcome slices_differ_contract.ended slices_differ.Reads.Learnt
  pub slices_are_bytes : OneOutcome slices_are_bytes_contract.ended slices_are_bytes.Reads.Learnt
  pub counters_slot_new : OneOutcome counters_slot_new_contract.ended counters_slot_new.Reads.Learnt
  pub counters_relative_number_new : OneOutcome counters_relative_number_new_contract.ended counters_relative_number_new.Reads.Learnt
  pub counters_relative_number_is_available : OneOutcome counters_relative_number_is_available_contract.ended counters_relative_number_is_available.Reads.Learnt
  pub counters_frame_position_new : OneOutcome counters_frame_position_new_contract.ended counters_frame_position_new.Reads.Learnt
  pub counters_is_within : OneOutcome counters_is_within_contract.ended counters_is_within.Reads.Learnt
  pub counters_count_available : OneOutcome counters_count_available_contract.ended counters_count_available.Reads.Learnt
  pub crc_register : OneOutcome crc_register_contract.ended crc_register.Reads.Learnt
  pub slot_bits_slots_as_bits : OneOutcome slot_bits_slots_as_bits_contract.ended slot_bits_slots_as_bits.Reads.Learnt
  -- settings
  pub setting_setting_blank : OneOutcome setting_setting_blank_contract.ended setting_setting_blank.Reads.Learnt
  pub setting_pid_allowed : OneOutcome setting_pid_allowed_contract.ended setting_pid_allowed.Reads.Learnt
  pub setting_announce : OneOutcome setting_announce_contract.ended setting_announce.Reads.Learnt
  pub setting_size_of : OneOutcome setting_size_of_contract.ended setting_size_of.Reads.Learnt
  pub setting_slots_has_unavailable : OneOutcome setting_slots_has_unavailable_contract.ended setting_slots_has_unavailable.Reads.Learnt
  pub setting_slots_has_unavailable_half : OneOutcome setting_slots_has_unavailable_half_contract.ended setting_slots_has_unavailable_half.Reads.Learnt
  pub setting_pairs_has_pair_twice : OneOutcome setting_pairs_has_pair_twice_contract.ended setting_pairs_has_pair_twice.Reads.Learnt
  pub setting_rules_bonding_refusal : OneOutcome setting_rules_bonding_refusal_contract.ended setting_rules_bonding_refusal.Reads.Learnt
  pub setting_rules_frame_type_allowed : OneOutcome setting_rules_frame_type_allowed_contract.ended setting_rules_frame_type_allowed.Reads.Learnt
  pub setting_bytes_read_words : OneOutcome setting_bytes_read_words_contract.ended setting_bytes_read_words.Reads.Learnt
  pub setting_bytes_kind_of : OneOutcome setting_bytes_kind_of_contract.ended setting_bytes_kind_of.Reads.Learnt
  pub setting_bytes_kind_number : OneOutcome setting_bytes_kind_number_contract.ended setting_bytes_kind_number.Reads.Learnt
  pub setting_read_announced_of : OneOutcome setting_read_announced_of_contract.ended setting_read_announced_of.Reads.Learnt
  pub setting_read_setting_of : OneOutcome setting_read_setting_of_contract.ended setting_read_setting_of.Reads.Learnt
  pub setting_write_write_announced : OneOutcome setting_write_write_announced_contract.ended setting_write_write_announced.Reads.Learnt
  pub setting_write_write_setting : OneOutcome setting_write_write_setting_contract.ended setting_write_write_setting.Reads.Learnt
  pub setting_checks_announced_refusal : OneOutcome setting_checks_announced_refusal_contract.ended setting_checks_announced_refusal.Reads.Learnt
  pub setting_checks_width_refusal : OneOutcome setting_checks_width_refusal_contract.ended setting_checks_width_refusal.Reads.Learnt
  pub setting_checks_rule_refusal : OneOutcome setting_checks_rule_refusal_contract.ended setting_checks_rule_refusal.Reads.Learnt
  -- headers and packets
  pub packet_frame_bytes : OneOutcome packet_frame_bytes_contract.ended packet_frame_bytes.Reads.Learnt
  pub packet_place_refusal : OneOutcome packet_place_refusal_contract.ended packet_place_refusal.Reads.Learnt
  pub packet_has_unfit : OneOutcome packet_has_unfit_contract.ended packet_has_unfit.Reads.Learnt
  -- a part of the stream that is lent: which bytes it has; the contract does not say where they lie
  pub packet_rest :
      (κs : Lfts (packet_rest_contract.ended).signature.lifetimes) (a : Args (packet_rest_contract.ended).signature κs) (x y : Outcome packet_rest_contract.ended κs a)
      → Allows packet_rest_contract.ended packet_rest.Reads.Learnt κs a x
      → Allows packet_rest_contract.ended packet_rest.Reads.Learnt κs a y
      → x.0.now ≡ y.0.now
  pub header_layout_places_of : OneOutcome header_layout_places_of_contract.ended header_layout_places_of.Reads.Learnt
  pub header_check_refused_from : OneOutcome header_check_refused_from_contract.ended header_check_refused_from.Reads.Learnt
  pub header_check_cut_run : OneOutcome header_check_cut_run_contract.ended header_check_cut_run.Reads.Learnt
  pub header_check_read_numbers : OneOutcome header_check_read_numbers_contract.ended header_check_read_numbers.Reads.Learnt
  pub header_check_check : OneOutcome header_check_check_contract.ended header_check_check.Reads.Learnt
  pub header_read_read_into : OneOutcome header_read_read_into_contract.ended header_read_read_into.Reads.Learnt
  pub header_read_read : OneOutcome header_read_read_contract.ended header_read_read.Reads.Learnt
  pub header_write_write_header : OneOutcome header_write_write_header_contract.ended header_write_write_header.Reads.Learnt
  pub header_write_write : OneOutcome header_write_write_contract.ended header_write_write.Reads.Learnt
  pub header_calls_call_refusal : OneOutcome header_calls_call_refusal_contract.ended header_calls_call_refusal.Reads.Learnt
  -- frames composed
  pub composer_checks_state_refusal : OneOutcome composer_checks_state_refusal_contract.ended composer_checks_state_refusal.Reads.Learnt
  pub composer_checks_open_rule_refusal : OneOutcome composer_checks_open_rule_refusal_contract.ended composer_checks_open_rule_refusal.Reads.Learnt
  pub composer_checks_mark_refusal : OneOutcome composer_checks_mark_refusal_contract.ended composer_checks_mark_refusal.Reads.Learnt
  pub composer_checks_open_refusal : OneOutcome composer_checks_open_refusal_contract.ended composer_checks_open_refusal.Reads.Learnt
  pub composer_start_start : OneOutcome composer_start_start_contract.ended composer_start_start.Reads.Learnt
  pub composer_begin_begin : OneOutcome composer_begin_begin_contract.ended composer_begin_begin.Reads.Learnt
  -- so is the rest that put hands back: which bytes it has
  pub composer_put_put :
      (κs : Lfts (composer_put_put_contract.ended).signature.lifetimes) (a : Args (composer_put_put_contract.ended).signature κs) (x y : Outcome composer_put_put_contract.ended κs a)
      → Allows composer_put_put_contract.ended composer_put_put.Reads.Learnt κs a x
      → Allows composer_put_put_contract.ended composer_put_put.Reads.Learnt κs a y
      → (answer x.0 ≡ answer y.0) × ((placed_in x.0 ≡ placed_in y.0) × ((rest_in a.1.1.0.now x.0 ≡ rest_in a.1.1.0.now y.0) × (x.1 ≡ y.1)))
  pub composer_close_close : OneOutcome composer_close_close_contract.ended composer_close_close.Reads.Learnt
  -- frames received
  pub receiver_table_header_row : OneOutcome receiver_table_header_row_contract.ended receiver_table_header_row.Reads.Learnt
  pub receiver_table_broken_row : OneOutcome receiver_table_broken_row_contract.ended receiver_table_broken_row.Reads.Learnt
  pub receiver_stage_stage_in : OneOutcome receiver_stage_stage_in_contract.ended receiver_stage_stage_in.Reads.Learnt
  pub receiver_stage_write_stage : OneOutcome receiver_stage_write_stage_contract.ended receiver_stage_write_stage.Reads.Learnt
  pub receiver_stage_store_bytes : OneOutcome receiver_stage_store_bytes_contract.ended receiver_stage_store_bytes.Reads.Learnt
  pub receiver_stage_state_refusal : OneOutcome receiver_stage_state_refusal_contract.ended receiver_stage_state_refusal.Reads.Learnt
  pub receiver_event_number : OneOutcome receiver_event_number_contract.ended receiver_event_number.Reads.Learnt
  pub receiver_event_remainder : OneOutcome receiver_event_remainder_contract.ended receiver_event_remainder.Reads.Learnt
  pub receiver_start_start : OneOutcome receiver_start_start_contract.ended receiver_start_start.Reads.Learnt
  pub receiver_receive_receive : OneOutcome receiver_receive_receive_contract.ended receiver_receive_receive.Reads.Learnt
  pub receiver_hand_out_hand_out : OneOutcome receiver_hand_out_hand_out_contract.ended receiver_hand_out_hand_out.Reads.Learnt
  -- bonded carriers
  pub bond_group_shown_from : OneOutcome bond_group_shown_from_contract.ended bond_group_shown_from.Reads.Learnt
  pub bond_group_read_headers : OneOutcome bond_group_read_headers_contract.ended bond_group_read_headers.Reads.Learnt
  pub bond_spread : OneOutcome bond_spread_contract.ended bond_spread.Reads.Learnt
  pub bond_gather : OneOutcome bond_gather_contract.ended bond_gather.Reads.Learnt
  -- the lister
  pub listing_list : OneOutcome listing_list_contract.ended listing_list.Reads.Learnt
