-- Each call that C can make, by its name in niranbok.h: its contract allows one outcome.
use Rattle.unique.specs.Outcomes.{OneOutcome}
use Rattle.counters.proofs.niranbok_slot as slot
use Rattle.counters.specs.contracts.niranbok_slot as slot_contract
use Rattle.counters.proofs.niranbok_relative_number as relative_number
use Rattle.counters.specs.contracts.niranbok_relative_number as relative_number_contract
use Rattle.counters.proofs.niranbok_frame_position as frame_position
use Rattle.counters.specs.contracts.niranbok_frame_position as frame_position_contract
use Rattle.counters.proofs.niranbok_is_available as is_available
use Rattle.counters.specs.contracts.niranbok_is_available as is_available_contract
use Rattle.counters.proofs.niranbok_count_available as count_available
use Rattle.counters.specs.contracts.niranbok_count_available as count_available_contract
use Rattle.crc.proofs.niranbok_crc as crc
use Rattle.crc.specs.contracts.niranbok_crc as crc_contract
use Rattle.setting.proofs.niranbok_pid_allowed as pid_allowed
use Rattle.setting.specs.contracts.niranbok_pid_allowed as pid_allowed_contract
use Rattle.setting_calls.proofs.niranbok_setting_blank as setting_blank
use Rattle.setting_calls.specs.contracts.niranbok_setting_blank as setting_blank_contract
use Rattle.setting_calls.proofs.niranbok_setting_widths as setting_widths
use Rattle.setting_calls.specs.contracts.niranbok_setting_widths as setting_widths_contract
use Rattle.setting_calls.proofs.niranbok_setting_rules as setting_rules
use Rattle.setting_calls.specs.contracts.niranbok_setting_rules as setting_rules_contract
use Rattle.packet.proofs.niranbok_place_refusal as place_refusal
use Rattle.packet.specs.contracts.niranbok_place_refusal as place_refusal_contract
use Rattle.packet.proofs.niranbok_composer_rest as composer_rest
use Rattle.packet.specs.contracts.niranbok_composer_rest as composer_rest_contract
use Rattle.header_calls.proofs.niranbok_header_read as header_read
use Rattle.header_calls.specs.contracts.niranbok_header_read as header_read_contract
use Rattle.header_calls_write.proofs.niranbok_header_write as header_write
use Rattle.header_calls_write.specs.contracts.niranbok_header_write as header_write_contract
use Rattle.composer_start.proofs.niranbok_composer_start as composer_start
use Rattle.composer_start.specs.contracts.niranbok_composer_start as composer_start_contract
use Rattle.composer_begin.proofs.niranbok_composer_begin as composer_begin
use Rattle.composer_begin.specs.contracts.niranbok_composer_begin as composer_begin_contract
use Rattle.composer_put.proofs.niranbok_composer_put as composer_put
use Rattle.composer_put.specs.contracts.niranbok_composer_put as composer_put_contract
use Rattle.composer_close.proofs.niranbok_composer_close as composer_close
use Rattle.composer_close.specs.contracts.niranbok_composer_close as composer_close_contract
use Rattle.receiver_start.proofs.niranbok_receiver_start as receiver_start
use Rattle.receiver_start.specs.contracts.niranbok_receiver_start as receiver_start_contract
use Rattle.receiver_receive.proofs.niranbok_receiver_receive as receiver_receive
use Rattle.receiver_receive.specs.contracts.niranbok_receiver_receive as receiver_receive_contract
use Rattle.receiver_hand_out.proofs.niranbok_receiver_hand_out as receiver_hand_out
use Rattle.receiver_hand_out.specs.contracts.niranbok_receiver_hand_out as receiver_hand_out_contract
use Rattle.bond_calls.proofs.niranbok_read_headers as read_headers
use Rattle.bond_calls.specs.contracts.niranbok_read_headers as read_headers_contract
use Rattle.bond_calls.proofs.niranbok_spread as spread
use Rattle.bond_calls.specs.contracts.niranbok_spread as spread_contract
use Rattle.bond_calls.proofs.niranbok_gather as gather
use Rattle.bond_calls.specs.contracts.niranbok_gather as gather_contract

pub record Calls : Type 0 where
  -- ground
  pub niranbok_slot : OneOutcome slot_contract.ended slot.Reads.Learnt
  pub niranbok_relative_number : OneOutcome relative_number_contract.ended relative_number.Reads.Learnt
  pub niranbok_frame_position : OneOutcome frame_position_contract.ended frame_position.Reads.Learnt
  pub niranbok_is_available : OneOutcome is_available_contract.ended is_available.Reads.Learnt
  pub niranbok_count_available : OneOutcome count_available_contract.ended count_available.Reads.Learnt
  pub niranbok_crc : OneOutcome crc_contract.ended crc.Reads.Learnt
  -- settings
  pub niranbok_pid_allowed : OneOutcome pid_allowed_contract.ended pid_allowed.Reads.Learnt
  pub niranbok_setting_blank : OneOutcome setting_blank_contract.ended setting_blank.Reads.Learnt
  pub niranbok_setting_widths : OneOutcome setting_widths_contract.ended setting_widths.Reads.Learnt
  pub niranbok_setting_rules : OneOutcome setting_rules_contract.ended setting_rules.Reads.Learnt
  -- headers and packets
  pub niranbok_place_refusal : OneOutcome place_refusal_contract.ended place_refusal.Reads.Learnt
  pub niranbok_composer_rest : OneOutcome composer_rest_contract.ended composer_rest.Reads.Learnt
  pub niranbok_header_read : OneOutcome header_read_contract.ended header_read.Reads.Learnt
  pub niranbok_header_write : OneOutcome header_write_contract.ended header_write.Reads.Learnt
  -- frames composed
  pub niranbok_composer_start : OneOutcome composer_start_contract.ended composer_start.Reads.Learnt
  pub niranbok_composer_begin : OneOutcome composer_begin_contract.ended composer_begin.Reads.Learnt
  pub niranbok_composer_put : OneOutcome composer_put_contract.ended composer_put.Reads.Learnt
  pub niranbok_composer_close : OneOutcome composer_close_contract.ended composer_close.Reads.Learnt
  -- frames received
  pub niranbok_receiver_start : OneOutcome receiver_start_contract.ended receiver_start.Reads.Learnt
  pub niranbok_receiver_receive : OneOutcome receiver_receive_contract.ended receiver_receive.Reads.Learnt
  pub niranbok_receiver_hand_out : OneOutcome receiver_hand_out_contract.ended receiver_hand_out.Reads.Learnt
  -- bonded carriers
  pub niranbok_read_headers : OneOutcome read_headers_contract.ended read_headers.Reads.Learnt
  pub niranbok_spread : OneOutcome spread_contract.ended spread.Reads.Learnt
  pub niranbok_gather : OneOutcome gather_contract.ended gather.Reads.Learnt
