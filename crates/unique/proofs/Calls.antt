-- The calls that C can make. Of an outcome x with what its contract tells, p, each line says which equation gives which part: the answer, then the
-- arguments in their order. `_` stands for what is not lent to write.
use Rattle.unique.specs.Calls.{Calls}
use Rattle.unique.proofs.One.{one}

pub calls : Calls
calls = record {
  -- ground
  niranbok_slot = one (λ κs a x p i. (p i, _));
  niranbok_relative_number = one (λ κs a x p i. (p i, _));
  niranbok_frame_position = one (λ κs a x p i. (p i, _));
  niranbok_is_available = one (λ κs a x p i. (p i, _));
  niranbok_count_available = one (λ κs a x p i. (p i, _));
  niranbok_crc = one (λ κs a x p i. (p i, _));
  -- settings
  niranbok_pid_allowed = one (λ κs a x p i. (p i, _));
  niranbok_setting_blank = one (λ κs a x p i. (p.0 i, (p.1 i, _)));
  niranbok_setting_widths = one (λ κs a x p i. (p i, _));
  niranbok_setting_rules = one (λ κs a x p i. (p i, _));
  -- headers and packets
  niranbok_place_refusal = one (λ κs a x p i. (p i, _));
  niranbok_composer_rest = one (λ κs a x p i. (p i, _));
  niranbok_header_read = one (λ κs a x p i. (p.0 i, (_, (_, (_, (p.1.1 i, (p.1.0 i, _)))))));
  niranbok_header_write = one (λ κs a x p i. (p.0 i, (p.1 i, _)));
  -- frames composed
  niranbok_composer_start = one (λ κs a x p i. (p.0 i, (p.1 i, _)));
  niranbok_composer_begin = one (λ κs a x p i. (p.0 i, (p.1.0 i, (p.1.1 i, _))));
  niranbok_composer_put = one (λ κs a x p i. (p.0 i, (p.1.1.0 i, (p.1.1.1 i, (_, (_, (p.1.0 i, _)))))));
  niranbok_composer_close = one (λ κs a x p i. (p.0 i, (p.1.0 i, (p.1.1 i, _))));
  -- frames received
  niranbok_receiver_start = one (λ κs a x p i. (p.0 i, (p.1 i, _)));
  niranbok_receiver_receive = one (λ κs a x p i. (p.0 i, (p.1.1.1.0 i, (_, (p.1.1.1.1 i, (p.1.0 i, (p.1.1.0 i, _)))))));
  niranbok_receiver_hand_out = one (λ κs a x p i. (p.0 i, (_, (_, (p.1.1 i, (_, (p.1.0 i, _)))))));
  -- bonded carriers
  niranbok_read_headers = one (λ κs a x p i. (p.0 i, (_, (_, (_, (_, (_, (p.1.1.0 i, (p.1.1.1 i, (p.1.0 i, _))))))))));
  niranbok_spread = one (λ κs a x p i. (p.0 i, (p.1.1.1 i, (_, (_, (_, (_, (_, (p.1.1.0 i, (p.1.0 i, _))))))))));
  niranbok_gather = one (λ κs a x p i. (p.0 i, (_, (p.1.1.1 i, (_, (_, (_, (_, (p.1.1.0 i, (p.1.0 i, _))))))))));
}
