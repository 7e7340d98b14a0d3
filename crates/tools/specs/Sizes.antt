-- The sizes of the programs' buffers, made from the counts.
use Rattle.std.specs.Prelude.{ℕ, ◌+◌, ◌*◌}
use Rattle.counters.specs.Counters.{last_slot, last_stream, last_position, last_carrier}
use Rattle.packet.specs.Packets.{frame_length}

-- the shares of a frame: one for slots of no stream, and one for each stream
abbrev pub share_count : ℕ
share_count = last_stream + 1

-- the bytes of a group that has the most frames
abbrev pub group_length : ℕ
group_length = frame_length last_slot * (last_carrier * last_position)
