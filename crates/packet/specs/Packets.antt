-- Packets of 188 bytes, of which a frame has a header and one for each slot.
use Rattle.std.specs.Prelude.{ℕ, ◌+◌, ◌*◌, ◌/◌, Bool, not, ◌||◌, List, [], ◌∷◌, eqb, length, take, drop, replicate}
use Rattle.slices.specs.Slices.{any_below}
use Rattle.setting.specs.Refusal.{first_of}
use Rattle.header_layout.specs.Layout.{sync_byte, Field}
use Rattle.header_layout.specs.Header.{header_length, start_value}

-- 188 bytes: a header is a packet
abbrev pub packet_length : ℕ
packet_length = header_length

-- the header and a packet for each of so many slots: 9,964 bytes for 52
abbrev pub frame_length : ℕ → ℕ
frame_length slots = packet_length * (slots + 1)

-- slot i: the 188 bytes that start at 188 × i. Slot 0 is the header
unfoldable pub slot : ℕ → List ℕ → List ℕ
slot i frame = take packet_length (drop (packet_length * i) frame)

-- 47 1F FF 10, then 184 bytes FF
unfoldable pub null_packet : List ℕ
null_packet = 0x47 ∷ 0x1F ∷ 0xFF ∷ 0x10 ∷ replicate 184 0xFF

-- whether a packet lacks 0x47 or bears the header PID
unfoldable pub unfit : ℕ → List ℕ → Bool
unfit pid p = not (eqb (start_value p Field.sync_byte_field) sync_byte) || eqb (start_value p Field.header-pid) pid

-- 1: it is not 188 bytes long; 12: it is unfit; 0: it may stand in a slot
unfoldable pub place_refusal : ℕ → List ℕ → ℕ
place_refusal pid p = first_of ((1, not (eqb (length p) packet_length)) ∷ (12, unfit pid p) ∷ [])

-- whether any whole packet of a stream is unfit
unfoldable pub some_unfit_in : ℕ → List ℕ → Bool
some_unfit_in pid stream = any_below (length stream / packet_length) (λ k. unfit pid (slot k stream))

-- the rest of a stream from which so many packets were placed
unfoldable pub rest_of : List ℕ → ℕ → List ℕ
rest_of stream placed = drop (packet_length * placed) stream
