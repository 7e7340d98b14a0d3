-- The listing of a recording: a line for each packet, and one for left-over bytes.
use Rattle.std.specs.Prelude.{Result, Ok, Err, ℕ, zero, suc, ◌+◌, ◌*◌, ◌/◌, ◌%◌, ◌^◌, ◌≡◌, cond, List, [], ◌∷◌, ◌++◌, eqb, ltb, length, take, drop}
use Rattle.setting.specs.declared.Kind.{Kind}
use Rattle.refusals.specs.Refusals.{number}
use Rattle.setting.specs.Refusal.{Check, first_of}
use Rattle.counters.specs.Counters.{count_available}
use Rattle.header_check.specs.OnPaper.{Refusal}
use Rattle.header_read.specs.Reader.{Reading}
use Rattle.header_read.specs.Reader.{read_of}
use Rattle.packet.specs.Packets.{packet_length}
use Rattle.listing.specs.Text.{space, line_feed, decimal, hexadecimal, field}

-- the header PID of a recording that is listed
abbrev pub listed_pid : ℕ
listed_pid = 0x1FF0

-- how many whole packets so many bytes are
abbrev pub packets_in : ℕ → ℕ
packets_in lent = lent / packet_length

-- the most bytes that a line takes
abbrev pub line_room : ℕ
line_room = 96

-- the most bytes that the listing of so many bytes takes: a line for each packet, and one for left-over bytes
abbrev pub room_for : ℕ → ℕ
room_for lent = line_room * (packets_in lent + 1)

-- the words `refused`, `header` and `tail`
abbrev pub refused_word : List ℕ
refused_word = 114 ∷ 101 ∷ 102 ∷ 117 ∷ 115 ∷ 101 ∷ 100 ∷ []

abbrev pub header_word : List ℕ
header_word = 104 ∷ 101 ∷ 97 ∷ 100 ∷ 101 ∷ 114 ∷ []

abbrev pub tail_word : List ℕ
tail_word = 116 ∷ 97 ∷ 105 ∷ 108 ∷ []

-- what is said of a packet that is not a good header: the refusal's number, and behind 7 the remainder
unfoldable pub refused_fields : Refusal → List ℕ
refused_fields r =
    field refused_word space
    ++ cond (eqb r.number 7) (field (decimal r.number) space ++ field (hexadecimal r.remainder) line_feed) (field (decimal r.number) line_feed)

-- what is said of a header: its counter, its version and how many streams are available
unfoldable pub header_fields : ℕ → ℕ → ℕ → List ℕ
header_fields counter version available =
    field header_word space
    ++ (field (decimal counter) space ++ (field (decimal version) space ++ field (decimal available) line_feed))

-- what is said of a packet that was read
unfoldable pub reading_fields : Reading → List ℕ
reading_fields r =
    cond (eqb r.refusal.number 0)
    (header_fields r.setting.continuity_counter r.setting.version_number (count_available r.setting.availability))
    (refused_fields r.refusal)

-- the line of the packet that has this number
unfoldable pub line : ℕ → List ℕ → List ℕ
line number packet = field (decimal number) space ++ reading_fields (read_of Kind.Plain listed_pid packet)

-- packet k of a recording, counted from 0
abbrev pub packet_at : List ℕ → ℕ → List ℕ
packet_at bytes k = take packet_length (drop (packet_length * k) bytes)

-- the lines of the first n packets; the first packet has the number `first`
unfoldable pub lines : ℕ → List ℕ → ℕ → List ℕ
lines first bytes zero = []
lines first bytes (suc n) = lines first bytes n ++ line (first + n) (packet_at bytes n)

-- the line for left-over bytes, if there are any
unfoldable pub tail_line : ℕ → List ℕ
tail_line left = cond (eqb left 0) [] (field tail_word space ++ field (decimal left) line_feed)

-- the listing of a recording's bytes; the first packet has the number `first`
unfoldable pub listing : ℕ → List ℕ → List ℕ
listing first bytes = lines first bytes (packets_in (length bytes)) ++ tail_line (length bytes % packet_length)

-- the checks of a call: the packets' numbers fit 64 bits, and the buffer has room
unfoldable pub list_checks : ℕ → ℕ → ℕ → List Check
list_checks first lent room = (17, ltb (2 ^ 64) (first + packets_in lent)) ∷ (15, ltb room (room_for lent)) ∷ []

-- the refusal of a call that lists `lent` bytes into a buffer of `room` bytes, or 0
unfoldable pub list_refusal : ℕ → ℕ → ℕ → ℕ
list_refusal first lent room = first_of (list_checks first lent room)

-- a refusal and length 0, or refusal 0 and the listing's length
pub record Listed : Type 0 where
  pub refusal : ℕ
  pub length : ℕ

-- those of a result
abbrev pub listed_in : Result ℕ Rattle.refusals.specs.declared.Refusal.Refusal → Listed
listed_in (Ok n) = record { refusal = 0; length = n }
listed_in (Err why) = record { refusal = number why; length = 0 }

-- what a call answers
unfoldable pub listed : ℕ → List ℕ → ℕ → Listed
listed first bytes room =
    record {
      refusal = list_refusal first (length bytes) room;
      length = cond (eqb (list_refusal first (length bytes) room) 0) (length (listing first bytes)) 0;
    }

-- a text over the front of a buffer; its other bytes stay
unfoldable pub over_front : List ℕ → List ℕ → List ℕ
over_front text buffer = text ++ drop (length text) buffer

-- what the buffer holds after a call: the listing over its front, or what it held before
unfoldable pub listed_over : ℕ → List ℕ → List ℕ → List ℕ
listed_over first bytes buffer =
    cond (eqb (list_refusal first (length bytes) (length buffer)) 0) (over_front (listing first bytes) buffer) buffer

-- A recording that is listed block by block gets the same listing as the whole, if each block but the last is whole packets.
abbrev pub ByBlocks : Type 0
ByBlocks =
    (first packets : ℕ) (block rest : List ℕ) → length block ≡ packet_length * packets
    → listing first (block ++ rest) ≡ listing first block ++ listing (first + packets) rest
