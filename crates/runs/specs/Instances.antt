-- Demands 2 and 3 over frames at both sizes, by name, as statements. Long frames have 53 packets and up to 15 streams, short ones 41 packets
-- and up to 7 streams. The proofs stand apart: each statement is the general one with its kind fixed.
use Rattle.std.specs.Prelude.{ℕ, ◌*◌, ◌≡◌, List, [], ◌∷◌, ◌++◌, map, length}
use Rattle.setting.specs.declared.Kind.{Kind}
use Rattle.setting_bytes.specs.Kinds.{kind_of, kind_number}
use Rattle.packet.specs.Packets.{packet_length}
use Rattle.runs.specs.Runs.{Each}
use Rattle.runs.specs.Firmware.{Closed}
use Rattle.runs.specs.Losses.{Sent, arriving, wanted}
use Rattle.runs.specs.Demands.{RunOfCalls, frames_closed, OneRun, LostOrSpoiled, FreshAndAsked, hands_out, whole, header_alone, placed_in}

-- the kinds' numbers in the calls: plain headers, whose frames are long, and short ones
abbrev pub long : ℕ
long = kind_number Kind.Plain

abbrev pub short : ℕ
short = kind_number Kind.Short

-- ---- demand 3: packets of different frames are never mixed

-- of the runs of one kind
abbrev pub DemandThreeOf : ℕ → Type 0
DemandThreeOf kind =
    (pid r : ℕ) (sent : List Sent)
    → OneRun pid kind (map (λ s. s.frame) sent)
    → LostOrSpoiled 15 pid kind sent
    → (a : FreshAndAsked pid kind r (arriving sent))
    → hands_out a ≡ wanted (kind_of kind) pid r sent

-- of long frames
abbrev pub LongDemandThree : Type 0
LongDemandThree = DemandThreeOf long

-- of short frames
abbrev pub ShortDemandThree : Type 0
ShortDemandThree = DemandThreeOf short

-- ---- demand 2: placed packets come out packet for packet

-- of any frame of the runs of one kind
abbrev pub PacketForPacketOf : ℕ → Type 0
PacketForPacketOf kind =
    (pid r : ℕ) (run : RunOfCalls pid kind) (earlier later : List Closed) (f next : Closed)
    → frames_closed run ≡ earlier ++ (f ∷ next ∷ later)
    → (a : FreshAndAsked pid kind r (arriving (whole kind f.frame ∷ header_alone kind next.frame ∷ [])))
    → (hands_out a ≡ f.placed r) × (length (hands_out a) ≡ packet_length * f.count r)

-- of a long frame
abbrev pub LongPacketForPacket : Type 0
LongPacketForPacket = PacketForPacketOf long

-- of a short frame
abbrev pub ShortPacketForPacket : Type 0
ShortPacketForPacket = PacketForPacketOf short

-- of the whole runs of one kind, frame after frame
abbrev pub RunForRunOf : ℕ → Type 0
RunForRunOf kind =
    (pid r : ℕ) (run : RunOfCalls pid kind)
    → (a : FreshAndAsked pid kind r (arriving (map (λ f. whole kind f.frame) (frames_closed run))))
    → hands_out a ≡ placed_in r (frames_closed run)

-- of a run of long frames
abbrev pub LongRunForRun : Type 0
LongRunForRun = RunForRunOf long

-- of a run of short frames
abbrev pub ShortRunForRun : Type 0
ShortRunForRun = RunForRunOf short

-- ---- they speak of something

-- a run that closed two frames, each of so many packets
pub record TwoFrames (kind packets : ℕ) : Type 0 where
  pub pid : ℕ
  pub run : RunOfCalls pid kind
  pub two : length (frames_closed run) ≡ 2
  pub frames-long : Each (λ f. length f.frame ≡ packet_length * packets) (frames_closed run)

-- there is a run of long frames, of 53 packets
abbrev pub LongRun : Type 0
LongRun = TwoFrames long 53

-- there is a run of short frames, of 41 packets
abbrev pub ShortRun : Type 0
ShortRun = TwoFrames short 41
