-- The refusals of the paper's table by number.
use Rattle.std.specs.Prelude.{ℕ, Result, Ok, Err}
use Rattle.refusals.specs.declared.Refusal.{Refusal}

-- a refusal's number
abbrev pub number : Refusal → ℕ
number Refusal.Length = 1
number Refusal.HeaderPid = 2
number Refusal.OutOfRange = 17
number Refusal.NoFrame = 16
number Refusal.SyncByte = 3
number Refusal.OtherPid = 4
number Refusal.FixedBits = 5
number Refusal.SyncBits = 6
number Refusal.Crc = 7
number Refusal.ReservedBits = 20
number Refusal.FrameType = 8
number Refusal.UnavailableNumber = 9
number Refusal.EqualIdentifiers = 10
number Refusal.BondingFields = 11
number Refusal.Group = 14
number Refusal.UnavailableStream = 13
number Refusal.Room = 15
number Refusal.UnfitPacket = 12

-- what a call answers: 0 where nothing is refused, else the refusal's number
abbrev pub answer : {T : Type 0} → Result T Refusal → ℕ
answer (Ok v) = 0
answer (Err refusal) = number refusal
