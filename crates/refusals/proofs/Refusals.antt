-- No refusal has the number 0, and a number is that of one refusal alone. Assumes nothing.
use Prim.Native.Nat.{ℕ}
use mathlib.Core.Path.{◌≡◌, refl, sym, ap, ◌∙◌}
use mathlib.Core.Bool.{true, false, cond, true≢false}
use lib.Dec.{eqb}
use borrow.Author.Tests.{eq-eqb}
use Rattle.std.specs.Prelude.{Result, Ok, Err, is_err, is_ok}
use Rattle.refusals.specs.declared.Refusal.{Refusal}
use Rattle.refusals.specs.Refusals.{number, answer}

not_0 : (refusal : Refusal) → eqb (number refusal) 0 ≡ false
not_0 Refusal.Length = refl
not_0 Refusal.HeaderPid = refl
not_0 Refusal.OutOfRange = refl
not_0 Refusal.NoFrame = refl
not_0 Refusal.SyncByte = refl
not_0 Refusal.OtherPid = refl
not_0 Refusal.FixedBits = refl
not_0 Refusal.SyncBits = refl
not_0 Refusal.Crc = refl
not_0 Refusal.ReservedBits = refl
not_0 Refusal.FrameType = refl
not_0 Refusal.UnavailableNumber = refl
not_0 Refusal.EqualIdentifiers = refl
not_0 Refusal.BondingFields = refl
not_0 Refusal.Group = refl
not_0 Refusal.UnavailableStream = refl
not_0 Refusal.Room = refl
not_0 Refusal.UnfitPacket = refl

pub is_some_number : (refusal : Refusal) → number refusal ≡ 0 → ⊥
is_some_number refusal e = true≢false (sym (eq-eqb _ _ e) ∙ not_0 refusal)

-- the refusal with a number
abbrev pub numbered : ℕ → Refusal
numbered n =
    cond (eqb n 1) Refusal.Length (cond (eqb n 2) Refusal.HeaderPid (cond (eqb n 17) Refusal.OutOfRange (cond (eqb n 16) Refusal.NoFrame
    (cond (eqb n 3) Refusal.SyncByte (cond (eqb n 4) Refusal.OtherPid (cond (eqb n 5) Refusal.FixedBits (cond (eqb n 6) Refusal.SyncBits
    (cond (eqb n 7) Refusal.Crc (cond (eqb n 20) Refusal.ReservedBits (cond (eqb n 8) Refusal.FrameType (cond (eqb n 9) Refusal.UnavailableNumber
    (cond (eqb n 10) Refusal.EqualIdentifiers (cond (eqb n 11) Refusal.BondingFields (cond (eqb n 14) Refusal.Group
    (cond (eqb n 13) Refusal.UnavailableStream (cond (eqb n 15) Refusal.Room Refusal.UnfitPacket))))))))))))))))

pub by_number : (refusal : Refusal) → refusal ≡ numbered (number refusal)
by_number Refusal.Length = refl
by_number Refusal.HeaderPid = refl
by_number Refusal.OutOfRange = refl
by_number Refusal.NoFrame = refl
by_number Refusal.SyncByte = refl
by_number Refusal.OtherPid = refl
by_number Refusal.FixedBits = refl
by_number Refusal.SyncBits = refl
by_number Refusal.Crc = refl
by_number Refusal.ReservedBits = refl
by_number Refusal.FrameType = refl
by_number Refusal.UnavailableNumber = refl
by_number Refusal.EqualIdentifiers = refl
by_number Refusal.BondingFields = refl
by_number Refusal.Group = refl
by_number Refusal.UnavailableStream = refl
by_number Refusal.Room = refl
by_number Refusal.UnfitPacket = refl

-- what a check says whose answer is a number
abbrev pub said : ℕ → Result Unit Refusal
said n = cond (eqb n 0) (Ok tt) (Err (numbered n))

pub by_answer : (checked : Result Unit Refusal) → checked ≡ said (answer checked)
by_answer (Ok done) = refl
by_answer (Err refusal) = rw (not_0 refusal) (ap Err (by_number refusal))

-- the answer of a check that failed, and of one that went through
pub failed : {T : Type 0} (checked : Result T Refusal) → is_err checked ≡ true → answer checked ≡ 0 → ⊥
failed (Ok v) e = absurd (true≢false (sym e))
failed (Err refusal) e = is_some_number refusal

pub went_through : {T : Type 0} (checked : Result T Refusal) → is_err checked ≡ false → answer checked ≡ 0
went_through (Ok v) e = refl
went_through (Err refusal) e = absurd (true≢false e)

pub let_through : {T : Type 0} (checked : Result T Refusal) → is_ok checked ≡ true → answer checked ≡ 0
let_through (Ok v) e = refl
let_through (Err refusal) e = absurd (true≢false (sym e))

pub held_back : {T : Type 0} (checked : Result T Refusal) → is_ok checked ≡ false → answer checked ≡ 0 → ⊥
held_back (Ok v) e = absurd (true≢false e)
held_back (Err refusal) e = is_some_number refusal
