-- The three counters of J.183, their first and last values, what a checked constructor answers, and which streams are available.
use Rattle.std.specs.Prelude.{ℕ, zero, suc, ◌+◌, ◌-◌, ◌/◌, ◌%◌, ◌^◌, Bool, cond, ◌&&◌, leb, eqb, Result, Ok, Err}
use Rattle.refusals.specs.declared.Refusal.{Refusal}
use Rattle.refusals.specs.Refusals.{number}

-- slots: slot 0 is the header, the others are counted from 1
abbrev pub first_slot : ℕ
first_slot = 1

abbrev pub last_slot : ℕ
last_slot = 52

-- the last one of a short frame
abbrev pub last_short_slot : ℕ
last_short_slot = 40

-- relative numbers of streams
abbrev pub first_stream : ℕ
first_stream = 1

abbrev pub last_stream : ℕ
last_stream = 15

-- the last one of a short frame
abbrev pub last_short_stream : ℕ
last_short_stream = 7

-- positions of a frame in its super frame
abbrev pub first_position : ℕ
first_position = 1

abbrev pub last_position : ℕ
last_position = 4

-- carriers of a bonded group
abbrev pub last_carrier : ℕ
last_carrier = 8

-- whether n lies between the first and the last value, both of them included
abbrev pub within : ℕ → ℕ → ℕ → Bool
within first last n = leb first n && leb n last

-- whether stream r is available: its bit is one, stream 1 having the highest of the fifteen
unfoldable pub available : ℕ → ℕ → Bool
available availability r = within first_stream last_stream r && eqb (availability / 2 ^ (last_stream - r) % 2) 1

-- how many of the numbers 1 to n pass the test
unfoldable pub how_many : ℕ → (ℕ → Bool) → ℕ
how_many zero test = 0
how_many (suc n) test = cond (test (suc n)) 1 0 + how_many n test

-- how many of the fifteen streams are available
unfoldable pub count_available : ℕ → ℕ
count_available availability = how_many last_stream (available availability)

-- what a check of n answers on paper: refusal 0 and the number, or refusal 17 and zero
unfoldable pub checked : ℕ → ℕ → ℕ → ℕ × ℕ
checked first last n = cond (within first last n) (0, n) (17, 0)

-- the paper's number and value of what a checked constructor answers
abbrev pub answered : {T : Type 0} → (T → ℕ) → Result T Refusal → ℕ × ℕ
answered value (Ok v) = (0, value v)
answered value (Err refusal) = (number refusal, 0)
