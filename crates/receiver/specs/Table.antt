-- The receiver's table: what each sort of packet does to a receiver, and where the receiver stands afterwards. A frame has `slots` slots
-- behind its header: 52, or what the kind's size says.
use Rattle.std.specs.Prelude.{ℕ, ◌+◌, ◌-◌, ◌%◌, ◌^◌, Bool, true, false, cond, ◌&&◌, List, [], ◌∷◌, leb, ltb, eqb}
use Rattle.setting.specs.Refusal.{Check}
use Rattle.receiver.specs.declared.Stage.{Stage}
use Rattle.receiver.specs.declared.Event.{Event}
use Rattle.receiver.specs.declared.Row.{Row}

-- a good header is one that the reader accepts; a broken packet lacks 0x47 or bears the header PID without being one. With a broken packet
-- goes the remainder that the reader shows of it
pub data Sort : Type 0 where
  good : Sort
  broken : ℕ → Sort
  other : Sort

-- the step between two counters: a byte's wrapping subtraction, then reduced to four bits
abbrev pub counter_step : ℕ → ℕ → ℕ
counter_step from to = (to + 2 ^ 8 - from) % 2 ^ 8 % 2 ^ 4

-- a row's result: what happened, and where the receiver stands afterwards
abbrev pub row : Event → Stage → Row
row event stage = record { event = event; stage = stage }

-- the rows of an open frame with counter `from` and k packets stored; `to` is the counter of a good header
unfoldable pub open_row : ℕ → ℕ → ℕ → Sort → ℕ → Row
open_row slots from k good to =
    cond (eqb k slots && eqb (counter_step from to) 1)
    (row Event.Ready (Stage.Ready to))
    (row (cond (ltb k slots) Event.Short Event.Jump) (Stage.Open to 0))
open_row slots from k (broken remainder) to = row (Event.Broken remainder) Stage.Waiting
open_row slots from k other to = cond (ltb k slots) (row Event.Stored (Stage.Open from (k + 1))) (row Event.Long Stage.Waiting)

-- all rows. While a frame is ready, the next one is open with no packet stored
unfoldable pub row_of : ℕ → Stage → Sort → ℕ → Row
row_of slots Stage.Waiting good to = row Event.Opened (Stage.Open to 0)
row_of slots Stage.Waiting (broken remainder) to = row Event.Nothing Stage.Waiting
row_of slots Stage.Waiting other to = row Event.Nothing Stage.Waiting
row_of slots (Stage.Open from k) sort to = open_row slots from k sort to
row_of slots (Stage.Ready from) sort to = open_row slots from 0 sort to

-- what an event means: whether a frame became ready, and why one was dropped (1 short, 2 long, 3 jump, 4 broken, 0 none was dropped)
abbrev pub makes_ready : Event → Bool
makes_ready Event.Nothing = false
makes_ready Event.Opened = false
makes_ready Event.Stored = false
makes_ready Event.Ready = true
makes_ready Event.Short = false
makes_ready Event.Jump = false
makes_ready Event.Long = false
makes_ready (Event.Broken remainder) = false

abbrev pub dropped_by : Event → ℕ
dropped_by Event.Nothing = 0
dropped_by Event.Opened = 0
dropped_by Event.Stored = 0
dropped_by Event.Ready = 0
dropped_by Event.Short = 1
dropped_by Event.Long = 2
dropped_by Event.Jump = 3
dropped_by (Event.Broken remainder) = 4

-- whether a frame is ready
abbrev pub is_ready : Stage → Bool
is_ready Stage.Waiting = false
is_ready (Stage.Open from k) = false
is_ready (Stage.Ready from) = true

-- how many packets of the open frame are stored; if none is open, as many as there are slots
unfoldable pub stored_of : ℕ → Stage → ℕ
stored_of slots Stage.Waiting = slots
stored_of slots (Stage.Open from k) = k
stored_of slots (Stage.Ready from) = 0

-- 17: the counter and the number of stored packets
unfoldable pub stage_checks : ℕ → Stage → List Check
stage_checks slots Stage.Waiting = []
stage_checks slots (Stage.Open from k) = (17, leb (2 ^ 4) from) ∷ (17, ltb slots k) ∷ []
stage_checks slots (Stage.Ready from) = (17, leb (2 ^ 4) from) ∷ []
