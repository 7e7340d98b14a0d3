-- `list_refusal` meets its contract, by its tests. Assumes nothing.
use Prim.Native.Nat.{◌+◌, ◌^◌, ◌≤◌}
use mathlib.Core.Path.{sym}
use native.Mathlib.Omega.{arith}
use borrow.Author.Tests.{ltb-true, ltb-false}
use Rattle.listing.specs.Listing.{packets_in}
use Rattle.listing.proofs.Calls.{large_number, little_room, right_call}
use Rattle.listing.proofs.list_refusal.Goals as goal
use Rattle.listing.proofs.list_refusal.Goals.{Joined-else-packets-gt0, else-packets-gt0-via-else-packets-gt0, else-packets-gt0-via-then-packets-gt0+else-first-packets}

pub returns-then-first-packets : goal.returns-then-first-packets
returns-then-first-packets c = let a = c.args in sym (large_number a.first a.lent a.room (omega (arith, ltb-true)))

-- the numbers fit where the first check was passed
fit : (c : Joined-else-packets-gt0) → c.args.first + packets_in c.args.lent ≤ 2 ^ 64
fit c = elim c.else-packets-gt0.branch [ else-packets-gt0-via-then-packets-gt0+else-first-packets w ↦ omega (arith, ltb-false) | else-packets-gt0-via-else-packets-gt0 w ↦ omega arith ]

pub returns-then-room-packets : goal.returns-then-room-packets
returns-then-room-packets c = let a = c.args in sym (little_room a.first a.lent a.room (fit (goal.at.returns-then-room-packets c).Joined-else-packets-gt0) (omega arith))

pub returns : goal.returns
returns c = let a = c.args in sym (right_call a.first a.lent a.room (fit (goal.at.returns c).Joined-else-packets-gt0) (omega arith))
