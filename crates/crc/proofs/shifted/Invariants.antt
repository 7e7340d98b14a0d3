-- `crc::shifted` meets its contract. The loop's invariant: the shifts that are left bring the register to the one that is asked.
-- The measure is how many are left. Assumes nothing.
use Prim.Native.Nat.{◌-◌, ◌^◌, ◌<◌}
use mathlib.Core.Path.{◌≡◌}
use Rattle.crc.specs.Crc.{shifts}
use Rattle.crc.proofs.shifted.Given as goal

abbrev pub invariant-loop : goal.invariant-loop
invariant-loop l = (l.r < 2 ^ 32) × (shifts (l.n - l.counter) l.r ≡ shifts l.n l.x)
