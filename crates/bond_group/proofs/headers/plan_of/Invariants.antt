-- `plan_of` meets its contract: behind j headers the plan of j headers is written. Assumes nothing.
use Rattle.bond_group.proofs.Lent.{Written}
use Rattle.bond_group.proofs.Through.{Through}
use Rattle.bond_group.proofs.headers.plan_of.Given as goal

abbrev pub invariant-loop-j : goal.invariant-loop-j
invariant-loop-j l = record {
  through : Through l.b l.group l.behind l.group_id l.j;
  written : Written l.b l.group l.fn.frames l.fn.slots l.frames l.slots l.is_carried l.packets l.j;
}
