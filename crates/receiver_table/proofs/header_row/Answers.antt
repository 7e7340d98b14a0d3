-- `header_row` meets its contract, stage by stage. Assumes nothing.
use Rattle.std.proofs.Common.{refl}
use Rattle.receiver.specs.Table.{row_of}
use Rattle.receiver_table.proofs.header_row.Goals as goal

pub returns-in-Waiting : goal.returns-in-Waiting
unfolding row_of
returns-in-Waiting c = rw c.in-Waiting.is refl

pub returns-in-Open : goal.returns-in-Open
unfolding row_of
returns-in-Open c = rw c.in-Open.is c.vouch.ensures

pub returns-in-Ready : goal.returns-in-Ready
unfolding row_of
returns-in-Ready c = rw c.in-Ready.is c.vouch-in-Ready.ensures
