-- `stage_bytes` meets its contract, stage by stage. Assumes nothing.
use mathlib.Core.Path.{refl}
use Rattle.receiver.specs.Bytes.{stage_bytes}
use Rattle.receiver_stage.proofs.stage_bytes.Goals as goal

pub returns-in-Waiting : goal.returns-in-Waiting
unfolding stage_bytes
returns-in-Waiting c = rw c.in-Waiting.is refl

pub returns-in-Open : goal.returns-in-Open
unfolding stage_bytes
returns-in-Open c = rw c.in-Open.is refl

pub returns-in-Ready : goal.returns-in-Ready
unfolding stage_bytes
returns-in-Ready c = rw c.in-Ready.is refl
