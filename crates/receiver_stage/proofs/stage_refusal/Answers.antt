-- `stage_refusal` meets its contract, arm by arm. Assumes nothing.
use mathlib.Core.Path.{refl}
use borrow.Author.Tests.{le-leb, lt-leb, lt-ltb, le-ltb}
use Rattle.setting.specs.Refusal.{first_of}
use Rattle.receiver.specs.Table.{stage_checks}
use Rattle.receiver_stage.proofs.stage_refusal.Goals as goal

pub returns-in-Waiting : goal.returns-in-Waiting
unfolding stage_checks first_of
returns-in-Waiting c = rw c.in-Waiting.is refl

pub returns-in-Open : goal.returns-in-Open
unfolding stage_checks first_of
returns-in-Open c = rw (c.in-Open.is, lt-leb _ _ c.if-from-lt-COUNTERS.true, le-ltb _ _ c.if-k-slots.true) refl

pub returns-in-Ready : goal.returns-in-Ready
unfolding stage_checks first_of
returns-in-Ready c = rw (c.in-Ready.is, lt-leb _ _ c.if-from-lt-COUNTERS-2.true) refl

pub returns-in_default : goal.returns-in_default
unfolding stage_checks first_of
returns-in_default c = rw (c.in-Open.is, lt-leb _ _ c.if-from-lt-COUNTERS.true, lt-ltb _ _ c.if-k-slots.false) refl

pub returns-in_default-2 : goal.returns-in_default-2
unfolding stage_checks first_of
returns-in_default-2 c = rw (c.in-Open.is, le-leb _ _ c.if-from-lt-COUNTERS.false) refl

pub returns-in_default-3 : goal.returns-in_default-3
unfolding stage_checks first_of
returns-in_default-3 c = rw (c.in-Ready.is, le-leb _ _ c.if-from-lt-COUNTERS-2.false) refl
