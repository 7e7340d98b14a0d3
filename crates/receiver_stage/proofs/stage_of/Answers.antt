-- `stage_of` meets its contract, arm by arm. Assumes nothing.
use mathlib.Core.Path.{refl}
use borrow.Author.Tests.{ne_eqb}
use Rattle.receiver.specs.Bytes.{stage_of}
use Rattle.receiver_stage.proofs.stage_of.Goals as goal
use Rattle.receiver_stage.proofs.stage_of.Goals.{in_default-via-in-0+in-0-from+in_default, in_default-via-in-0+in_default, in_default-via-in-2+in_default, in_default-via-in_default}

pub returns-in-0-eq0-eq0 : goal.returns-in-0-eq0-eq0
unfolding stage_of
returns-in-0-eq0-eq0 c = rw (c.in-0-eq0-eq0.is-0, c.in-0-eq0-eq0.is-1, c.in-0-eq0-eq0.is-2) refl

pub returns-in-1-default-default : goal.returns-in-1-default-default
unfolding stage_of
returns-in-1-default-default c = rw c.in-1-default-default.is-0 refl

pub returns-in-2-default-eq0 : goal.returns-in-2-default-eq0
unfolding stage_of
returns-in-2-default-eq0 c = rw (c.in-2-default-eq0.is-0, c.in-2-default-eq0.is-2) refl

pub returns-in_default : goal.returns-in_default
unfolding stage_of
returns-in_default c = elim c.in_default.branch [
  | in_default-via-in-0+in-0-from+in_default w ↦ rw (c.no_stage.ensures, w.in_default.is-0, w.in_default.is-1, ne_eqb _ _ w.in_default.is-2.1) refl
  | in_default-via-in-0+in_default w ↦ rw (c.no_stage.ensures, w.in_default.is-0, ne_eqb _ _ w.in_default.is-1.1) refl
  | in_default-via-in-2+in_default w ↦ rw (c.no_stage.ensures, w.in_default.is-0, ne_eqb _ _ w.in_default.is-2.1) refl
  | in_default-via-in_default w ↦ rw (c.no_stage.ensures, ne_eqb _ _ w.in_default.is-0.0.0.1, ne_eqb _ _ w.in_default.is-0.0.1, ne_eqb _ _ w.in_default.is-0.1) refl
]
