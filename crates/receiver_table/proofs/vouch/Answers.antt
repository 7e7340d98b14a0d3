-- `vouch` meets its contract, test by test. Assumes nothing.
use Rattle.std.proofs.Common.{sym, arith}
use Rattle.receiver.proofs.Rows.{short, vouched, jump, jump_over}
use Rattle.receiver_table.proofs.vouch.Goals as goal

pub returns-then-k-slots : goal.returns-then-k-slots
returns-then-k-slots c = sym (short _ _ _ _ c.if-k-slots.true)

pub returns-then-to-from-eq1 : goal.returns-then-to-from-eq1
returns-then-to-from-eq1 c = sym (vouched _ _ _ _ c.if-k-slots-2.true (omega arith))

pub returns-else-to-from-eq1 : goal.returns-else-to-from-eq1
returns-else-to-from-eq1 c = sym (jump _ _ _ _ c.if-k-slots-2.true (λ e. c.if-to-from-eq1.false (omega arith)))

pub returns-else-k-slots-2 : goal.returns-else-k-slots-2
returns-else-k-slots-2 c = sym (jump_over _ _ _ _ (omega arith))
