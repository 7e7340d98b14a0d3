-- `has_unavailable` meets its contract: it has found what is among the slots before slot i. Assumes nothing.
use mathlib.Core.Path.{◌≡◌, sym, ap₂, ◌∙◌}
use mathlib.Core.Bool.{◌||◌}
use native.Mathlib.Omega.{arith}
use lib.ListN.{length, get_or}
use Rattle.slices.proofs.Any.{any_none, any_next}
use Rattle.setting.specs.Rules.{some_unavailable}
use Rattle.setting_slots.proofs.Unavailable.{its_bit, beyond, at_most_last}
use Rattle.setting_slots.proofs.has_unavailable.Goals as goal

pub returns-then-some_at_least : goal.returns-then-some_at_least
returns-then-some_at_least c =
    let args = c.args in
    sym (beyond args.numbers.now args.availability (sym c.some_at_least.ensures ∙ c.if-some_at_least.true))

pub loop-number-init : goal.loop-number-init
loop-number-init c = any_none _

pub is_barred-found-requires : goal.is_barred-found-requires
is_barred-found-requires c = at_most_last _ (sym c.some_at_least.ensures ∙ c.if-some_at_least.false) c.loop-number.number-index (omega arith)

pub loop-number-preserved : goal.loop-number-preserved
loop-number-preserved c =
    let args = c.args in
    let turn = c.loop-number in
    let most = at_most_last _ (sym c.some_at_least.ensures ∙ c.if-some_at_least.false) c.loop-number.number-index (omega arith) in
    let bit = its_bit args.availability c.allowed_by-allowed.ensures (get_or args.numbers.now turn.number-index 0) most in
    (any_next _ turn.number-index ∙ ap₂ ◌||◌ turn.invariant (sym (c.is_barred-found.ensures ∙ bit)))

pub returns : goal.returns
unfolding some_unavailable
returns c =
    let all : c.loop-number.number-index ≡ length c.args.numbers.now = omega arith in
    sym (rw all at c.loop-number.invariant)
