-- `start` meets its contract, by whether the PID is allowed. Assumes nothing.
use mathlib.Core.Path.{refl, sym, ap, ◌∙◌}
use borrow.Author.Rules.{rules}
use borrow.Author.Tests.{not-true, not-false}
use Rattle.setting.specs.declared.Kind.{Kind}
use Rattle.setting.specs.Refusal.{first_of}
use Rattle.setting_bytes.specs.Kinds.{kind_of}
use Rattle.setting_bytes.proofs.KindsBack.{kind_back, kind_low}
use Rattle.starting.proofs.start.Goals as goal

pub returns-then-not-pid_allowed : goal.returns-then-not-pid_allowed
unfolding first_of kind_of
returns-then-not-pid_allowed g c = rw (sym c.pid_allowed.ensures ∙ not-true _ c.if-not-pid_allowed.true-raw) (record {
  refusal_value = refl;
  state_value = c.write.ensures;
})

pub write-requires-2 : goal.write-requires-2
write-requires-2 g c = rw c.kind_number.ensures (search rules, kind_low _)

pub returns : goal.returns
unfolding first_of
returns g c = rw (sym c.pid_allowed.ensures ∙ not-false _ c.if-not-pid_allowed.false-raw) (record {
  refusal_value = refl;
  state_value = c.write-2.ensures ∙ ap (λ (k : Kind). g.F.Fresh.fresh k c.args.pid) (ap kind_of c.kind_number.ensures ∙ kind_back _);
})
