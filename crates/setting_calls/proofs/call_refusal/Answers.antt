-- `call_refusal` meets its contract: a check a return. Assumes nothing.
use native.Mathlib.Omega.{arith}
use borrow.Author.Tests.{eq-eqb, ne_eqb, lt-ltb, le-ltb}
use Rattle.setting.specs.Refusal.{first_of}
use Rattle.setting_bytes.specs.Kinds.{kinds}
use Rattle.setting_bytes.specs.Settings.{setting_length}
use Rattle.setting_calls.specs.Calls.{call_refused}
use Rattle.setting_calls.proofs.call_refusal.Goals as goal

pub returns-then-setting-ne-SETTING_BYTES : goal.returns-then-setting-ne-SETTING_BYTES
unfolding call_refused first_of
returns-then-setting-ne-SETTING_BYTES c = rw (ne_eqb c.args.setting setting_length c.if-setting-ne-SETTING_BYTES.true)

pub returns-then-kind-gt-LAST_KIND : goal.returns-then-kind-gt-LAST_KIND
unfolding call_refused first_of
returns-then-kind-gt-LAST_KIND c = let a = c.args in rw (eq-eqb a.setting setting_length c.if-setting-ne-SETTING_BYTES.false, le-ltb a.kind kinds (omega (arith, c.if-kind-gt-LAST_KIND.true)))

pub returns : goal.returns
unfolding call_refused first_of
returns c = let a = c.args in rw (eq-eqb a.setting setting_length c.if-setting-ne-SETTING_BYTES.false, lt-ltb a.kind kinds (omega (arith, c.if-kind-gt-LAST_KIND.false)))
