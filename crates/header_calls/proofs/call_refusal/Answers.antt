-- `call_refusal` meets its contract: a check a return. Assumes nothing.
use mathlib.Core.Path.{sym, ◌∙◌}
use native.Mathlib.Omega.{arith}
use borrow.Author.Tests.{eq-eqb, ne_eqb, lt-ltb, le-ltb, not-true, not-false}
use Rattle.setting.specs.Refusal.{first_of}
use Rattle.header_layout.specs.Header.{header_length}
use Rattle.setting_bytes.specs.Kinds.{kinds}
use Rattle.setting_bytes.specs.Settings.{setting_length}
use Rattle.header_calls.specs.Calls.{call_refused}
use Rattle.header_calls.proofs.call_refusal.Goals as goal

pub returns-then-packet-ne-PACKET_BYTES : goal.returns-then-packet-ne-PACKET_BYTES
unfolding call_refused first_of
returns-then-packet-ne-PACKET_BYTES c = rw (ne_eqb c.args.packet header_length c.if-packet-ne-PACKET_BYTES.true)

pub returns-then-setting-ne-SETTING_BYTES : goal.returns-then-setting-ne-SETTING_BYTES
unfolding call_refused first_of
returns-then-setting-ne-SETTING_BYTES c = let a = c.args in rw (eq-eqb a.packet header_length c.if-packet-ne-PACKET_BYTES.false, ne_eqb a.setting setting_length c.if-setting-ne-SETTING_BYTES.true)

pub returns-then-not-pid_allowed : goal.returns-then-not-pid_allowed
unfolding call_refused first_of
returns-then-not-pid_allowed c =
    let a = c.args in
    rw (
      eq-eqb a.packet header_length c.if-packet-ne-PACKET_BYTES.false,
      eq-eqb a.setting setting_length c.if-setting-ne-SETTING_BYTES.false,
      sym c.pid_allowed.ensures ∙ not-true _ c.if-not-pid_allowed.true-raw,
    )

pub returns-then-kind-gt-LAST_KIND : goal.returns-then-kind-gt-LAST_KIND
unfolding call_refused first_of
returns-then-kind-gt-LAST_KIND c =
    let a = c.args in
    rw (
      eq-eqb a.packet header_length c.if-packet-ne-PACKET_BYTES.false,
      eq-eqb a.setting setting_length c.if-setting-ne-SETTING_BYTES.false,
      sym c.pid_allowed.ensures ∙ not-false _ c.if-not-pid_allowed.false-raw,
      le-ltb a.kind kinds (omega (arith, c.if-kind-gt-LAST_KIND.true)),
    )

pub returns : goal.returns
unfolding call_refused first_of
returns c =
    let a = c.args in
    rw (
      eq-eqb a.packet header_length c.if-packet-ne-PACKET_BYTES.false,
      eq-eqb a.setting setting_length c.if-setting-ne-SETTING_BYTES.false,
      sym c.pid_allowed.ensures ∙ not-false _ c.if-not-pid_allowed.false-raw,
      lt-ltb a.kind kinds (omega (arith, c.if-kind-gt-LAST_KIND.false)),
    )
