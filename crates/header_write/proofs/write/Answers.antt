-- `write` meets its contract, check by check. Assumes nothing.
use Prim.Native.Nat.{ℕ}
use mathlib.Core.Path.{◌≡◌, sym, ◌∙◌}
use mathlib.Core.Bool.{true, cond}
use mathlib.Core.List.{List, ◌++◌}
use native.Mathlib.Omega.{arith}
use borrow.Author.Rules.{rules}
use borrow.Author.Tests.{eq-eqb}
use lib.Dec.{eqb}
use lib.ListN.{length}
use Rattle.refusals.specs.Refusals.{number, answer}
use Rattle.refusals.proofs.Refusals.{is_some_number}
use Rattle.setting.specs.declared.Kind.{Kind}
use Rattle.setting.specs.declared.Setting.{Setting}
use Rattle.setting.specs.Refusal.{Check, first_of, of_length}
use Rattle.setting.specs.Rules.{pid_allowed, width_checks, rule_checks}
use Rattle.setting.proofs.Refusals.{onward, at_once, at_length, off_length}
use Rattle.setting.proofs.Checked.{width_none}
use Rattle.setting_bytes.specs.Settings.{setting_length, setting_of}
use Rattle.header_write.specs.Writing.{write_refusal, written}
use Rattle.header_layout.specs.Header.{header_length}
use Rattle.header_layout.proofs.Calls.{wrong_length, wrong_pid, right_call}
use Rattle.header_write.proofs.Calls.{left, made}
use Rattle.header_write.proofs.write.Goals as goal

module _ (kind : Kind) (pid : ℕ) (bytes buffer : List ℕ) (whole : length bytes ≡ setting_length) where
  -- the setting, the refusal of the whole, and the checks of its last two parts
  abbrev said : Setting
  said = setting_of bytes

  abbrev all : ℕ
  all = write_refusal kind pid said (length buffer)

  abbrev widths : List Check
  widths = width_checks kind said

  abbrev its_rules : List Check
  its_rules = rule_checks kind said

  -- what is answered and left by a refusal n of the setting's own
  abbrev Answered : ℕ → List ℕ → Type 0
  Answered n left_in =
      (n ≡ of_length setting_length (length bytes) all)
      × (left_in ≡ cond (eqb (length bytes) setting_length) (written kind pid said buffer) buffer)

  refused : (n : ℕ) → all ≡ n → (n ≡ 0 → ⊥) → Answered n buffer
  refused n e h = (sym (at_length _ _ _ whole ∙ e), rw (eq-eqb _ _ whole) (left kind pid said buffer e h))

  module _ (long : length buffer ≡ header_length) (allowed : true ≡ pid_allowed pid) where
    past_call : all ≡ first_of (widths ++ its_rules)
    unfolding write_refusal
    past_call = right_call pid _ _ long (sym allowed)

    too_wide : (n : ℕ) → n ≡ of_length setting_length (length bytes) (first_of widths) → (n ≡ 0 → ⊥) → Answered n buffer
    too_wide n told h =
        let e = told ∙ at_length _ _ _ whole in
        refused n (past_call ∙ at_once widths its_rules (λ none. h (e ∙ none)) ∙ sym e) h

    module _ (fits : 0 ≡ of_length setting_length (length bytes) (first_of widths)) where
      past_widths : all ≡ first_of its_rules
      past_widths = past_call ∙ onward its_rules (width_none kind said (sym (fits ∙ at_length _ _ _ whole)))

      against : (n : ℕ) → n ≡ of_length setting_length (length bytes) (first_of its_rules) → all ≡ n
      against n told = past_widths ∙ sym (told ∙ at_length _ _ _ whole)

pub returns-then-setting-ne-SETTING_BYTES-clause-value : goal.returns-then-setting-ne-SETTING_BYTES-clause-value
returns-then-setting-ne-SETTING_BYTES-clause-value c = sym (off_length _ _ _ c.if-setting-ne-SETTING_BYTES.true)

pub returns-then-buffer-ne-HEADER_LENGTH : goal.returns-then-buffer-ne-HEADER_LENGTH
unfolding write_refusal
returns-then-buffer-ne-HEADER_LENGTH c =
    let a = c.args in
    let whole = c.if-setting-ne-SETTING_BYTES.false in
    let done = refused a.kind a.pid a.setting.now a.buffer.now whole 1 (wrong_length a.pid _ (widths a.kind a.pid a.setting.now a.buffer.now whole ++ its_rules a.kind a.pid a.setting.now a.buffer.now whole) c.if-buffer-ne-HEADER_LENGTH.true) (omega arith) in
    record { value = done.0; buffer_after = done.1 }

pub returns-then-not-pid_allowed : goal.returns-then-not-pid_allowed
unfolding write_refusal
returns-then-not-pid_allowed c =
    let a = c.args in
    let whole = c.if-setting-ne-SETTING_BYTES.false in
    let done = refused a.kind a.pid a.setting.now a.buffer.now whole 2 (wrong_pid a.pid _ (widths a.kind a.pid a.setting.now a.buffer.now whole ++ its_rules a.kind a.pid a.setting.now a.buffer.now whole) c.if-buffer-ne-HEADER_LENGTH.false (sym c.if-not-pid_allowed.ensures)) (omega arith) in
    record { value = done.0; buffer_after = done.1 }

pub returns-in_err-width_refusal : goal.returns-in_err-width_refusal
returns-in_err-width_refusal c =
    let a = c.args in
    let refusal = c.in_err-width_refusal.field-0.0 in
    let passed_up : answer c.from_residual.result ≡ number refusal = search rules in
    let done = too_wide a.kind a.pid a.setting.now a.buffer.now c.if-setting-ne-SETTING_BYTES.false c.if-buffer-ne-HEADER_LENGTH.false c.if-not-pid_allowed.ensures (number refusal) c.in_err-width_refusal.ensures (is_some_number refusal) in
    record { value = passed_up ∙ done.0; buffer_after = done.1 }

pub returns-in_err-rule_refusal : goal.returns-in_err-rule_refusal
returns-in_err-rule_refusal c =
    let a = c.args in
    let whole = c.if-setting-ne-SETTING_BYTES.false in
    let refusal = c.in_err-rule_refusal.field-0.0 in
    let passed_up : answer c.from_residual-in_err-rule_refusal.result ≡ number refusal = search rules in
    let done = refused a.kind a.pid a.setting.now a.buffer.now whole (number refusal) (against a.kind a.pid a.setting.now a.buffer.now whole c.if-buffer-ne-HEADER_LENGTH.false c.if-not-pid_allowed.ensures c.in_ok-width_refusal.ensures (number refusal) c.in_err-rule_refusal.ensures) (is_some_number refusal) in
    record { value = passed_up ∙ done.0; buffer_after = done.1 }

pub returns : goal.returns
returns c =
    let a = c.args in
    let whole = c.if-setting-ne-SETTING_BYTES.false in
    let long = c.if-buffer-ne-HEADER_LENGTH.false in
    let e = against a.kind a.pid a.setting.now a.buffer.now whole long c.if-not-pid_allowed.ensures c.in_ok-width_refusal.ensures 0 c.in_ok-rule_refusal.ensures in
    record {
      value = sym (at_length _ _ _ whole ∙ e);
      buffer_after = (rw (eq-eqb (length a.buffer.now) header_length long, eq-eqb _ _ whole) at c.write_header.ensures)
          ∙ rw (eq-eqb _ _ whole) (made a.kind a.pid (setting_of a.setting.now) a.buffer.now e);
    }
