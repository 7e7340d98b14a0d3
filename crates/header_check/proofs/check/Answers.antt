-- `check` meets its contract, check by check. Assumes nothing.
use Prim.Native.Nat.{ℕ}
use mathlib.Core.Path.{◌≡◌, refl, sym, ap, ◌∙◌}
use mathlib.Core.Bool.{true}
use mathlib.Core.List.{List, ◌++◌}
use native.Mathlib.Omega.{arith}
use borrow.Author.Rules.{rules}
use lib.ListN.{length}
use Rattle.std.specs.Array.{IsWholeChunk}
use Rattle.std.specs.Prelude.{Err}
use Rattle.refusals.specs.declared.Refusal.{Refusal as Why}
use Rattle.refusals.specs.Refusals.{number}
use Rattle.refusals.proofs.Refusals.{is_some_number}
use Rattle.setting.specs.declared.Kind.{Kind}
use Rattle.setting.specs.Refusal.{Check, first_of}
use Rattle.setting.specs.Rules.{pid_allowed, rule_checks}
use Rattle.setting.proofs.Refusals.{onward, at_once}
use Rattle.header_layout.specs.Header.{header_length, reading, packet_checks, reserved_checks}
use Rattle.header_layout.proofs.Calls.{wrong_length, wrong_pid, right_call}
use Rattle.header_layout.proofs.Packet.{packet_none}
use Rattle.header_layout.proofs.Reserved.{reserved_none}
use Rattle.header_check.specs.declared.Refused.{Refused}
use Rattle.header_check.specs.OnPaper.{Refusal, on_paper}
use Rattle.header_check.specs.Checking.{read_checks, read_refusal, refusal_by, checked_of}
use Rattle.header_check.proofs.Asked.{bare_is, refused, refused_from, accepted}
use Rattle.header_check.proofs.Sevens.{not_of_reserved, not_of_rules}
use Rattle.header_check.proofs.check.Goals as goal

-- the number of what the packet itself shows
numbers : {n r m : ℕ} (p : List ℕ) → record { number = n; remainder = r } ≡ refusal_by m p → n ≡ m
unfolding refusal_by
numbers p e = ap (λ (x : Refusal). x.number) e

-- the refusal of the whole, by what each of its parts said
module _ (kind : Kind) (pid : ℕ) (p : List ℕ) {lent : List ℕ}
    (whole : IsWholeChunk lent p header_length) (allowed : true ≡ pid_allowed pid) where
  abbrev packets : List Check
  packets = packet_checks pid p

  abbrev reserved : List Check
  reserved = reserved_checks kind p

  abbrev rules_of : List Check
  rules_of = rule_checks kind (reading kind p)

  past_call : read_refusal kind pid p ≡ first_of (packets ++ (reserved ++ rules_of))
  unfolding read_refusal read_checks
  past_call = right_call pid _ _ (ap length whole.same ∙ whole.long) (sym allowed)

  by_packet : (first_of packets ≡ 0 → ⊥) → read_refusal kind pid p ≡ first_of packets
  by_packet some = past_call ∙ at_once packets _ some

  module _ (good : first_of packets ≡ 0) where
    past_packet : read_refusal kind pid p ≡ first_of (reserved ++ rules_of)
    past_packet = past_call ∙ onward _ (packet_none pid p good)

    by_reserved : (first_of reserved ≡ 0 → ⊥) → read_refusal kind pid p ≡ first_of reserved
    by_reserved some = past_packet ∙ at_once reserved _ some

    by_rules : first_of reserved ≡ 0 → read_refusal kind pid p ≡ first_of rules_of
    by_rules none = past_packet ∙ onward rules_of (reserved_none kind p none)

pub returns-in_err-packet : goal.returns-in_err-packet
unfolding read_refusal checked_of
returns-in_err-packet c =
    let a = c.args in
    let p = a.packet.now in
    let why : Refused = record { refusal = Why.Length; remainder = 0 } in
    let passed_up : c.from_residual.result ≡ Err why = search rules in
    let other = rw c.in_err-packet.ensures.ok_part at c.as_array.ensures.cases in
    ap on_paper passed_up
    ∙ refused a.kind p (wrong_length a.pid _ (read_checks a.kind a.pid p) other) (omega arith) why (bare_is 1 p (omega arith))

pub returns-then-not-pid_allowed : goal.returns-then-not-pid_allowed
unfolding read_refusal checked_of
returns-then-not-pid_allowed c =
    let a = c.args in
    let p = a.packet.now in
    let whole = rw c.in_ok-packet.ensures.ok_part at c.as_array.ensures.cases in
    let barred = wrong_pid a.pid _ (read_checks a.kind a.pid p) whole.long (sym c.if-not-pid_allowed.ensures) in
    refused a.kind p barred (omega arith) _ (refused_from _ p c.from.ensures (omega arith) refl)

pub returns-in_err-packet_refusal : goal.returns-in_err-packet_refusal
unfolding checked_of
returns-in_err-packet_refusal c =
    let a = c.args in
    let p = c.in_ok-packet.packet.now in
    let whole = rw c.in_ok-packet.ensures.ok_part at c.as_array.ensures.cases in
    let why = c.in_err-packet_refusal.field-0.0 in
    let passed_up : c.from_residual-in_err-packet_refusal.result ≡ Err why = search rules in
    let told : number why.refusal ≡ first_of (packet_checks a.pid p) = numbers p c.in_err-packet_refusal.ensures in
    let some : first_of (packet_checks a.pid p) ≡ 0 → ⊥ = λ none. is_some_number why.refusal (told ∙ none) in
    ap on_paper passed_up
    ∙ refused a.kind p (by_packet a.kind a.pid p whole c.if-not-pid_allowed.ensures some) some why c.in_err-packet_refusal.ensures
    ∙ ap (checked_of a.kind a.pid) whole.same

pub returns-in_err-refusal : goal.returns-in_err-refusal
unfolding checked_of
returns-in_err-refusal c =
    let a = c.args in
    let p = c.in_ok-packet.packet.now in
    let whole = rw c.in_ok-packet.ensures.ok_part at c.as_array.ensures.cases in
    let good = sym (numbers p c.in_ok-packet_refusal.ensures) in
    let refusal = c.in_err-refusal.field-0.0 in
    let why : Refused = record { refusal = refusal; remainder = 0 } in
    let passed_up : c.from_residual-in_err-refusal.result ≡ Err why = search rules in
    let told = c.in_err-refusal.ensures in
    let some : first_of (reserved_checks a.kind p) ≡ 0 → ⊥ = λ none. is_some_number refusal (told ∙ none) in
    ap on_paper passed_up
    ∙ refused a.kind p (by_reserved a.kind a.pid p whole c.if-not-pid_allowed.ensures good some) some why
    (refused_from refusal p refl (λ seven. not_of_reserved a.kind p (sym told ∙ seven)) told)
    ∙ ap (checked_of a.kind a.pid) whole.same

pub returns-in_err-said_by : goal.returns-in_err-said_by
unfolding checked_of
returns-in_err-said_by c =
    let a = c.args in
    let p = c.in_ok-packet.packet.now in
    let whole = rw c.in_ok-packet.ensures.ok_part at c.as_array.ensures.cases in
    let good = sym (numbers p c.in_ok-packet_refusal.ensures) in
    let its = by_rules a.kind a.pid p whole c.if-not-pid_allowed.ensures good (sym c.in_ok-refusal.ensures) in
    let refusal = c.in_err-said_by.field-0.0 in
    let why : Refused = record { refusal = refusal; remainder = 0 } in
    let passed_up : c.from_residual-in_err-said_by.result ≡ Err why = search rules in
    let told : number refusal ≡ first_of (rule_checks a.kind (reading a.kind p)) = c.in_err-said_by.ensures.value in
    ap on_paper passed_up
    ∙ refused a.kind p its (λ none. is_some_number refusal (told ∙ none)) why
    (refused_from refusal p refl (λ seven. not_of_rules a.kind (reading a.kind p) (sym told ∙ seven)) told)
    ∙ ap (checked_of a.kind a.pid) whole.same

pub returns : goal.returns
unfolding checked_of
returns c =
    let a = c.args in
    let p = c.in_ok-packet.packet.now in
    let whole = rw c.in_ok-packet.ensures.ok_part at c.as_array.ensures.cases in
    let good = sym (numbers p c.in_ok-packet_refusal.ensures) in
    let its = by_rules a.kind a.pid p whole c.if-not-pid_allowed.ensures good (sym c.in_ok-refusal.ensures) in
    accepted a.kind p its (sym c.in_ok-said_by.ensures.value) c.in_ok-said_by.field-0 c.in_ok-said_by.ensures.said
    ∙ ap (checked_of a.kind a.pid) whole.same
