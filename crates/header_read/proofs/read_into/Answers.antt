-- `read_into` meets its contract, by the lengths and the check's refusal. Assumes nothing.
use Prim.Native.Nat.{ℕ}
use mathlib.Core.Path.{◌≡◌, refl, sym, ap, ◌∙◌}
use mathlib.Core.List.{List}
use native.Mathlib.Omega.{arith}
use borrow.Author.Rules.{rules}
use lib.ListN.{length}
use Rattle.std.specs.Prelude.{Ok, Err}
use Rattle.refusals.specs.declared.Refusal.{Refusal}
use Rattle.refusals.proofs.Refusals.{is_some_number}
use Rattle.setting.specs.declared.Kind.{Kind}
use Rattle.setting_bytes.specs.Settings.{setting_length, setting_bytes}
use Rattle.header_layout.specs.Header.{header_length, reading}
use Rattle.header_layout.proofs.Calls.{wrong_length}
use Rattle.header_check.specs.declared.Refused.{Refused}
use Rattle.header_check.specs.OnPaper.{refusal_in, on_paper}
use Rattle.header_check.specs.Checking.{read_checks, read_refusal, refusal_by, checked_of}
use Rattle.header_check.proofs.Asked.{bare_is, refusal-shown, refusal_is, parts_are}
use Rattle.header_read.specs.Reader.{into_refused, into_memory}
use Rattle.header_read.proofs.Calls.{other_length, refusal_into, when_refused, written_by}
use Rattle.header_read.proofs.read_into.Goals as goal

pub returns-then-setting-ne-SETTING_BYTES : goal.returns-then-setting-ne-SETTING_BYTES
returns-then-setting-ne-SETTING_BYTES c =
    let s = c.args in
    let other = other_length s.kind s.pid s.packet.now s.setting.now c.if-setting-ne-SETTING_BYTES.true in record {
      value = ap (λ (why : Refused). refusal_in {T = Unit} (Err why)) c.from.ensures ∙ other.0;
      setting_after = other.1;
    }

-- bytes of a setting's length, by what the packet is refused for
module _ (kind : Kind) (pid : ℕ) (p lent : List ℕ) (long : length lent ≡ setting_length) where
  rejected : (why : Refused) → refusal_in {T = Unit} (Err why) ≡ refusal_by (read_refusal kind pid p) p
      → (refusal_in {T = Unit} (Err why) ≡ into_refused kind pid p lent) × (lent ≡ into_memory kind pid p lent)
  unfolding refusal_by
  rejected why told =
      let number_is = ap (λ r. r.number) told in (
        told ∙ sym (refusal_into kind pid p lent long),
        sym (when_refused kind pid p lent long (λ none. is_some_number why.refusal (number_is ∙ none))),
      )

-- a packet of any other length
of_other_length : (kind : Kind) (pid : ℕ) (p : List ℕ) → (length p ≡ header_length → ⊥)
    → refusal_in {T = Unit} (Err (record { refusal = Refusal.Length; remainder = 0 })) ≡ refusal_by (read_refusal kind pid p) p
unfolding read_refusal
of_other_length kind pid p other =
    bare_is 1 p (omega arith) ∙ ap (λ n. refusal_by n p) (sym (wrong_length pid _ (read_checks kind pid p) other))

pub returns-in_err-packet : goal.returns-in_err-packet
returns-in_err-packet c =
    let s = c.args in
    let p = s.packet.now in
    let why : Refused = record { refusal = Refusal.Length; remainder = 0 } in
    let passed_up : c.from_residual.result ≡ Err why = search rules in
    let other = rw c.in_err-packet.ensures.ok_part at c.as_array.ensures.cases in
    let no = rejected s.kind s.pid p s.setting.now c.if-setting-ne-SETTING_BYTES.false why (of_other_length s.kind s.pid p other) in
    record { value = ap refusal_in passed_up ∙ no.0; setting_after = no.1 }

pub returns-in_err-said : goal.returns-in_err-said
returns-in_err-said c =
    let s = c.args in
    let p = s.packet.now in
    let why = c.in_err-said.field-0.0 in
    let passed_up : c.from_residual-in_err-said.result ≡ Err why = search rules in
    let whole = rw c.in_ok-packet.ensures.ok_part at c.as_array.ensures.cases in
    let shows = refusal-shown s.kind s.pid p (on_paper (Err why)) (c.in_err-said.ensures ∙ ap (checked_of s.kind s.pid) whole.same) in
    let no = rejected s.kind s.pid p s.setting.now c.if-setting-ne-SETTING_BYTES.false why shows in
    record { value = ap refusal_in passed_up ∙ no.0; setting_after = no.1 }

pub read_setting-requires-clause-said_of_packet : goal.read_setting-requires-clause-said_of_packet
read_setting-requires-clause-said_of_packet c =
    parts_are c.args.kind c.args.pid c.in_ok-packet.packet.now (on_paper (Ok c.in_ok-said.said)) c.in_ok-said.ensures refl

pub returns : goal.returns
returns c =
    let s = c.args in
    let p = s.packet.now in
    let long = c.if-setting-ne-SETTING_BYTES.false in
    let whole = rw c.in_ok-packet.ensures.ok_part at c.as_array.ensures.cases in
    let told = c.in_ok-said.ensures ∙ ap (checked_of s.kind s.pid) whole.same in
    let shows = refusal-shown s.kind s.pid p (on_paper (Ok c.in_ok-said.said)) told in
    let none = refusal_is s.kind s.pid p (on_paper (Ok c.in_ok-said.said)) told in record {
      value = shows ∙ sym (refusal_into s.kind s.pid p s.setting.now long);
      setting_after =
          c.read_setting.ensures ∙ ap (λ b. setting_bytes (reading s.kind b)) whole.same
          ∙ sym (written_by s.kind s.pid p s.setting.now long none);
    }
