-- `spread` meets its contract, check by check. Assumes nothing.
use Prim.Native.Nat.{ℕ}
use mathlib.Core.Path.{◌≡◌, refl, sym, ap, ◌∙◌}
use mathlib.Core.List.{List}
use native.Mathlib.Omega.{arith}
use borrow.Author.Rules.{rules}
use Rattle.std.specs.Prelude.{Err, Option, unwrap_or}
use Rattle.refusals.specs.Refusals.{number}
use Rattle.refusals.proofs.Refusals.{is_some_number}
use Rattle.header_check.specs.declared.Refused.{Refused}
use Rattle.header_check.proofs.Asked.{refused_bare}
use Rattle.bond_group.specs.Standing.{refused_header, group_refusal}
use Rattle.bond.specs.Bonding.{moved_in, spread_over}
use Rattle.bond.proofs.Outcomes.{Known, refusal-shown, refusal_is, no_refusal, known, not_of_spread, spread_refused, spread_left, spread_uncut, spread-headed, spread-rest, spread_granted, spread-made, to_spread, listed_by}
use Rattle.bond.proofs.spread.Goals as goal
use Rattle.bond.proofs.spread.Goals.{In_ok-headers}

pub returns-then-stream-ne0 : goal.returns-then-stream-ne0
returns-then-stream-ne0 c =
    let a = c.args in
    let d : ◌≡◌ {A = ℕ} 1 0 → ⊥ = λ z. omega arith in
    let not_seven : ◌≡◌ {A = ℕ} 1 7 → ⊥ = λ z. omega arith in
    let e = spread_uncut a.b a.group.now a.stream.now c.if-stream-ne0.true in
    let said = ap (λ (why : Refused). record { number = number why.refusal; remainder = why.remainder }) c.from.ensures in
    let shown = refused_bare 1 (refused_header a.b a.group.now) said not_seven refl in
    record {
      value = spread_refused a.b a.group.now a.stream.now 1 e d shown;
      group_after = spread_left a.b a.group.now a.stream.now 1 e d;
    }

pub returns-in_err-headers : goal.returns-in_err-headers
returns-in_err-headers c =
    let a = c.args in
    let why = c.in_err-headers.field-0.0 in
    let passed_up : c.from_residual.result ≡ Err why = search rules in
    let headers = c.in_err-headers.ensures.value in
    let i = refusal_is a.b a.group.now headers in
    let d = is_some_number why.refusal in
    let e = spread-headed a.b a.group.now a.stream.now c.if-stream-ne0.false (λ z. d (i ∙ z)) ∙ sym i in
    let shown = refusal-shown a.b a.group.now headers ∙ ap (group_refusal a.b a.group.now) (sym i) in
    record {
      value = ap moved_in passed_up ∙ spread_refused a.b a.group.now a.stream.now (number why.refusal) e d shown;
      group_after = spread_left a.b a.group.now a.stream.now (number why.refusal) e d;
    }

-- the headers were not refused
planned : (c : In_ok-headers) → Known c.args.b c.args.group.now c.in_ok-headers.field-0 c.read_headers-headers.new.frames c.read_headers-headers.new.slots
planned c =
    let e = c.in_ok-headers.ensures in
    known c.args.b c.args.group.now c.in_ok-headers.field-0 e.value e.frames_after e.slots_after

pub returns-in_err-packets : goal.returns-in_err-packets
returns-in_err-packets c =
    let a = c.args in
    let why = c.in_err-packets.field-0.0 in
    let passed_up : c.from_residual-in_err-packets.result ≡ Err (record { refusal = why; remainder = 0 }) = search rules in
    let said = c.in_err-packets.ensures.value in
    let k = planned (goal.at.returns-in_err-packets c).In_ok-headers in
    let e = spread-rest a.b a.group.now a.stream.now c.if-stream-ne0.false k ∙ sym said in
    let d = is_some_number why in
    let shown = refused_bare (number why) (refused_header a.b a.group.now) refl (λ z. not_of_spread a.b c.in_ok-headers.field-0 a.stream.now (sym said ∙ z)) refl in
    record {
      value = ap moved_in passed_up ∙ spread_refused a.b a.group.now a.stream.now (number why) e d shown;
      group_after = spread_left a.b a.group.now a.stream.now (number why) e d;
    }

pub spread_over-requires : goal.spread_over-requires
spread_over-requires c =
    let a = c.args in
    let k = planned (goal.at.spread_over-requires c).In_ok-headers in
    let all = to_spread a.b a.group.now a.stream.now k (spread-rest a.b a.group.now a.stream.now c.if-stream-ne0.false k ∙ sym c.in_ok-packets.ensures.value) in
    record { listable = all.0; stream_len = all.1.0; within = all.1.1 }

pub returns : goal.returns
returns c =
    let a = c.args in
    let k = planned (goal.at.returns c).In_ok-headers in
    let granted = spread-rest a.b a.group.now a.stream.now c.if-stream-ne0.false k ∙ sym c.in_ok-packets.ensures.value in
    let are = sym (ap (λ (o : Option ℕ). unwrap_or o 0) (c.in_ok-packets.ensures.packets c.in_ok-packets.packets refl)) ∙ k.packets_are in
    record {
      value = spread_granted a.b a.group.now a.stream.now c.in_ok-packets.packets granted are (no_refusal a.b a.group.now c.in_ok-headers.field-0 c.in_ok-headers.ensures.value);
      group_after =
          c.spread_over.ensures ∙ ap (λ (ms : List ℕ). spread_over ms a.stream.now a.group.now) (listed_by a.b a.group.now k)
          ∙ spread-made a.b a.group.now a.stream.now granted;
    }
