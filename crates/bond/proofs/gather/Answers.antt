-- `gather` meets its contract, check by check. Assumes nothing.
use Prim.Native.Nat.{ℕ}
use mathlib.Core.Path.{◌≡◌, refl, sym, ap, ◌∙◌}
use mathlib.Core.List.{List}
use borrow.Author.Rules.{rules}
use lib.ListN.{length}
use Rattle.std.specs.Prelude.{Err, Option, unwrap_or}
use Rattle.slices.specs.Slices.{copied}
use Rattle.refusals.specs.Refusals.{number}
use Rattle.refusals.proofs.Refusals.{is_some_number}
use Rattle.header_check.proofs.Asked.{refused_bare}
use Rattle.bond_group.specs.Standing.{refused_header, group_refusal}
use Rattle.bond.specs.Bonding.{moved_in, gathered}
use Rattle.bond.proofs.Outcomes.{Known, refusal-shown, refusal_is, no_refusal, known, not_of_gather, gather_refused, gather_left, gather_headed, gather_refusal-rest, gather_granted, gather_made, to_gather, listed_by}
use Rattle.bond.proofs.gather.Goals as goal
use Rattle.bond.proofs.gather.Goals.{In_ok-headers}

pub returns-in_err-headers : goal.returns-in_err-headers
returns-in_err-headers c =
    let a = c.args in
    let why = c.in_err-headers.field-0.0 in
    let passed_up : c.from_residual.result ≡ Err why = search rules in
    let headers = c.in_err-headers.ensures.value in
    let i = refusal_is a.b a.group.now headers in
    let d = is_some_number why.refusal in
    let e = gather_headed a.b a.group.now a.out.now (λ z. d (i ∙ z)) ∙ sym i in
    let shown = refusal-shown a.b a.group.now headers ∙ ap (group_refusal a.b a.group.now) (sym i) in
    record {
      value = ap moved_in passed_up ∙ gather_refused a.b a.group.now a.out.now (number why.refusal) e d shown;
      out_after = gather_left a.b a.group.now a.out.now (number why.refusal) e d;
    }

-- the headers were not refused
planned : (c : In_ok-headers) → Known c.args.b c.args.group.now c.in_ok-headers.field-0 c.read_headers-headers.new.frames c.read_headers-headers.new.slots
planned c =
    let e = c.in_ok-headers.ensures in
    known c.args.b c.args.group.now c.in_ok-headers.field-0 e.value e.frames_after e.slots_after

pub returns-in_err-packets : goal.returns-in_err-packets
returns-in_err-packets c =
    let a = c.args in
    let why = c.in_err-packets.field-0.0 in
    let passed_up : c.from_residual-in_err-packets.result ≡ Err (record { refusal = why; remainder = 0 }) = search rules in
    let said = c.in_err-packets.ensures.value in
    let k = planned (goal.at.returns-in_err-packets c).In_ok-headers in
    let e = gather_refusal-rest a.b a.group.now a.out.now k ∙ sym said in
    let d = is_some_number why in
    let shown = refused_bare (number why) (refused_header a.b a.group.now) refl (λ z. not_of_gather c.in_ok-headers.field-0 (length a.out.now) (sym said ∙ z)) refl in
    record {
      value = ap moved_in passed_up ∙ gather_refused a.b a.group.now a.out.now (number why) e d shown;
      out_after = gather_left a.b a.group.now a.out.now (number why) e d;
    }

pub gather_over-requires : goal.gather_over-requires
gather_over-requires c =
    let a = c.args in
    let k = planned (goal.at.gather_over-requires c).In_ok-headers in
    let all = to_gather a.b a.group.now a.out.now k (gather_refusal-rest a.b a.group.now a.out.now k ∙ sym c.in_ok-packets.ensures.value) in
    record { listable = all.0; slots_in_bounds = all.1.0; within = all.1.1 }

pub returns : goal.returns
returns c =
    let a = c.args in
    let k = planned (goal.at.returns c).In_ok-headers in
    let granted = gather_refusal-rest a.b a.group.now a.out.now k ∙ sym c.in_ok-packets.ensures.value in
    let are = sym (ap (λ (o : Option ℕ). unwrap_or o 0) (c.in_ok-packets.ensures.packets c.in_ok-packets.packets refl)) ∙ k.packets_are in
    record {
      value = gather_granted a.b a.group.now a.out.now c.in_ok-packets.packets granted are (no_refusal a.b a.group.now c.in_ok-headers.field-0 c.in_ok-headers.ensures.value);
      out_after =
          c.gather_over.ensures ∙ ap (λ (ms : List ℕ). copied a.out.now (gathered ms a.group.now)) (listed_by a.b a.group.now k)
          ∙ gather_made a.b a.group.now a.out.now granted;
    }
