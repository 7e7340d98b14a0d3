-- `plan_of` meets its contract: behind j headers the plan of j headers is written. Assumes nothing.
use Prim.Native.Nat.{ℕ, ◌*◌, ◌≤◌, ◌<◌}
use mathlib.Core.Path.{◌≡◌, refl, sym, ap, ◌∙◌}
use mathlib.Core.Bool.{Bool, true, false}
use mathlib.Core.List.{List}
use native.Mathlib.Omega.{arith}
use borrow.Author.Rules.{rules}
use lib.Count.{ones}
use Rattle.std.specs.Prelude.{Ok, Err, Option}
use Rattle.std.specs.Bool.{then_some}
use Rattle.refusals.specs.Refusals.{number}
use Rattle.refusals.proofs.Refusals.{is_some_number}
use Rattle.setting.specs.declared.Kind.{Kind}
use Rattle.setting.specs.Refusal.{first_of}
use Rattle.header_check.specs.declared.Refused.{Refused}
use Rattle.header_check.specs.OnPaper.{on_paper}
use Rattle.header_check.specs.Checking.{bare, parts_of, checked_of}
use Rattle.header_check.proofs.Asked.{parts_are, refused_bare}
use Rattle.bond_places.specs.Order.{frame_packets}
use Rattle.counters.specs.Counters.{last_carrier}
use Rattle.bond_places.specs.Walk.{most_frames}
use Rattle.bond_group.specs.declared.Bond.{Bond}
use Rattle.bond_group.specs.declared.headers.Shown.{Shown}
use Rattle.bond_group.specs.Group.{frames_in, said, carries}
use Rattle.bond_group.specs.Standing.{shown_by, before, is_end, standing_checks, group_checks, group_refusal}
use Rattle.bond_group.specs.Plan.{marks, nothing_seen, headers_in, headers_of, planned_by}
use Rattle.bond_group.proofs.Grouping.{sequence_few, frames_fit}
use Rattle.bond_group.proofs.Planned.{packets_few}
use Rattle.bond_group.proofs.Uncarried.{uncarried}
use Rattle.bond_group.proofs.Lent.{Leaves, leaves_by, Written, written_none, written-more, written_all, cleared-same}
use Rattle.bond_group.proofs.Through.{Through, through_none, part, part-long, part-said, said_is, when_read_refused, read_shows, standing_refused, not_of_standing, stand_each, through_more, behind_few, missing, none_missing, planned_refused, planned_all}
use Rattle.bond_group.proofs.headers.plan_of.Goals as goal
use Rattle.bond_group.proofs.headers.plan_of.Goals.{After-standing_refusal, then-j-eq0, else-j-eq0}

pub loop-j-init : goal.loop-j-init
loop-j-init c =
    record {
      through = through_none _ _ c.nothing_shown-behind.result 0 c.nothing_shown-behind.ensures;
      written = written_none _ _ c.requires.cleared.0 c.requires.cleared.1;
    }

-- what is answered where the group is refused behind some headers
refused : (b : Bond) (group : List ℕ) (x : ℕ) (why : Refused) → record { number = number why.refusal; remainder = why.remainder } ≡ group_refusal b group x
    → first_of (group_checks b group) ≡ x → (x ≡ 0 → ⊥) → headers_in (Err why) ≡ headers_of (planned_by b group)
unfolding nothing_seen
refused b group x why r e d = ap headers_of (planned_refused b group x r e d)

-- what the header said
said_so : (c : After-standing_refusal) → on_paper (Ok c.in_ok-said.said) ≡ parts_of (bare 0) (said c.args.group.now c.loop-j.j)
said_so c =
    said_is c.args.b c.args.group.now c.requires.last_slot_len.1 c.loop-j.j (omega arith) (on_paper (Ok c.in_ok-said.said)) c.in_ok-said.ensures refl

-- what it shows
shown_so : (c : After-standing_refusal) → c.from-shown.result ≡ shown_by (said c.args.group.now c.loop-j.j)
shown_so c = c.from-shown.ensures _ (said_so c)

-- the group id that it is held against is the first header's
group_so : (c : After-standing_refusal) → c.if-j-eq0.group_id ≡ (said c.args.group.now 0).group_id
unfolding shown_by
group_so c =
    elim c.if-j-eq0.branch [ then-j-eq0 w ↦ w.group_id-is ∙ ap (λ (h : Shown). h.group_id) (shown_so c) ∙ ap (λ (i : ℕ). (said c.args.group.now i).group_id) w.if-j-eq0.true | else-j-eq0 w ↦ let d = w.if-j-eq0.false in w.group_id-is ∙ c.loop-j.invariant.through.group_is (omega arith) ]

-- the checks of where it stands are those of the group's own values
standing_is : (c : After-standing_refusal)
    → first_of (standing_checks c.args.b.carriers c.if-j-eq0.group_id c.loop-j.behind c.from-shown.result)
    ≡ first_of (standing_checks c.args.b.carriers (said c.args.group.now 0).group_id (before c.args.group.now c.loop-j.j) (shown_by (said c.args.group.now c.loop-j.j)))
standing_is c =
    λ i. first_of (standing_checks c.args.b.carriers (group_so c i) (c.loop-j.invariant.through.behind_is i) (shown_so c i))

pub returns-in_err-said-clause-value : goal.returns-in_err-said-clause-value
returns-in_err-said-clause-value c =
    let a = c.args in
    let why = c.in_err-said.field-0.0 in
    let t = c.loop-j.invariant.through in
    let e : on_paper (Err why) ≡ checked_of Kind.Extended a.b.pid (part a.b a.group.now c.loop-j.j) = c.in_err-said.ensures in
    let d = is_some_number why.refusal in
    let passed_up : c.from_residual.result ≡ Err why = search rules in
    ap headers_in passed_up
    ∙ refused a.b a.group.now (number why.refusal) why
    (read_shows a.b a.group.now c.requires.last_slot_len.1 c.loop-j.j (omega arith) c.loop-j.behind c.loop-j.group_id t (on_paper (Err why)) e d)
    (when_read_refused a.b a.group.now c.requires.last_slot_len.1 c.loop-j.j (omega arith) c.loop-j.behind c.loop-j.group_id t (on_paper (Err why)) e d)
    d

pub returns-in_err-said-clause-cleared_again : goal.returns-in_err-said-clause-cleared_again
returns-in_err-said-clause-cleared_again c = cleared-same c.loop-j.invariant.written

pub standing_refusal-requires : goal.standing_refusal-requires
standing_refusal-requires c = behind_few c.args.b c.args.group.now c.loop-j.behind c.loop-j.group_id c.loop-j.j c.loop-j.invariant.through

pub returns-in_err-standing_refusal-clause-value : goal.returns-in_err-standing_refusal-clause-value
returns-in_err-standing_refusal-clause-value c =
    let a = c.args in
    let refusal = c.in_err-standing_refusal.field-0.0 in
    let why : Refused = record { refusal = refusal; remainder = 0 } in
    let passed_up : c.from_residual-in_err-standing_refusal.result ≡ Err why = search rules in
    let is = c.in_err-standing_refusal.ensures ∙ standing_is (goal.at.returns-in_err-standing_refusal-clause-value c).After-standing_refusal in
    let d = is_some_number refusal in
    let e = standing_refused a.b a.group.now c.requires.last_slot_len.1 c.loop-j.j (omega arith) c.loop-j.behind c.loop-j.group_id c.loop-j.invariant.through
    (on_paper (Ok c.in_ok-said.said)) c.in_ok-said.ensures refl (number refusal) is d in
    ap headers_in passed_up
    ∙ refused a.b a.group.now (number refusal) why (refused_bare (number refusal) _ refl (λ z. not_of_standing _ _ _ _ (sym is ∙ z)) refl) e d

pub returns-in_err-standing_refusal-clause-cleared_again : goal.returns-in_err-standing_refusal-clause-cleared_again
returns-in_err-standing_refusal-clause-cleared_again c = cleared-same c.loop-j.invariant.written

-- each header up to this one stands as it should, so that there is room for what it says
record Room (j packets sequence : ℕ) : Type 0 where
  first : 1 ≤ sequence
  carrier : sequence ≤ last_carrier
  frame : j < most_frames
  few : packets ≤ frame_packets * j

module _ (c : After-standing_refusal) (stood : 0 ≡ first_of (standing_checks c.args.b.carriers c.if-j-eq0.group_id c.loop-j.behind c.from-shown.result)) where
  stands : first_of (standing_checks c.args.b.carriers (said c.args.group.now 0).group_id (before c.args.group.now c.loop-j.j) (shown_by (said c.args.group.now c.loop-j.j))) ≡ 0
  stands = sym (stood ∙ standing_is c)

  room : Room c.loop-j.j c.loop-j.packets c.from-shown.result.carrier_sequence
  unfolding shown_by
  room =
      let each = stand_each c.args.b c.args.group.now c.requires.last_slot_len.1 c.loop-j.j (omega arith) c.loop-j.behind c.loop-j.group_id c.loop-j.invariant.through
      (on_paper (Ok c.in_ok-said.said)) c.in_ok-said.ensures refl stands in
      let here = ap (λ (h : Shown). h.carrier_sequence) (shown_so c) in
      record {
        first = rw here (each c.loop-j.j (omega arith)).bond.from;
        carrier = rw here (sequence_few c.args.b c.args.group.now c.requires.le_carriers.1 c.loop-j.j (each c.loop-j.j (omega arith)));
        frame = frames_fit c.args.b c.args.group.now c.requires.le_carriers.1 c.loop-j.j each;
        few = omega (arith, c.loop-j.invariant.written.packets_are, packets_few c.args.b c.args.group.now c.loop-j.j);
      }

pub bonded_by-bonded-requires : goal.bonded_by-bonded-requires
bonded_by-bonded-requires c =
    record {
      packet_len = part-long c.args.b c.args.group.now c.requires.last_slot_len.1 c.loop-j.j (omega arith);
      said_value = parts_are Kind.Extended c.args.b.pid _ (on_paper (Ok c.in_ok-said.said)) c.in_ok-said.ensures refl;
    }

pub overflow_sub-carrier : goal.overflow_sub-carrier
overflow_sub-carrier c = let o = room (goal.at.overflow_sub-carrier c).After-standing_refusal c.in_ok-standing_refusal.ensures in let f = o.first in omega arith

pub overflow_add-packets : goal.overflow_add-packets
overflow_add-packets c =
    let o = room (goal.at.overflow_add-packets c).After-standing_refusal c.in_ok-standing_refusal.ensures in
    let few = ap ones c.unwrap_or-marks.ensures in
    omega (arith, c.bonded_by-bonded.ensures.marks_bound, few, o.frame, o.few)

pub loop-j-preserved : goal.loop-j-preserved
loop-j-preserved c =
    let a = c.args in
    let place = (goal.at.loop-j-preserved c).After-standing_refusal in
    let same = part-said a.b a.group.now c.requires.last_slot_len.1 c.loop-j.j (omega arith) in
    let o = room place c.in_ok-standing_refusal.ensures in
    let first = o.first in
    let carrier = o.carrier in
    record {
      through = through_more a.b a.group.now c.requires.last_slot_len.1 c.loop-j.j (omega arith) c.loop-j.behind c.loop-j.group_id c.loop-j.invariant.through
          (on_paper (Ok c.in_ok-said.said)) c.in_ok-said.ensures refl (stands place c.in_ok-standing_refusal.ensures) c.from-shown.result c.if-j-eq0.group_id (shown_so place) (group_so place);
      written = written-more c.loop-j.invariant.written c.from-shown.result c.unwrap_or-marks.result c.is_some-is_carried.result
          c.set_number.ensures c.set_number-in-loop-j.ensures
          (shown_so place) (c.unwrap_or-marks.ensures ∙ c.bonded_by-bonded.ensures.marks ∙ ap (marks a.b) same)
          (c.is_some-is_carried.ensures ∙ c.bonded_by-bonded.ensures.is_carried ∙ ap (carries a.b) same) (omega arith) o.frame;
    }

pub returns-then-not-is_end-clause-value : goal.returns-then-not-is_end-clause-value
returns-then-not-is_end-clause-value c =
    let a = c.args in
    refused a.b a.group.now 14 c.from.result
    (refused_bare 14 _ (ap (λ (why : Refused). record { number = number why.refusal; remainder = why.remainder }) c.from.ensures) (omega arith) refl)
    (missing a.b a.group.now c.loop-j.behind c.loop-j.group_id c.loop-j.j c.loop-j.invariant.through (omega arith) (sym c.if-not-is_end.ensures))
    (λ z. omega arith)

pub returns-then-not-is_end-clause-cleared_again : goal.returns-then-not-is_end-clause-cleared_again
returns-then-not-is_end-clause-cleared_again c = cleared-same c.loop-j.invariant.written

-- all headers passed
module _ (b : Bond) (group frames₀ slots₀ : List ℕ) {frames slots : List ℕ} {carried : Bool} {packets j : ℕ} (w : Written b group frames₀ slots₀ frames slots carried packets j)
    (behind : Shown) (group_id : ℕ) (t : Through b group behind group_id j) (l : frames_in group ≤ j) (whole : true ≡ is_end b.carriers behind) where
  all_headers : Leaves (planned_by b group) (record { refusal = bare 0; is_carried = carried; packets = packets }) frames₀ slots₀ frames slots
  all_headers =
      let within = t.within in
      leaves_by frames₀ slots₀ (planned_all b group (none_missing b group behind group_id j t l (sym whole))) (written_all w refl (omega arith))

-- the answer is none where no header carries the stream
answered : (x : Bool) (packets : ℕ) → (x ≡ false → packets ≡ 0) → headers_in (Ok (then_some x packets)) ≡ record { refusal = bare 0; is_carried = x; packets = packets }
answered true packets none = refl
answered false packets none = λ i. record { refusal = bare 0; is_carried = false; packets = sym (none refl) i }

pub returns : goal.returns
returns c =
    let a = c.args in
    let w = c.loop-j.invariant.written in
    let all = all_headers a.b a.group.now a.frames.now a.slots.now w c.loop-j.behind c.loop-j.group_id c.loop-j.invariant.through (omega arith) c.if-not-is_end.ensures in
    record {
      value = ap (λ (o : Option ℕ). headers_in (Ok o)) c.then_some.ensures ∙ answered c.loop-j.is_carried c.loop-j.packets (λ none. w.packets_are ∙ uncarried a.b a.group.now c.loop-j.j (sym w.carried_is ∙ none)) ∙ all.0;
      frames_after = λ _. all.1.0;
      slots_after = λ _. all.1.1;
      cleared_again = cleared-same w;
    }
