-- What passes the checks of a group, and what that leaves to know. Assumes nothing.
use Prim.Native.Nat.{ℕ, zero, suc, ◌+◌, ◌*◌, ◌%◌, ◌≤◌}
use mathlib.Core.Path.{◌≡◌, refl, sym, ◌∙◌}
use mathlib.Core.Bool.{true, cond}
use mathlib.Core.List.{List, ◌++◌}
use native.Mathlib.Omega.{arith}
use borrow.Author.Tests.{eqb-true, eqb-false, ne_eqb, not-false}
use lib.Dec.{eqb}
use lib.ListN.{length}
use Rattle.slices.proofs.Any.{neither}
use Rattle.counters.specs.Counters.{within, last_slot, last_carrier}
use Rattle.setting.specs.declared.Kind.{Kind}
use Rattle.setting.specs.Refusal.{NoneHolds, first_of}
use Rattle.setting.specs.Rules.{pid_allowed}
use Rattle.setting.proofs.Refusals.{numbered_append, numbered, none_first, none_at, onward, at_once, never_first}
use Rattle.setting.proofs.Fields.{at_most}
use Rattle.header_check.specs.OnPaper.{Refusal}
use Rattle.header_check.specs.Checking.{read_checks, bare}
use Rattle.header_check.proofs.Accepted.{numbered_read}
use Rattle.header_check.proofs.Asked.{refused_bare}
use Rattle.packet.specs.Packets.{frame_length, slot}
use Rattle.bond_places.specs.Order.{frame_packets}
use Rattle.bond_group.specs.declared.Bond.{Bond}
use Rattle.bond_group.specs.Group.{frames_in}
use Rattle.bond_group.specs.Standing.{standing_checks, call_checks, header_checks, headers_checks, group_checks, plan_checks, refused_header, group_refusal}
use Rattle.bond_group.specs.Plan.{nothing_seen, no_plan, plan_after, planned_by, planned_of}
use Rattle.bond_group.proofs.Standing.{at_least}

-- ---- no check has the number 0

module _ (b : Bond) (group : List ℕ) where
  pub numbered-header : (j : ℕ) → numbered (header_checks b group j) ≡ true
  unfolding header_checks standing_checks
  numbered-header j = numbered_append (read_checks Kind.Extended b.pid (slot (frame_packets * j) group)) _ (numbered_read Kind.Extended b.pid (slot (frame_packets * j) group)) refl

  numbered_headers : (j n : ℕ) → numbered (headers_checks b group j n) ≡ true
  unfolding headers_checks
  numbered_headers j zero = refl
  numbered_headers j (suc n) = numbered_append (header_checks b group j) (headers_checks b group (j + 1) n) (numbered-header j) (numbered_headers (j + 1) n)

  numbered-group : numbered (group_checks b group) ≡ true
  unfolding group_checks
  numbered-group = numbered_append (headers_checks b group 0 (frames_in group)) _ (numbered_headers 0 (frames_in group)) refl

  pub numbered-plan : numbered (plan_checks b group) ≡ true
  unfolding plan_checks call_checks
  numbered-plan = numbered-group

-- ---- what the call's own checks leave

pub record Called (b : Bond) (group : ℕ) : Type 0 where
  pub some : group ≡ 0 → ⊥
  pub frames : group % frame_length last_slot ≡ 0
  pub pid : pid_allowed b.pid ≡ true
  pub one : 1 ≤ b.carriers
  pub few : b.carriers ≤ last_carrier

pub called : (b : Bond) (group : ℕ) → NoneHolds (call_checks b group) → Called b group
unfolding call_checks
called b group n =
    let whole = neither (eqb group 0) _ (none_at n 0) in
    let c = not-false (within 1 last_carrier b.carriers) (none_at n 2) in
    record {
      some = eqb-false group 0 whole.0;
      frames = eqb-true (group % frame_length last_slot) 0 (not-false _ whole.1);
      pid = not-false (pid_allowed b.pid) (none_at n 1);
      one = at_least 1 last_carrier b.carriers c;
      few = at_most 1 last_carrier b.carriers c;
    }

pub call_none : (b : Bond) (group : ℕ) → first_of (call_checks b group) ≡ 0 → NoneHolds (call_checks b group)
unfolding call_checks
call_none b group e = none_first (call_checks b group) refl e

-- no check of the call itself has the number 7
pub not_of_call : (b : Bond) (group : ℕ) → first_of (call_checks b group) ≡ 7 → ⊥
unfolding call_checks
not_of_call b group e = never_first 7 (call_checks b group) (omega arith) refl e

-- ---- the answer of a call that reads the headers

module _ (b : Bond) (group : List ℕ) where
  -- it stopped at its own checks
  pub when_call_refused : (x : ℕ) {r : Refusal} → r ≡ bare x → x ≡ first_of (call_checks b (length group)) → (x ≡ 0 → ⊥) → no_plan r ≡ planned_of b group
  unfolding planned_of plan_checks
  when_call_refused x r e d =
      let f : first_of (call_checks b (length group) ++ group_checks b group) ≡ x = at_once (call_checks b (length group)) (group_checks b group) (λ z. d (e ∙ z)) ∙ sym e in
      let g : cond (eqb (first_of (call_checks b (length group) ++ group_checks b group)) 0) (plan_after b group (frames_in group)) nothing_seen ≡ nothing_seen = rw (f, ne_eqb x 0 d) refl in
      λ i. record { refusal = refused_bare x (refused_header b group) r (λ z. not_of_call b (length group) (sym e ∙ z)) (sym f) i; plan = sym g i }

  -- it went on to the headers
  pub headers_answer : NoneHolds (call_checks b (length group)) → planned_by b group ≡ planned_of b group
  unfolding planned_of planned_by plan_checks
  headers_answer n =
      let f : first_of (group_checks b group) ≡ first_of (call_checks b (length group) ++ group_checks b group) = sym (onward (group_checks b group) n) in
      λ i. record { refusal = group_refusal b group (f i); plan = cond (eqb (f i) 0) (plan_after b group (frames_in group)) nothing_seen }
