-- What the headers of a group show that passes the checks: each stands behind the one before it. Assumes nothing.
use Prim.Native.Nat.{ℕ, zero, suc, ◌+◌, ◌*◌, ◌≤◌, ◌<◌}
use mathlib.Core.Path.{◌≡◌, subst}
use mathlib.Core.Logic.{◌⊎◌, inl, inr}
use mathlib.Core.Bool.{true, false}
use native.Mathlib.Omega.{arith}
use native.Mathlib.Decide.{dec_lt}
use borrow.Author.Tests.{leb-true, eqb-true, not-false}
use mathlib.Core.List.{List}
use lib.Dec.{leb}
use Rattle.slices.proofs.Any.{both}
use Rattle.setting.specs.declared.Kind.{Kind}
use Rattle.setting.specs.declared.Setting.{Setting}
use Rattle.counters.specs.Counters.{first_position, within, last_carrier}
use Rattle.setting.specs.Refusal.{NoneHolds}
use Rattle.setting.specs.Rules.{rule_checks, bonding_checks}
use Rattle.setting.proofs.Refusals.{none_at, none_before, none_behind}
use Rattle.setting.proofs.Fields.{at_most, bonding_none}
use Rattle.header_layout.specs.Header.{packet_checks, reserved_checks}
use Rattle.header_check.specs.Checking.{read_checks}
use Rattle.packet.specs.Packets.{slot}
use Rattle.bond_group.specs.declared.Bond.{Bond}
use Rattle.bond_group.specs.declared.headers.Shown.{Shown}
use Rattle.bond_places.specs.Order.{frame_packets}
use Rattle.bond_group.specs.Group.{frames_in, said}
use Rattle.bond_group.specs.Standing.{shown_by, before, is_last, is_end, next_carrier, next_position, standing_checks, header_checks, headers_checks, group_checks}

pub at_least : (first last n : ℕ) → within first last n ≡ true → first ≤ n
at_least first last n e = leb-true first n (both (leb first n) (leb n last) e).0

three_or_four : (f : ℕ) → 3 ≤ f → f ≤ 4 → (f ≡ 3) ⊎ (f ≡ 4)
three_or_four f l h = by_test (dec_lt f 4)
  where
    by_test : Dec (f < 4) → (f ≡ 3) ⊎ (f ≡ 4)
    by_test (yes e) = inl (omega arith)
    by_test (no d) = inr (omega arith)

-- the bonding fields of a header that meets the rules
pub record Bonds (s : Setting) : Type 0 where
  pub carriers : s.number_of_carriers ≤ last_carrier
  pub from : 1 ≤ s.carrier_sequence
  pub to : s.carrier_sequence ≤ s.number_of_carriers
  pub framed : (s.number_of_frames ≡ 3) ⊎ (s.number_of_frames ≡ 4)
  pub first : first_position ≤ s.frame_position.0
  pub last : s.frame_position.0 ≤ s.number_of_frames

pub bonds : (s : Setting) → NoneHolds (rule_checks Kind.Extended s) → Bonds s
unfolding bonding_checks
bonds s rules =
    let h = bonding_none Kind.Extended s rules in
    let n = not-false (within 1 8 s.number_of_carriers) (none_at h 0) in
    let q = not-false (within 1 s.number_of_carriers s.carrier_sequence) (none_at h 1) in
    let f = not-false (within 3 4 s.number_of_frames) (none_at h 2) in
    let p = not-false (within first_position s.number_of_frames s.frame_position.0) (none_at h 3) in
    record {
      carriers = at_most 1 8 s.number_of_carriers n;
      from = at_least 1 s.number_of_carriers s.carrier_sequence q;
      to = at_most 1 s.number_of_carriers s.carrier_sequence q;
      framed = three_or_four s.number_of_frames (at_least 3 4 s.number_of_frames f) (at_most 3 4 s.number_of_frames f);
      first = at_least first_position s.number_of_frames s.frame_position.0 p;
      last = at_most first_position s.number_of_frames s.frame_position.0 p;
    }

-- what a header shows that stands behind another as it should
pub record Follows (carriers first_group_id : ℕ) (behind h : Shown) : Type 0 where
  pub not_end : is_end carriers behind ≡ false
  pub carrier : h.carrier_sequence ≡ next_carrier behind
  pub group : h.group_id ≡ first_group_id
  pub count : h.number_of_carriers ≡ carriers
  pub frames : is_last behind ≡ false → h.number_of_frames ≡ behind.number_of_frames
  pub position : h.frame_position.0 ≡ next_position behind

pub follows : (carriers first_group_id : ℕ) (behind h : Shown) → NoneHolds (standing_checks carriers first_group_id behind h) → Follows carriers first_group_id behind h
unfolding standing_checks
follows carriers first_group_id behind h n =
    record {
      not_end = none_at n 0;
      carrier = eqb-true h.carrier_sequence (next_carrier behind) (not-false _ (none_at n 1));
      group = eqb-true h.group_id first_group_id (not-false _ (none_at n 2));
      count = eqb-true h.number_of_carriers carriers (not-false _ (none_at n 3));
      frames = λ e. eqb-true h.number_of_frames behind.number_of_frames
          (not-false _ (rw e at (none_at n 4)));
      position = eqb-true h.frame_position.0 (next_position behind) (not-false _ (none_at n 5));
    }

-- the header of frame j meets the rules and stands behind the one before it
pub record Stands (b : Bond) (group : List ℕ) (j : ℕ) : Type 0 where
  pub bond : Bonds (said group j)
  pub following : Follows b.carriers (said group 0).group_id (before group j) (shown_by (said group j))

pub stands : (b : Bond) (group : List ℕ) (j : ℕ) → NoneHolds (header_checks b group j) → Stands b group j
unfolding header_checks read_checks said
stands b group j n =
    let p = slot (frame_packets * j) group in
    let read = none_before (read_checks Kind.Extended b.pid p) _ n in
    record {
      bond = bonds (said group j) (none_behind (reserved_checks Kind.Extended p) (none_behind (packet_checks b.pid p) read));
      following = follows b.carriers (said group 0).group_id (before group j) (shown_by (said group j)) (none_behind (read_checks Kind.Extended b.pid p) n);
    }

pub headers_each : (b : Bond) (group : List ℕ) (s n : ℕ) → NoneHolds (headers_checks b group s n) → (i : ℕ) → i < n → NoneHolds (header_checks b group (s + i))
unfolding headers_checks
headers_each b group s zero h i l = absurd (omega arith)
headers_each b group s (suc n) h zero l =
    let e : s ≡ s + 0 = omega arith in
    subst (λ (k : ℕ). NoneHolds (header_checks b group k)) e (none_before (header_checks b group s) (headers_checks b group (s + 1) n) h)
headers_each b group s (suc n) h (suc i) l =
    let e : s + 1 + i ≡ s + suc i = omega arith in
    subst (λ (k : ℕ). NoneHolds (header_checks b group k)) e
    (headers_each b group (s + 1) n (none_behind (header_checks b group s) h) i (omega arith))

-- all headers of a group that passes the checks do, and the last of them is the last carrier's last
pub record Whole (b : Bond) (group : List ℕ) : Type 0 where
  pub each : (j : ℕ) → j < frames_in group → Stands b group j
  pub ended : is_end b.carriers (before group (frames_in group)) ≡ true

pub whole : (b : Bond) (group : List ℕ) → NoneHolds (group_checks b group) → Whole b group
unfolding group_checks
whole b group h =
    record {
      each = λ j l.
          let e : 0 + j ≡ j = omega arith in
          stands b group j
          (subst (λ (k : ℕ). NoneHolds (header_checks b group k)) e
          (headers_each b group 0 (frames_in group) (none_before (headers_checks b group 0 (frames_in group)) _ h) j l));
      ended = not-false _ (none_at (none_behind (headers_checks b group 0 (frames_in group)) h) 0);
    }
