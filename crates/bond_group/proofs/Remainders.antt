-- The remainder of a group is that of the header which is refused by 7, and not 0. Assumes nothing.
use Prim.Native.Nat.{ℕ, zero, suc, ◌+◌, ◌*◌, ◌≤◌, ◌<◌}
use mathlib.Core.Path.{◌≡◌, refl, sym, ap, subst, ◌∙◌}
use mathlib.Core.Logic.{◌⊎◌, inl, inr, ⊎_elim}
use mathlib.Core.List.{List}
use native.Mathlib.Omega.{arith}
use native.Mathlib.Decide.{ℕ_discrete}
use borrow.Author.Tests.{ne_eqb}
use lib.ListN.{length}
use Rattle.setting.specs.declared.Kind.{Kind}
use Rattle.setting.specs.Refusal.{NoneHolds, first_of}
use Rattle.setting.proofs.Refusals.{none_first, onward, at_once, idle-before, idle-behind, never_first}
use Rattle.header_layout.specs.Header.{remainder_of}
use Rattle.header_check.specs.Checking.{read_checks, read_refusal, refusal_by, parts_of, parts_beside, checked_of}
use Rattle.header_check.proofs.Sevens.{read_idle, beside_seven}
use Rattle.packet.specs.Packets.{slot}
use Rattle.bond_places.specs.Order.{frame_packets}
use Rattle.bond_group.specs.declared.Bond.{Bond}
use Rattle.bond_group.specs.Group.{frames_in}
use Rattle.bond_group.specs.Standing.{standing_checks, call_checks, header_checks, headers_checks, group_checks, plan_checks, refused_from, refused_frame, refused_header}
use Rattle.bond_group.specs.Plan.{planned_of}
use Rattle.bond_group.specs.Demands.{OfTheRefused, RemainderShown}
use Rattle.bond_group.proofs.Passing.{numbered-header, called, call_none, not_of_call}
use Rattle.bond_group.proofs.Through.{header-refusal}

module _ (b : Bond) (group : List ℕ) where
  -- a header that is refused by 7 is so as a header: where it stands is asked by 14
  by_crc : (j : ℕ) → first_of (header_checks b group j) ≡ 7 → first_of (read_checks Kind.Extended b.pid (slot (frame_packets * j) group)) ≡ 7
  unfolding header_checks standing_checks
  by_crc j e = idle-behind 7 (read_checks Kind.Extended b.pid (slot (frame_packets * j) group)) _ (omega arith) refl e

  -- of n headers from frame j on: the first that is refused, by 7
  record First (j n r : ℕ) : Type 0 where
    from : j ≤ r
    to : r < j + n
    before : (i : ℕ) → j ≤ i → i < r → NoneHolds (header_checks b group i)
    here : first_of (header_checks b group r) ≡ 7

  first : (j n : ℕ) → first_of (headers_checks b group j n) ≡ 7 → First j n (refused_from b group j n)
  unfolding headers_checks refused_from first_of
  first j zero e = absurd (omega arith)
  first j (suc n) e = by_refusal (first (j + 1) n) (ℕ_discrete (first_of (header_checks b group j)) 0)
    where
      at_or_behind : (i : ℕ) → j ≤ i → (i ≡ j) ⊎ (j + 1 ≤ i)
      at_or_behind i l = by_place (ℕ_discrete i j)
        where
          by_place : Dec (i ≡ j) → (i ≡ j) ⊎ (j + 1 ≤ i)
          by_place (yes s) = inl s
          by_place (no d) = inr (omega arith)

      by_refusal : (first_of (headers_checks b group (j + 1) n) ≡ 7 → First (j + 1) n (refused_from b group (j + 1) n)) → Dec (first_of (header_checks b group j) ≡ 0)
          → First j (suc n) (refused_from b group j (suc n))
      by_refusal later (yes z) =
          let passes = none_first (header_checks b group j) (numbered-header b group j) z in
          let f = later (sym (onward (headers_checks b group (j + 1) n) passes) ∙ e) in
          let low = f.from in
          let high = f.to in
          let next : refused_from b group j (suc n) ≡ refused_from b group (j + 1) n = rw z in
          subst (First j (suc n)) (sym next)
          (record {
            from = omega arith;
            to = omega arith;
            before = λ i l h. ⊎_elim (λ (s : i ≡ j). subst (λ (k : ℕ). NoneHolds (header_checks b group k)) (sym s) passes) (λ (s : j + 1 ≤ i). f.before i s h) (at_or_behind i l);
            here = f.here;
          })
      by_refusal later (no d) =
          let stops : refused_from b group j (suc n) ≡ j = rw (ne_eqb _ 0 d) in
          subst (First j (suc n)) (sym stops)
          (record {
            from = omega arith;
            to = omega arith;
            before = λ i l h. absurd (omega arith);
            here = sym (at_once (header_checks b group j) (headers_checks b group (j + 1) n) d) ∙ e;
          })

  -- ---- the checks of a group

  plan_seven : first_of (plan_checks b group) ≡ 7 → First 0 (frames_in group) (refused_frame b group)
  unfolding plan_checks group_checks call_checks
  plan_seven e =
      first 0 (frames_in group)
      (idle-behind 7 (headers_checks b group 0 (frames_in group)) _ (omega arith) refl (idle-before 7 (call_checks b (length group)) (group_checks b group) refl e))

  pub seven_shows : first_of (plan_checks b group) ≡ 7 → remainder_of (refused_header b group) ≡ 0 → ⊥
  unfolding refused_header
  seven_shows e z =
      let p = slot (frame_packets * refused_frame b group) group in
      never_first 7 (read_checks Kind.Extended b.pid p) (omega arith) (read_idle Kind.Extended b.pid p z) (by_crc (refused_frame b group) (plan_seven e).here)

  -- the call's own checks passed then
  calls : first_of (plan_checks b group) ≡ 7 → NoneHolds (call_checks b (length group))
  unfolding plan_checks
  calls e = by_call (ℕ_discrete (first_of (call_checks b (length group))) 0)
    where
      by_call : Dec (first_of (call_checks b (length group)) ≡ 0) → NoneHolds (call_checks b (length group))
      by_call (yes z) = call_none b (length group) z
      by_call (no d) = absurd (not_of_call b (length group) (sym (at_once (call_checks b (length group)) (group_checks b group) d) ∙ e))

pub of_the_refused : OfTheRefused
unfolding planned_of refusal_by refused_header checked_of parts_beside parts_of
of_the_refused b group e =
    let f = plan_seven b group e in
    let j = refused_frame b group in
    let p = slot (frame_packets * j) group in
    let high : j < frames_in group = let h = f.to in omega arith in
    let read : read_refusal Kind.Extended b.pid p ≡ first_of (plan_checks b group) =
    header-refusal b group (called b (length group) (calls b group e)).pid j high ∙ by_crc b group j f.here ∙ sym e in
    record {
      within = high;
      passed = λ i l. f.before i (omega arith) l;
      checked = ap (λ (n : ℕ). refusal_by n p) read;
    }

pub remainder_shown : RemainderShown
unfolding planned_of
remainder_shown b group = beside_seven (first_of (plan_checks b group)) (refused_header b group) (seven_shows b group)
