-- The numbers of a plan written into lists that the caller lends, as many as there is room for. Assumes nothing.
use Prim.Native.Nat.{ℕ, zero, suc, ◌+◌, ◌-◌, ◌<◌}
use mathlib.Core.Path.{◌≡◌, refl, sym, ap, ap₂, subst, ◌∙◌}
use mathlib.Core.Bool.{Bool, true, false, cond, ◌||◌}
use mathlib.Core.List.{List, [], ◌∷◌, ◌++◌}
use native.Mathlib.Omega.{arith}
use native.Mathlib.Numerals.{add-one}
use borrow.Author.Tests.{ne_eqb}
use lib.Count.{ones}
use lib.Dec.{eqb}
use Rattle.setting.specs.Refusal.{first_of}
use lib.ListN.{length, set, replicate, drop, length-replicate, drop_of_length-le}
use Rattle.std.proofs.Common.{min, inl, inr}
use Rattle.std.proofs.lemmas.Bool.{cases_lt}
use Rattle.std.proofs.lemmas.List.{take-replicate}
use lib.Seq.{take_all, drop-nil}
use Rattle.slices.specs.Slices.{copied}
use Rattle.counters.specs.Counters.{last_carrier}
use Rattle.bond_places.specs.Walk.{most_frames}
use Rattle.header_check.specs.OnPaper.{Refusal}
use Rattle.header_check.specs.Checking.{bare, refusal_by}
use Rattle.bond_group.specs.declared.Bond.{Bond}
use Rattle.bond_group.specs.Plan.{Headers}
use Rattle.bond_group.specs.declared.headers.Shown.{Shown}
use Rattle.bond_group.specs.Group.{frames_in, said, carries}
use Rattle.bond_group.specs.Standing.{shown_by, group_checks}
use Rattle.bond_group.specs.Plan.{Planned, headers_of, marks, nothing_seen, plan_after, planned_by, seen}
use Rattle.bond_group.proofs.Planned.{frames-long, slots-long}

-- ---- what is written over the front of a list

-- where there is no room nothing is written
copied_nowhere : (from : List ℕ) → copied [] from ≡ []
unfolding copied
copied_nowhere from = drop-nil (length from)

-- one number written over
copied-set : (into from : List ℕ) (i v : ℕ) → i < length from → set (copied into from) i v ≡ copied into (set from i v)
unfolding copied
copied-set [] from i v h = ap (λ (l : List ℕ). set l i v) (copied_nowhere from) ∙ sym (copied_nowhere (set from i v))
copied-set (x ∷ into) [] i v h = absurd (omega arith)
copied-set (x ∷ into) (y ∷ from) zero v h = refl
copied-set (x ∷ into) (y ∷ from) (suc i) v h = ap (λ (l : List ℕ). y ∷ l) (copied-set into from i v (omega arith))

-- as many numbers written over
copied_twice : (into xs ys : List ℕ) → length xs ≡ length ys → copied (copied into xs) ys ≡ copied into ys
unfolding copied
copied_twice [] xs ys e = ap (λ (l : List ℕ). copied l ys) (copied_nowhere xs)
copied_twice (x ∷ into) [] [] e = refl
copied_twice (x ∷ into) [] (z ∷ ys) e = absurd (omega arith)
copied_twice (x ∷ into) (y ∷ xs) [] e = absurd (omega arith)
copied_twice (x ∷ into) (y ∷ xs) (z ∷ ys) e = ap (λ (l : List ℕ). z ∷ l) (copied_twice into xs ys (omega arith))

pub copied_again : {now next : List ℕ} (into xs ys : List ℕ) → now ≡ copied into xs → length xs ≡ length ys → next ≡ copied now ys → next ≡ copied into ys
copied_again into xs ys e l f = f ∙ ap (λ (m : List ℕ). copied m ys) e ∙ copied_twice into xs ys l

-- zeros written over, as many as there is room for
pub zeros_over : (into : List ℕ) (m k : ℕ) → k ≡ min (length into) m → (ys : List ℕ) → ys ≡ replicate k 0 → ys ++ drop k into ≡ copied into (replicate m 0)
unfolding copied
zeros_over into m k e ys f =
    elim (cases_lt (length into) m) [
      | inl l ↦
          let short : k ≡ length into = omega arith in
          rw (f, short, length-replicate {A = ℕ} m 0, take-replicate {X = ℕ} (length into) m 0 (omega arith), drop_of_length-le into {i = length into} (omega arith), drop_of_length-le into {i = m} (omega arith))
      | inr l ↦
          let whole : k ≡ m = omega arith in
          rw (f, whole, length-replicate {A = ℕ} m 0, take_all {A = ℕ} (length into) (replicate m 0) (rw (length-replicate {A = ℕ} m 0) l))
    ]

-- ---- the plan as it is written

-- what is answered and left is this plan: each list with the plan's numbers over its front
abbrev pub Leaves : Planned → Headers → List ℕ → List ℕ → List ℕ → List ℕ → Type 0
Leaves p h frames₀ slots₀ frames slots =
    (h ≡ headers_of p) × ((frames ≡ copied frames₀ p.plan.frames) × (slots ≡ copied slots₀ p.plan.slots))

-- the same by a plan that is equal
pub leaves_by : {p q : Planned} {h : Headers} {frames slots : List ℕ} (frames₀ slots₀ : List ℕ) → p ≡ q
    → Leaves p h frames₀ slots₀ frames slots → Leaves q h frames₀ slots₀ frames slots
leaves_by {h = h} {frames} {slots} frames₀ slots₀ e = subst (λ (p : Planned). Leaves p h frames₀ slots₀ frames slots) e

module _ (b : Bond) (group frames₀ slots₀ : List ℕ) where
  -- what j headers say is written and counted
  pub record Written (frames slots : List ℕ) (is-carried : Bool) (packets j : ℕ) : Type 0 where
    pub frames_are : frames ≡ copied frames₀ (plan_after b group j).frames
    pub slots_are : slots ≡ copied slots₀ (plan_after b group j).slots
    pub carried_is : is-carried ≡ (plan_after b group j).is_carried
    pub packets_are : packets ≡ (plan_after b group j).packets

-- an empty plan has as many numbers
module _ (b : Bond) (group : List ℕ) (j : ℕ) where
  frames_same : length (plan_after b group j).frames ≡ length nothing_seen.frames
  unfolding plan_after
  frames_same = frames-long b group j ∙ sym (frames-long b group 0)

  slots_same : length (plan_after b group j).slots ≡ length nothing_seen.slots
  unfolding plan_after
  slots_same = slots-long b group j ∙ sym (slots-long b group 0)

-- whatever the headers lead to, the plan has as many
pub frames_planned : (b : Bond) (group : List ℕ) → length nothing_seen.frames ≡ length (planned_by b group).plan.frames
unfolding planned_by
frames_planned b group = by_test (eqb (first_of (group_checks b group)) 0)
  where
    by_test : (x : Bool) → length nothing_seen.frames ≡ length (cond x (plan_after b group (frames_in group)) nothing_seen).frames
    by_test true = sym (frames_same b group (frames_in group))
    by_test false = refl

pub slots_planned : (b : Bond) (group : List ℕ) → length nothing_seen.slots ≡ length (planned_by b group).plan.slots
unfolding planned_by
slots_planned b group = by_test (eqb (first_of (group_checks b group)) 0)
  where
    by_test : (x : Bool) → length nothing_seen.slots ≡ length (cond x (plan_after b group (frames_in group)) nothing_seen).slots
    by_test true = sym (slots_same b group (frames_in group))
    by_test false = refl

-- with a refusal it is the empty plan
pub plan_refused : (b : Bond) (group : List ℕ) → ((planned_by b group).refusal.number ≡ 0 → ⊥) → (planned_by b group).plan ≡ nothing_seen
unfolding planned_by refusal_by
plan_refused b group d = rw (ne_eqb (first_of (group_checks b group)) 0 d) refl

-- cleared lists hold what no header says
pub written_none : (b : Bond) (group : List ℕ) {frames slots : List ℕ} → frames ≡ copied frames nothing_seen.frames
    → slots ≡ copied slots nothing_seen.slots → Written b group frames slots frames slots false 0 0
unfolding plan_after nothing_seen
written_none b group f s = record { frames_are = f; slots_are = s; carried_is = refl; packets_are = refl }

module _ {b : Bond} {group frames₀ slots₀ frames slots : List ℕ} {is-carried : Bool} {packets j : ℕ} (w : Written b group frames₀ slots₀ frames slots is-carried packets j) where
  -- one header more
  pub written-more : {frames' slots' : List ℕ} (h : Shown) (m : ℕ) (carried : Bool)
      → frames' ≡ set frames (h.carrier_sequence - 1) h.number_of_frames → slots' ≡ set slots j m
      → h ≡ shown_by (said group j) → m ≡ marks b (said group j) → carried ≡ carries b (said group j)
      → h.carrier_sequence - 1 < last_carrier → j < most_frames
      → Written b group frames₀ slots₀ frames' slots' (is-carried || carried) (packets + ones m) (j + 1)
  unfolding plan_after seen shown_by
  written-more {frames'} {slots'} h m carried x y e f g c l =
      subst (Written b group frames₀ slots₀ frames' slots' (is-carried || carried) (packets + ones m)) (sym (add-one j))
      (record {
        frames_are =
            x ∙ ap (λ (fs : List ℕ). set fs (h.carrier_sequence - 1) h.number_of_frames) w.frames_are
            ∙ copied-set frames₀ (plan_after b group j).frames (h.carrier_sequence - 1) h.number_of_frames (rw (frames-long b group j) c)
            ∙ ap (λ (o : Shown). copied frames₀ (set (plan_after b group j).frames (o.carrier_sequence - 1) o.number_of_frames)) e;
        slots_are =
            y ∙ ap (λ (ss : List ℕ). set ss j m) w.slots_are ∙ copied-set slots₀ (plan_after b group j).slots j m (rw (slots-long b group j) l)
            ∙ ap (λ (n : ℕ). copied slots₀ (set (plan_after b group j).slots j n)) f;
        carried_is = ap₂ ◌||◌ w.carried_is g;
        packets_are = ap₂ (λ (p n : ℕ). p + ones n) w.packets_are f;
      })

  -- all headers
  pub written_all : {r : Refusal} → r ≡ bare 0 → j ≡ frames_in group
      → Leaves (record { refusal = bare 0; plan = plan_after b group (frames_in group) }) (record { refusal = r; is_carried = is-carried; packets = packets }) frames₀ slots₀ frames slots
  written_all z e = (
    λ i. record {
      refusal = z i;
      is_carried = (w.carried_is ∙ ap (λ (n : ℕ). (plan_after b group n).is_carried) e) i;
      packets = (w.packets_are ∙ ap (λ (n : ℕ). (plan_after b group n).packets) e) i;
    },
    (
      w.frames_are ∙ ap (λ (n : ℕ). copied frames₀ (plan_after b group n).frames) e,
      w.slots_are ∙ ap (λ (n : ℕ). copied slots₀ (plan_after b group n).slots) e,
    ),
  )

  -- behind some headers the lists are cleared to what they were cleared to before
  pub cleared-same : (copied frames nothing_seen.frames ≡ copied frames₀ nothing_seen.frames) × (copied slots nothing_seen.slots ≡ copied slots₀ nothing_seen.slots)
  cleared-same = (
    copied_again frames₀ (plan_after b group j).frames nothing_seen.frames w.frames_are (frames_same b group j) refl,
    copied_again slots₀ (plan_after b group j).slots nothing_seen.slots w.slots_are (slots_same b group j) refl,
  )
