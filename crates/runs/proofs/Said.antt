-- What a closed frame's header says meets the rules and is of its types, since the open frame's setting does and is. Assumes nothing.
use Prim.Native.Nat.{ℕ, zero, suc, ◌+◌, ◌%◌, ◌^◌, ◌<◌}
use mathlib.Core.Path.{◌≡◌, refl, ap, ◌∙◌}
use mathlib.Core.Bool.{Bool, true, false, cond}
use mathlib.Core.List.{List, [], ◌∷◌, ◌++◌}
use native.Mathlib.Omega.{arith}
use borrow.Author.Tests.{lt-leb}
use native.Mathlib.Decide.{dec_lt}
use lib.Dec.{lit<}
use lib.ListN.{length, get_or, drop, get_or-eq_default}
use lib.Pow.{pow_pos}
use Rattle.bits.specs.Fields.{Fit, none, more}
use Rattle.bits.proofs.Laws.{fit_of, fit_get_d}
use Rattle.slices.proofs.Any.{any_no, any_each}
use Rattle.setting.specs.declared.Kind.{Kind}
use Rattle.setting.specs.declared.Setting.{Setting}
use Rattle.setting.specs.Setting.{OfItsTypes}
use Rattle.setting.specs.Size.{size_of, slots_of, streams_of}
use Rattle.setting.specs.Refusal.{Check, NoneHolds, more}
use Rattle.setting.specs.Rules.{pid_allowed, behind_checks, number_checks, information_checks, absent_of, unavailable, some_unavailable, width_checks, rule_checks}
use Rattle.setting.proofs.Refusals.{none_at, none_append, none_before, none_behind}
use Rattle.setting.proofs.Fields.{some_fit, fit_some, narrow}
use Rattle.header_layout.specs.Meets.{MeetsRules}
use Rattle.composer.specs.Slots.{numbers_of}
use Rattle.composer.specs.Composing.{saying}
use Rattle.composer.proofs.Passed.{none_drop}

-- ---- the filled slots' numbers: the plan's, or 0

length_numbers : (plan : List ℕ) (marks : List Bool) → length marks ≡ length plan → length (numbers_of plan marks) ≡ length plan
unfolding numbers_of
length_numbers [] ms e = refl
length_numbers (n ∷ ns) [] e = absurd (omega arith)
length_numbers (n ∷ ns) (m ∷ ms) e = ap suc (length_numbers ns ms (omega arith))

-- zeros behind the plan's first n are zeros of the header's
numbers_behind : (n : ℕ) (plan : List ℕ) (marks : List Bool) → Fit 0 (drop n plan) → Fit 0 (drop n (numbers_of plan marks))
unfolding numbers_of
numbers_behind n [] ms f = f
numbers_behind zero (p ∷ ps) [] f = none
numbers_behind (suc n) (p ∷ ps) [] f = none
numbers_behind zero (p ∷ ps) (m ∷ ms) (more h f) = more (zero_or m) (numbers_behind zero ps ms f)
  where
    zero_or : (b : Bool) → cond b p 0 < 2 ^ 0
    zero_or true = h
    zero_or false = lit< tt
numbers_behind (suc n) (p ∷ ps) (m ∷ ms) f = numbers_behind n ps ms f

-- a property that 0 has and each planned number has, each filled slot's number has
module _ (P : ℕ → Type 0) (z : P 0) where
  one_number : (m : Bool) (n : ℕ) → P n → P (cond m n 0)
  one_number true n p = p
  one_number false n p = z

  each_number : (plan : List ℕ) (marks : List Bool) → ((i : ℕ) → P (get_or plan i 0)) → (i : ℕ) → P (get_or (numbers_of plan marks) i 0)
  unfolding numbers_of
  each_number [] ms h i = h i
  each_number (n ∷ ns) [] h i = z
  each_number (n ∷ ns) (m ∷ ms) h zero = one_number m n (h 0)
  each_number (n ∷ ns) (m ∷ ms) h (suc i) = each_number ns ms (λ j. h (suc j)) i

module _ (plan : List ℕ) (marks : List Bool) (l : length marks ≡ length plan) where
  numbers_narrow : (w : ℕ) → Fit w plan → Fit w (numbers_of plan marks)
  numbers_narrow w f = fit_of w (numbers_of plan marks) (each_number (λ n. n < 2 ^ w) (pow_pos w) plan marks (λ i. fit_get_d f i))

  numbers_available : (availability : ℕ) → some_unavailable availability plan ≡ false → some_unavailable availability (numbers_of plan marks) ≡ false
  unfolding some_unavailable
  numbers_available availability e =
      any_no (λ i. unavailable availability (get_or (numbers_of plan marks) i 0)) (length (numbers_of plan marks))
      (λ i h. each_number (λ n. unavailable availability n ≡ false) refl plan marks (λ j. planned j (dec_lt j (length plan))) i)
    where
      planned : (j : ℕ) → Dec (j < length plan) → unavailable availability (get_or plan j 0) ≡ false
      planned j (yes h) = any_each (λ i. unavailable availability (get_or plan i 0)) (length plan) e j h
      planned j (no h) = rw (get_or-eq_default plan 0 {n = j} (omega arith))

-- a version of three bits, raised or not, has three bits
pub version_narrow : (b : Bool) (version : ℕ) → version < 2 ^ 3 → cond b ((version + 1) % 8) version < 2 ^ 3
version_narrow true version h = omega arith
version_narrow false version h = h

-- ---- the setting with other numbers

-- what the checks of 17 ask of it that the header says too, whatever its numbers
abbrev information_of : Setting → List Check
information_of s =
    information_checks s.slot_allocation_type s.frame_type s.availability s.receive_status s.emergency_indicator

abbrev behind_of : Kind → Setting → List Check
behind_of kind s = behind_checks (streams_of kind) s.availability s.ts_id s.original_network_id s.receive_status

module _ (s : Setting) (counter version : ℕ) (numbers : List ℕ) where
  said-widths : (kind : Kind) → counter < 2 ^ 4 → version < 2 ^ 3 → Fit (size_of kind).number_bits numbers → Fit 0 (drop (slots_of kind) numbers)
      → NoneHolds (width_checks kind s) → NoneHolds (width_checks kind (saying counter version numbers s))
  unfolding width_checks saying
  said-widths kind h v f z w =
      let said = information_of s ++ behind_of kind s in
      let behind = none_drop w 2 in
      more (lt-leb (2 ^ 4) counter h) (more (lt-leb (2 ^ 3) version v)
      (none_append (none_before said (number_checks (size_of kind) s.relative_ts_number ++ absent_of kind s) behind)
      (more (some_fit (size_of kind).number_bits numbers f) (more (some_fit 0 (drop (slots_of kind) numbers) z)
      (none_drop (none_behind said behind) 2)))))

  said_rules : (kind : Kind) → some_unavailable s.availability numbers ≡ false → NoneHolds (rule_checks kind s) → NoneHolds (rule_checks kind (saying counter version numbers s))
  unfolding rule_checks saying
  said_rules kind u (more a (more _ (more b rest))) = more a (more u (more b rest))

-- what the header says, by the plan and any marks
pub said_meets : (kind : Kind) (pid : ℕ) (s : Setting) (counter version : ℕ) (marks : List Bool) → pid_allowed pid ≡ true → counter < 2 ^ 4 → version < 2 ^ 3
    → length marks ≡ length s.relative_ts_number → NoneHolds (width_checks kind s) → NoneHolds (rule_checks kind s)
    → MeetsRules kind pid (saying counter version (numbers_of s.relative_ts_number marks) s)
unfolding rule_checks
said_meets kind pid s counter version marks p h v l w r =
    let plan = s.relative_ts_number in
    record {
      pid-allowed = p;
      fields = none_append
          (said-widths s counter version (numbers_of plan marks) kind h v (numbers_narrow plan marks l (size_of kind).number_bits (narrow kind w).numbers)
          (numbers_behind (slots_of kind) plan marks (fit_some 0 (drop (slots_of kind) plan) (narrow kind w).numbers_behind)) w)
          (said_rules s counter version (numbers_of plan marks) kind (numbers_available plan marks l s.availability (none_at r 1)) r);
    }

-- and is of its types
pub said_types : (s : Setting) (counter version : ℕ) (marks : List Bool) → length marks ≡ length s.relative_ts_number → OfItsTypes s
    → OfItsTypes (saying counter version (numbers_of s.relative_ts_number marks) s)
unfolding saying
said_types s counter version marks l t =
    let plan = s.relative_ts_number in
    record {
      ts_ids = t.ts_ids;
      network_id = t.network_id;
      statuses = t.statuses;
      numbers = (
        length_numbers plan marks l ∙ t.numbers.0,
        fit_of 8 (numbers_of plan marks) (each_number (λ n. n < 2 ^ 8) (lit< tt) plan marks (λ i. fit_get_d t.numbers.1 i)),
      );
      privates = t.privates;
      auxiliaries = t.auxiliaries;
      group = t.group;
    }
