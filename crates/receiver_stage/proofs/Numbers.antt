-- The checks of the slots' numbers, over the bytes that hold them. Assumes nothing.
use Prim.Native.Nat.{ℕ, ◌*◌, ◌≤◌}
use mathlib.Core.Path.{◌≡◌, refl, sym, ap, ◌∙◌}
use mathlib.Core.Bool.{Bool, true, false, ◌||◌, true≢false}
use mathlib.Core.List.{List, [], ◌∷◌, ◌++◌}
use native.Mathlib.Omega.{arith}
use lib.ListN.{length, take, drop, length-drop, take-append-drop}
use lib.Seq.{length-take-le, take_all}
use Rattle.bits.specs.Fields.{run, cut}
use Rattle.slices.specs.Slices.{some_at_least}
use Rattle.counters.specs.Counters.{last_short_slot}
use Rattle.setting.specs.declared.Kind.{Kind}
use Rattle.setting.specs.Refusal.{Check, first_of}
use Rattle.setting.specs.Rules.{number_checks}
use Rattle.setting.specs.Size.{size_of}
use Rattle.setting.proofs.Refusals.{first_none, none_first, none_append, onward, at_once}
use Rattle.setting_bytes.specs.Settings.{part}
use Rattle.receiver.specs.Packed.{packed_length, unpacked}
use Rattle.receiver.specs.Bytes.{numbers_at, before_at, receiver_length, receiver_of}
use Rattle.receiver.proofs.Packing.{Long, none_wrong, length-unpacked, unpacked-part}
use Rattle.bits.proofs.Halves.{halves}
use Rattle.receiver_stage.proofs.Halves.{some_half, half_append, half_higher}

-- the checks of the numbers by both headers
abbrev pub checks : List ℕ → Kind → List Check
checks b kind = number_checks (size_of kind) (receiver_of b).numbers ++ number_checks (size_of kind) (receiver_of b).before

-- what is asked of a short frame's list: the bytes of its slots, and those behind its last slot
abbrev pub asked : List ℕ → List Check
asked l = (17, some_half 8 (take 20 l)) ∷ (17, some_half 1 (take 6 (drop 20 l))) ∷ []

-- what the second check asks for too need not be asked by the first
asked-behind : (n : ℕ) (p x q : Bool) → (q ≡ false → x ≡ false) → first_of ((n, p || x) ∷ (n, q) ∷ []) ≡ first_of ((n, p) ∷ (n, q) ∷ [])
unfolding first_of
asked-behind n true x q h = refl
asked-behind n false true true h = refl
asked-behind n false true false h = absurd (true≢false (h refl))
asked-behind n false false q h = refl

module _ (l : List ℕ) (e : length l ≡ packed_length) where
  six : length (take 6 (drop 20 l)) ≡ 6
  six = length-take-le 6 (drop 20 l) (rw length-drop (omega (arith, e)))

  -- all numbers: those of the slots, and those behind
  all-halves : some_at_least 8 (unpacked l) ≡ some_half 8 (take 20 l) || some_half 8 (take 6 (drop 20 l))
  unfolding unpacked
  all-halves =
      let whole : take 20 l ++ take 6 (drop 20 l) ≡ l =
      ap (λ (ns : List ℕ). take 20 l ++ ns) (take_all 6 (drop 20 l) (rw length-drop (omega (arith, e)))) ∙ take-append-drop 20 l in
      ap (λ (n : ℕ). some_at_least 8 (cut 4 (2 * n) (run 8 l))) (sym e) ∙ ap (some_half 8) (sym whole) ∙ half_append 8 (take 20 l) (take 6 (drop 20 l))

  last-halves : halves (take 6 (drop 20 l)) ≡ drop last_short_slot (unpacked l)
  last-halves =
      ap (λ (n : ℕ). cut 4 (2 * n) (run 8 (take 6 (drop 20 l)))) six
      ∙ unpacked-part 20 6 l (omega arith) e
      ∙ take_all 12 (drop last_short_slot (unpacked l)) (rw length-drop (omega (arith, length-unpacked l)))

  pub all_asked : first_of (number_checks (size_of Kind.Short) (unpacked l)) ≡ first_of (asked l)
  unfolding size_of
  all_asked = rw (all-halves, ← last-halves) (asked-behind 17 _ _ _ (half_higher 8 1 (omega arith) (take 6 (drop 20 l))))

-- a plain or an extended frame has none that is wrong
pub unasked : (b : List ℕ) → length b ≡ receiver_length → {kind : Kind} → Long kind → 0 ≡ first_of (checks b kind)
unfolding receiver_of
unasked b l long = sym (first_none (none_append (none_wrong long (part numbers_at packed_length b) (length_list numbers_at (omega arith))) (none_wrong long (part before_at packed_length b) (length_list before_at (omega arith)))))
  where
    length_list : (at : ℕ) → at ≤ before_at → length (part at packed_length b) ≡ packed_length
    length_list at h = length-take-le packed_length (drop at b) (rw length-drop (omega (arith, l, h)))

-- what is asked of a short frame's list that stands from this place on
abbrev list_checks : ℕ → List ℕ → List Check
list_checks at b = number_checks (size_of Kind.Short) (unpacked (part at packed_length b))

-- the first list answers
pub first_list : (b : List ℕ) → (first_of (list_checks numbers_at b) ≡ 0 → ⊥) → first_of (checks b Kind.Short) ≡ first_of (list_checks numbers_at b)
unfolding receiver_of
first_list b h = at_once (list_checks numbers_at b) (list_checks before_at b) h

-- it leaves the answer to the second
pub second_list : (b : List ℕ) → first_of (list_checks numbers_at b) ≡ 0 → first_of (checks b Kind.Short) ≡ first_of (list_checks before_at b)
unfolding receiver_of
second_list b e = onward (list_checks before_at b) (none_first (list_checks numbers_at b) refl e)
