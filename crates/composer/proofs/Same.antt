-- A state that was decoded, changed and encoded again: which of its bytes are the old ones. Assumes nothing.
use Prim.Native.Nat.{ℕ, zero, suc, ◌-◌, ◌<◌}
use mathlib.Core.Path.{◌≡◌, refl, sym, ap, ap₂, ◌∙◌}
use mathlib.Core.Bool.{Bool, true, false, cond, not, ◌&&◌}
use mathlib.Core.List.{List, [], ◌∷◌, ◌++◌, map, append_assoc}
use native.Mathlib.Omega.{arith}
use borrow.Author.Tests.{ltb-true, not-true}
use lib.Dec.{eqb, ltb}
use lib.ListN.{length, get_or, take, replicate}
use lib.Seq.{take-suc, append_snoc}
use Rattle.bits.specs.Fields.{Fit, none, more}
use Rattle.slices.specs.Slices.{some_at_least}
use Rattle.slices.proofs.Any.{both}
use Rattle.setting.specs.declared.Kind.{Kind}
use Rattle.setting.specs.Setting.{blank}
use Rattle.setting.specs.Announcing.{announced}
use Rattle.setting_bytes.specs.Words.{word_bytes}
use Rattle.setting_bytes.specs.Kinds.{kinds, is_kind, kind_number}
use Rattle.setting_bytes.specs.Settings.{part, announced_bytes, setting_length, setting_bytes, setting_of, announced_at, announced_length}
use Rattle.setting.proofs.Fields.{fit_some}
use Rattle.setting_bytes.proofs.KindsBack.{kind_same}
use Rattle.setting_bytes.proofs.Parts.{length_part}
use Rattle.setting_bytes.proofs.Same.{part-joined, part-joined-before, part_inside, part_first_byte, fit_part, word_same, announced_same, announced_part_same, setting_same}
use Rattle.composer.specs.Composing.{fresh, opened, marked, closed_with}
use Rattle.composer.specs.States.{composer_length, mark_byte, composer_bytes, is_coded, no_counter, composer_of, counter_at, filled_at, kind_at, last_at, open_at, open_length, said_at, setting_at}
use Rattle.composer.proofs.Parts.{front_bytes}
use Rattle.counters.specs.Counters.{last_slot}

-- a byte that is a mark says itself
mark_same : (n : ℕ) → n < 2 → mark_byte (eqb n 1) ≡ n
unfolding mark_byte
mark_same zero h = refl
mark_same (suc zero) h = refl
mark_same (suc (suc n)) h = absurd (omega arith)

-- bytes of which none is 2 or more, read as marks, say themselves
pub marks_same : (m : List ℕ) → some_at_least 2 m ≡ false → map mark_byte (map (λ (n : ℕ). eqb n 1) m) ≡ m
marks_same m e = each m (fit_some 1 m e)
  where
    each : (m : List ℕ) → Fit 1 m → map mark_byte (map (λ (n : ℕ). eqb n 1) m) ≡ m
    each [] none = refl
    each (n ∷ m) (more h f) = ap₂ (λ (x : ℕ) (l : List ℕ). x ∷ l) (mark_same n h) (each m f)

-- numbers of which none is 256 or more are bytes
pub all-bytes : (b : List ℕ) → some_at_least 256 b ≡ false → Fit 8 b
all-bytes b e = fit_some 8 b e

-- the blank setting is zeros
blank-bytes : setting_bytes blank ≡ replicate setting_length 0
unfolding setting_bytes blank announced announced_bytes word_bytes
blank-bytes = refl

module _ (b : List ℕ) (long : length b ≡ composer_length) (fit : Fit 8 b) (coded : is_coded b ≡ true) where
  -- what the test of the bytes says of the kind, and of the open mark
  tests : (is_kind (get_or b kind_at 0) ≡ true) × (ltb (get_or b open_at 0) 2 && not (some_at_least 2 (part filled_at last_slot b)) ≡ true)
  unfolding is_coded
  tests = both (is_kind (get_or b kind_at 0)) (ltb (get_or b open_at 0) 2 && not (some_at_least 2 (part filled_at last_slot b))) coded

  open_test : ltb (get_or b open_at 0) 2 ≡ true
  open_test = (both (ltb (get_or b open_at 0) 2) (not (some_at_least 2 (part filled_at last_slot b))) tests.1).0

  -- the marks' bytes are marks
  pub marks_low : some_at_least 2 (part filled_at last_slot b) ≡ false
  marks_low = not-true (some_at_least 2 (part filled_at last_slot b)) (both (ltb (get_or b open_at 0) 2) (not (some_at_least 2 (part filled_at last_slot b))) tests.1).1

  -- PID and kind: the first three bytes, whatever stands behind them
  pid-kind : (r : List ℕ) → word_bytes ((composer_of b).pid ∷ []) ++ (kind_number (composer_of b).kind ∷ r) ≡ take counter_at b ++ r
  unfolding composer_of
  pid-kind r =
      rw (word_same 0 b (omega arith) fit, kind_same (get_or b kind_at 0) (ltb-true (get_or b kind_at 0) kinds tests.0))
      (sym (append_snoc (take 2 b) (get_or b kind_at 0) r) ∙ ap (λ (l : List ℕ). l ++ r) (sym (take-suc b 2 0 (omega arith))))

  -- the parts of the state, and what its setting announces
  front_same : front_bytes (composer_of b) ≡ part 0 last_at b
  unfolding composer_of
  front_same =
      pid-kind ((composer_of b).counter ∷ (composer_of b).version ∷ [])
      ∙ rw (coded, part_first_byte 4 0 b (omega arith), part_first_byte 3 1 b (omega arith)) (part-joined 0 3 2 b)

  last_same : announced_bytes (composer_of b).last ≡ part last_at announced_length b
  unfolding composer_of
  last_same = announced_same (part last_at announced_length b) (length_part last_at announced_length b (omega arith)) (fit_part last_at announced_length b fit)

  open_same : mark_byte (composer_of b).is_open ∷ [] ≡ part open_at 1 b
  unfolding composer_of
  open_same = rw (mark_same (get_or b open_at 0) (ltb-true (get_or b open_at 0) 2 open_test)) (part_first_byte open_at 0 b (omega arith))

  setting_part_same : setting_bytes (composer_of b).setting ≡ part setting_at setting_length b
  unfolding composer_of
  setting_part_same = setting_same (part setting_at setting_length b) (length_part setting_at setting_length b (omega arith)) (fit_part setting_at setting_length b fit)

  announced-said : announced_bytes (announced (composer_of b).setting) ≡ part said_at announced_length b
  unfolding composer_of
  announced-said =
      announced_part_same (part setting_at setting_length b) (length_part setting_at setting_length b (omega arith)) (fit_part setting_at setting_length b fit) ∙ part_inside announced_at announced_length setting_at setting_length b (omega arith)

  -- four of them side by side, before others
  joined : {f a o s : List ℕ} (m : List ℕ) → f ≡ part 0 last_at b → a ≡ part last_at announced_length b → o ≡ part open_at 1 b → s ≡ part setting_at setting_length b
      → f ++ (a ++ (o ++ (s ++ m))) ≡ take filled_at b ++ m
  joined m pf pa po ps =
      rw (pf, pa, po, ps) (part-joined-before 0 last_at announced_length b _ ∙ part-joined-before 0 open_at 1 b _ ∙ part-joined-before 0 setting_at setting_length b m)

  -- with other marks: all before the marks stays
  pub marked-bytes : (ms : List Bool) → composer_bytes (marked (composer_of b) ms) ≡ take filled_at b ++ map mark_byte ms
  unfolding composer_bytes marked
  marked-bytes ms = joined (map mark_byte ms) front_same last_same open_same setting_part_same

  -- with a frame begun: behind what was announced an open mark, the setting's bytes and no filled slot
  pub opened-bytes : (s : List ℕ) → length s ≡ setting_length → Fit 8 s
      → composer_bytes (opened (composer_of b) (setting_of s)) ≡ take open_at b ++ (1 ∷ (s ++ replicate last_slot 0))
  unfolding composer_bytes opened mark_byte
  opened-bytes s l f =
      rw (front_same, last_same, setting_same s l f) (part-joined-before 0 last_at announced_length b (1 ∷ (s ++ replicate last_slot 0)))

  -- with a frame closed: behind PID and kind the counter, the version, what the setting announced, and zeros
  pub closed-bytes : (counter version : ℕ)
      → composer_bytes (closed_with (composer_of b) counter version) ≡ take counter_at b ++ (counter ∷ version ∷ (part said_at announced_length b ++ replicate open_length 0))
  unfolding composer_bytes closed_with mark_byte
  closed-bytes counter version =
      rw (pid-kind (counter ∷ version ∷ []), announced-said, blank-bytes)
      (append_assoc (take counter_at b) (counter ∷ version ∷ []) (part said_at announced_length b ++ replicate open_length 0))

-- before the first frame: PID, kind, the counter and the version before the first, and zeros
pub fresh-bytes : (kind : Kind) (pid : ℕ) → composer_bytes (fresh kind pid) ≡ word_bytes (pid ∷ []) ++ (kind_number kind ∷ 15 ∷ 7 ∷ replicate (composer_length - last_at) 0)
unfolding composer_bytes fresh mark_byte announced blank announced_bytes setting_bytes word_bytes
fresh-bytes kind pid = refl

-- a counter that a header has tells that the bytes are a state's, and is the one that stands there
module _ (b : List ℕ) (low : (composer_of b).counter < 16) where
  pub coded_by_counter : is_coded b ≡ true
  unfolding composer_of
  coded_by_counter = told (is_coded b) low
    where
      told : (t : Bool) → cond t (get_or b counter_at 0) no_counter < 16 → t ≡ true
      told true h = refl
      told false h = absurd (omega arith)

  pub counter_there : (composer_of b).counter ≡ get_or b counter_at 0
  unfolding composer_of
  counter_there = rw coded_by_counter refl
