-- The bytes of a receiver that moved on, by the bytes that it had. Assumes nothing.
use Prim.Native.Nat.{ℕ, ◌+◌, ◌*◌, ◌/◌, ◌%◌, ◌^◌, ◌≤◌}
use mathlib.Core.Path.{◌≡◌, refl, sym, ap, ap₂, ◌∙◌}
use mathlib.Core.Bool.{true, false}
use mathlib.Core.List.{List, [], ◌∷◌, ◌++◌}
use native.Mathlib.Omega.{arith}
use borrow.Author.Tests.{ltb-true}
use lib.ListN.{length, get_or, set, replicate, take, drop, length-drop, take-append-drop}
use lib.Seq.{length-take-le, take_all, drop-drop}
use Rattle.bits.specs.Fields.{Fit, more, bits_of, number, run, cut}
use Rattle.bits.proofs.Laws.{fit_take, fit_drop}
use Rattle.slices.specs.Slices.{over, some_at_least}
use Rattle.setting.proofs.Fields.{fit_some}
use Rattle.setting_bytes.specs.Words.{word_bytes, word_at}
use Rattle.setting_bytes.specs.Kinds.{kinds, is_kind, kind_of, kind_number}
use Rattle.setting_bytes.specs.Settings.{part}
use Rattle.setting_bytes.proofs.KindsBack.{kind_same}
use Rattle.counters.specs.Counters.{last_slot}
use Rattle.receiver.specs.Packed.{packed_length, packed, unpacked}
use Rattle.receiver.proofs.Packing.{packed-unpacked}
use Rattle.receiver.specs.declared.Stage.{Stage}
use Rattle.receiver.specs.Receiving.{moved, renumbered}
use Rattle.receiver.specs.Bytes.{kind_at, stage_at, counter_at, stored_at, numbers_at, before_at, receiver_length, stage_bytes, receiver_bytes, receiver_of}

pub stage-length : (stage : Stage) → length (stage_bytes stage) ≡ 3
unfolding stage_bytes
stage-length Stage.Waiting = refl
stage-length (Stage.Open from k) = refl
stage-length (Stage.Ready from) = refl

-- no number yet
pub zeros-packed : packed (replicate last_slot 0) ≡ replicate packed_length 0
unfolding packed run bits_of cut number
zeros-packed = refl

-- PID and kind as they stand are what they say
front_same : (b : List ℕ) → stage_at ≤ length b → Fit 8 b → is_kind (get_or b kind_at 0) ≡ true
    → word_bytes (word_at 0 b ∷ []) ++ (kind_number (kind_of (get_or b kind_at 0)) ∷ []) ≡ take stage_at b
unfolding word_bytes
front_same [] h f k = absurd (omega arith)
front_same (x ∷ []) h f k = absurd (omega arith)
front_same (x ∷ y ∷ []) h f k = absurd (omega arith)
front_same (x ∷ y ∷ z ∷ b) h (more f (more g t)) k =
    let high : (x * 256 + y) / 256 ≡ x = omega arith in
    let low : (x * 256 + y) % 256 ≡ y = omega arith in
    rw (high, low, kind_same z (ltb-true z kinds k)) refl

module _ (b : List ℕ) (l : length b ≡ receiver_length) (w : some_at_least (2 ^ 8) b ≡ false) where
  -- numbers taken out and packed again
  packed_again : (at : ℕ) → at ≤ before_at → packed (unpacked (part at packed_length b)) ≡ part at packed_length b
  packed_again at h =
      packed-unpacked (part at packed_length b)
      (length-take-le packed_length (drop at b) (rw length-drop (omega (arith, l, h))), fit_take packed_length (fit_drop at (fit_some 8 b w)))

  last-part : part before_at packed_length b ≡ drop before_at b
  last-part = take_all packed_length (drop before_at b) (rw length-drop (omega (arith, l)))

  both_parts : packed (unpacked (part numbers_at packed_length b)) ++ packed (unpacked (part before_at packed_length b)) ≡ drop numbers_at b
  both_parts =
      ap₂ (λ (x y : List ℕ). x ++ y) (packed_again numbers_at (omega arith)) (packed_again before_at (omega arith) ∙ last-part ∙ sym (drop-drop packed_length numbers_at b))
      ∙ take-append-drop packed_length (drop numbers_at b)

  module _ (k : is_kind (get_or b kind_at 0) ≡ true) (stage : Stage) where
    front : word_bytes (word_at 0 b ∷ []) ++ (kind_number (kind_of (get_or b kind_at 0)) ∷ []) ≡ take stage_at b
    front = front_same b (omega (arith, l)) (fit_some 8 b w) k

    pub moved-bytes : take stage_at b ++ (stage_bytes stage ++ drop numbers_at b) ≡ receiver_bytes (moved (receiver_of b) stage)
    unfolding receiver_bytes receiver_of moved
    moved-bytes = sym (ap₂ (λ (x y : List ℕ). x ++ (stage_bytes stage ++ y)) front both_parts)

    pub renumbered-bytes : (said : List ℕ) {opened : List ℕ} → packed said ≡ opened
        → take stage_at b ++ (stage_bytes stage ++ (opened ++ part numbers_at packed_length b)) ≡ receiver_bytes (renumbered (receiver_of b) stage said)
    unfolding receiver_bytes receiver_of renumbered
    renumbered-bytes said e =
        sym (ap₂ (λ (x y : List ℕ). x ++ (stage_bytes stage ++ y)) front (ap₂ (λ (x y : List ℕ). x ++ y) e (packed_again numbers_at (omega arith))))

-- a stage written over the one that was there
pub over-stage : (b : List ℕ) (stage : Stage) → over stage_at (stage_bytes stage) b ≡ take stage_at b ++ (stage_bytes stage ++ drop numbers_at b)
unfolding over
over-stage b stage = ap (λ (n : ℕ). take stage_at b ++ (stage_bytes stage ++ drop (stage_at + n) b)) (stage-length stage)

-- the front of bytes that a part behind the stage was written into
pub front_kept : (b ys : List ℕ) → stage_at ≤ length b → take stage_at (take numbers_at b ++ ys) ≡ take stage_at b
front_kept [] ys h = absurd (omega arith)
front_kept (x ∷ []) ys h = absurd (omega arith)
front_kept (x ∷ y ∷ []) ys h = absurd (omega arith)
front_kept (x ∷ y ∷ z ∷ b) ys h = refl

-- one packet more: the stage's number and that of the stored packets were written
pub counted : (b : List ℕ) (n : ℕ) → numbers_at ≤ length b → set (set b stage_at 1) stored_at n ≡ take stage_at b ++ (1 ∷ get_or b counter_at 0 ∷ n ∷ drop numbers_at b)
counted [] n h = absurd (omega arith)
counted (x₀ ∷ []) n h = absurd (omega arith)
counted (x₀ ∷ x₁ ∷ []) n h = absurd (omega arith)
counted (x₀ ∷ x₁ ∷ x₂ ∷ []) n h = absurd (omega arith)
counted (x₀ ∷ x₁ ∷ x₂ ∷ x₃ ∷ []) n h = absurd (omega arith)
counted (x₀ ∷ x₁ ∷ x₂ ∷ x₃ ∷ x₄ ∷ []) n h = absurd (omega arith)
counted (x₀ ∷ x₁ ∷ x₂ ∷ x₃ ∷ x₄ ∷ x₅ ∷ b) n h = refl

-- nothing but zeros where the stage stands
pub unstaged : (b : List ℕ) → numbers_at ≤ length b → get_or b stage_at 0 ≡ 0 → get_or b counter_at 0 ≡ 0 → get_or b stored_at 0 ≡ 0 → b ≡ take stage_at b ++ (0 ∷ 0 ∷ 0 ∷ drop numbers_at b)
unstaged [] h e f g = absurd (omega arith)
unstaged (x₀ ∷ []) h e f g = absurd (omega arith)
unstaged (x₀ ∷ x₁ ∷ []) h e f g = absurd (omega arith)
unstaged (x₀ ∷ x₁ ∷ x₂ ∷ []) h e f g = absurd (omega arith)
unstaged (x₀ ∷ x₁ ∷ x₂ ∷ x₃ ∷ []) h e f g = absurd (omega arith)
unstaged (x₀ ∷ x₁ ∷ x₂ ∷ x₃ ∷ x₄ ∷ []) h e f g = absurd (omega arith)
unstaged (x₀ ∷ x₁ ∷ x₂ ∷ x₃ ∷ x₄ ∷ x₅ ∷ b) h e f g = rw (e, f, g) refl
