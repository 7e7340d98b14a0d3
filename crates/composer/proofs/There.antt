-- Where a state's bytes have what the calls look at. Assumes nothing.
use Prim.Native.Nat.{ℕ, ◌+◌, ◌<◌}
use mathlib.Core.Path.{◌≡◌, refl, sym, ap, ◌∙◌}
use mathlib.Core.Bool.{false, not}
use mathlib.Core.List.{List, [], ◌∷◌, ◌++◌, append-nil}
use native.Mathlib.Omega.{arith}
use borrow.Author.Tests.{eq-eqb, ne_eqb}
use lib.Dec.{eqb}
use lib.ListN.{length, get_or, take, drop, length-drop, drop_of_length-le, get_or-map}
use lib.Seq.{get_or-take, get_or-drop}
use Rattle.slices.proofs.Front.{put}
use Rattle.setting.specs.declared.Kind.{Kind}
use Rattle.setting.specs.Refusal.{Check, first_of}
use Rattle.setting.specs.Size.{slots_of}
use Rattle.setting.proofs.Refusals.{answers, passed}
use Rattle.packet.specs.Packets.{frame_length}
use Rattle.setting_bytes.specs.Words.{word_at}
use Rattle.setting_bytes.specs.Kinds.{kind_of}
use Rattle.setting_bytes.specs.Settings.{part, announced_length, announced_of, setting_length, setting_of, announced_at, numbers_at}
use Rattle.setting_bytes.proofs.Parts.{length_part}
use Rattle.setting_bytes.proofs.Same.{part_inside}
use Rattle.composer.specs.Composing.{length_check}
use Rattle.composer.specs.States.{composer_length, marks_of, composer_of, filled_at, kind_at, plan_at, said_at, setting_at, streams_at}
use Rattle.counters.specs.Counters.{last_slot}

-- a byte of a part
pub get_or-part : (k n i : ℕ) (b : List ℕ) → i < n → get_or (part k n b) i 0 ≡ get_or b (k + i) 0
get_or-part k n i b h = get_or-take n (drop k b) i 0 h ∙ get_or-drop k b i 0

-- what was lent is the list's end, and came back as ys
pub put_end : (i k : ℕ) (l ys : List ℕ) → length l ≡ i + k → put i k l ys ≡ take i l ++ ys
put_end i k l ys h =
    let none : drop k (drop i l) ≡ [] = drop_of_length-le (drop i l) {i = k} (rw length-drop (omega arith)) in
    ap (λ (r : List ℕ). take i l ++ (ys ++ r)) none ∙ ap (λ (r : List ℕ). take i l ++ r) (append-nil ys)

module _ (b : List ℕ) (long : length b ≡ composer_length) where
  setting_long : length (part setting_at setting_length b) ≡ setting_length
  setting_long = length_part setting_at setting_length b (omega arith)

  -- the open frame's plan
  pub plan_there : (composer_of b).setting.relative_ts_number ≡ part plan_at last_slot b
  unfolding composer_of setting_of
  plan_there = rw (eq-eqb (length (part setting_at setting_length b)) setting_length setting_long) (part_inside numbers_at last_slot setting_at setting_length b (omega arith))

  -- which streams it has
  pub availability_there : (composer_of b).setting.availability ≡ word_at streams_at b
  unfolding composer_of setting_of announced_of
  availability_there =
      rw (
        eq-eqb (length (part setting_at setting_length b)) setting_length setting_long,
        eq-eqb (length (part announced_at announced_length (part setting_at setting_length b))) announced_length (length_part announced_at announced_length (part setting_at setting_length b) (omega (arith, setting_long))),
        part_inside announced_at announced_length setting_at setting_length b (omega arith),
        get_or-part said_at announced_length 2 b (omega arith),
        get_or-part said_at announced_length 3 b (omega arith),
      ) refl

-- its filled slots
pub marks_there : (b : List ℕ) → (composer_of b).filled ≡ marks_of (part filled_at last_slot b)
unfolding composer_of
marks_there b = refl

-- the run's kind
pub kind_there : (b : List ℕ) → (composer_of b).kind ≡ kind_of (get_or b kind_at 0)
unfolding composer_of
kind_there b = refl

-- and how long its frames are
pub frame_there : (b : List ℕ) {kind : Kind} {lent : ℕ} → kind ≡ kind_of (get_or b kind_at 0) → lent ≡ frame_length (slots_of kind)
    → lent ≡ frame_length (slots_of (composer_of b).kind)
unfolding composer_of
frame_there b k e = e ∙ ap (λ (t : Kind). frame_length (slots_of t)) k

-- a lent frame that is not of the run's kind, and one that is
module _ (b : List ℕ) {kind : Kind} (k : kind ≡ kind_of (get_or b kind_at 0)) (lent : ℕ) {n : ℕ} (e : n ≡ frame_length (slots_of kind)) (cs : List Check) where
  pub frame_off : (lent ≡ n → ⊥) → 1 ≡ first_of (length_check (composer_of b) lent ∷ cs)
  frame_off other = sym (answers _ _ (ap not (ne_eqb _ _ (λ s. other (s ∙ sym (frame_there b k e))))))

  pub frame_fits : lent ≡ n → first_of (length_check (composer_of b) lent ∷ cs) ≡ first_of cs
  frame_fits s = passed _ _ (ap not (eq-eqb _ _ (s ∙ frame_there b k e)))

-- what bytes say as marks, one by one
pub mark_at : (bytes : List ℕ) (i : ℕ) → get_or (marks_of bytes) i false ≡ eqb (get_or bytes i 0) 1
mark_at bytes i = get_or-map (λ (n : ℕ). eqb n 1) bytes i 0
