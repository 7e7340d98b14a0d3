-- The setting of an open frame made what its header says, in the state itself. Assumes nothing.
use Prim.Native.Nat.{ℕ, ◌+◌, ◌%◌, ◌<◌}
use mathlib.Core.Path.{◌≡◌, refl, sym, ap, ap₂, ◌∙◌}
use mathlib.Core.List.{List, [], ◌∷◌, ◌++◌}
use native.Mathlib.Omega.{arith}
use borrow.Author.Tests.{eq-eqb}
use lib.ListN.{length, get_or, set, take, drop, length-append, length-drop}
use lib.Seq.{take_at, drop_at, drop-drop, take-take, take-append-le, length-take-le}
use Rattle.slices.specs.Slices.{over}
use Rattle.slices.proofs.Front.{put, drop-take}
use Rattle.counters.specs.Counters.{last_slot}
use Rattle.setting.specs.declared.Setting.{Setting}
use Rattle.setting_bytes.specs.Settings.{part, announced_at, announced_length, numbers_at, private_at, setting_length, setting_of}
use Rattle.setting_bytes.proofs.Parts.{length_part}
use Rattle.setting_bytes.proofs.Same.{part_inside}
use Rattle.composer.specs.Slots.{numbers_of}
use Rattle.composer.specs.Composing.{next_counter, next_version, saying, closing}
use Rattle.composer.specs.States.{counter_at, setting_at, filled_at, said_at, composer_length, composer_of, marks_of}
use Rattle.composer.proofs.Same.{coded_by_counter}
use Rattle.composer_close.proofs.Numbers.{length_numbers}
use Rattle.composer_close.proofs.Decoded.{said_anew}

-- how many bytes a setting and the marks behind it are
abbrev pub opened_length : ℕ
opened_length = setting_length + last_slot

-- the numbers that the header says
abbrev pub numbers_in : List ℕ → List ℕ
numbers_in t = numbers_of (part numbers_at last_slot t) (marks_of (drop setting_length t))

length_in : (t : List ℕ) → length t ≡ opened_length → length (numbers_in t) ≡ last_slot
length_in t long =
    let plan = length_part numbers_at last_slot t (omega (arith, long)) in
    let marks : length (drop setting_length t) ≡ last_slot = length-drop setting_length t ∙ omega (arith, long) in
    length_numbers (part numbers_at last_slot t) (drop setting_length t) (plan ∙ sym marks) ∙ plan

-- what stands then in the setting and the marks
abbrev pub said_of : ℕ → ℕ → List ℕ → List ℕ
said_of counter version t = counter ∷ version ∷ (part announced_at announced_length t ++ (numbers_in t ++ drop private_at t))

-- counter and version stored, then the slots numbered
pub all_said : (t : List ℕ) (counter version : ℕ) → length t ≡ opened_length
    → over numbers_at (numbers_in (set (set t 0 counter) 1 version)) (set (set t 0 counter) 1 version) ≡ said_of counter version t
unfolding over
all_said [] counter version h = absurd (omega arith)
all_said (x ∷ []) counter version h = absurd (omega arith)
all_said (x ∷ y ∷ t) counter version h =
    let n = length_in (x ∷ y ∷ t) h in
    let back : numbers_at + length (numbers_in (x ∷ y ∷ t)) ≡ private_at = omega arith in
    ap (λ (k : ℕ). counter ∷ version ∷ (take announced_length t ++ (numbers_in (x ∷ y ∷ t) ++ drop k (counter ∷ version ∷ t)))) back

-- the plan of the setting
planned : (t : List ℕ) → length t ≡ opened_length → (setting_of (take setting_length t)).relative_ts_number ≡ part numbers_at last_slot t
unfolding setting_of
planned t long =
    rw (eq-eqb (length (take setting_length t)) setting_length (length_part 0 setting_length t (omega (arith, long))))
    (part_inside numbers_at last_slot 0 setting_length t (omega arith))

-- ---- in the state b

-- what a header says of a state
closing_read : (b : List ℕ) → (composer_of b).counter < 16 → (s : Setting) (version : ℕ) (numbers : List ℕ) → s ≡ setting_of (part setting_at setting_length b)
    → version ≡ next_version (composer_of b) → numbers ≡ numbers_of s.relative_ts_number (marks_of (part filled_at last_slot b))
    → saying ((get_or b counter_at 0 + 1) % 16) version numbers s ≡ closing (composer_of b)
unfolding closing next_counter composer_of
closing_read b low s version numbers ps pv pn = rw (pv, pn, ps, coded_by_counter b low) refl

module _ (b : List ℕ) (counter version : ℕ) (long : length b ≡ composer_length) where
  abbrev t : List ℕ
  t = part setting_at opened_length b

  length-t : length t ≡ opened_length
  length-t = length_part setting_at opened_length b (omega (arith, long))

  -- the state with what is said in its place
  module _ (said : List ℕ) (e : said ≡ said_of counter version t) where
    abbrev b' : List ℕ
    b' = put setting_at opened_length b said

    before : length (take setting_at b) ≡ setting_at
    before = length-take-le setting_at b (omega (arith, long))

    from_setting : drop setting_at b' ≡ said ++ drop opened_length (drop setting_at b)
    from_setting = drop_at (take setting_at b) (said ++ drop opened_length (drop setting_at b)) setting_at before

    announced_same : part announced_at announced_length t ≡ part said_at announced_length b
    announced_same = part_inside announced_at announced_length setting_at opened_length b (omega arith)

    length-said : length said ≡ opened_length
    length-said =
        let n = length_in t length-t in
        let a = length_part announced_at announced_length t (omega (arith, length-t)) in
        ap length e
        ∙ rw (length-append (part announced_at announced_length t) (numbers_in t ++ drop private_at t), length-append (numbers_in t) (drop private_at t), length-drop private_at t) (omega (arith, length-t))

    -- the setting that the header is written from
    pub setting_said : counter ≡ (get_or b counter_at 0 + 1) % 16 → version ≡ next_version (composer_of b) → (composer_of b).counter < 16
        → setting_of (part setting_at setting_length b') ≡ closing (composer_of b)
    setting_said pc pv low =
        let s = setting_of (take setting_length t) in
        let lent : part setting_at setting_length b' ≡ take setting_length said =
        ap (take setting_length) from_setting ∙ take-append-le setting_length said (drop opened_length (drop setting_at b)) (omega (arith, length-said)) in
        let marks : drop setting_length t ≡ part filled_at last_slot b = drop-take setting_length last_slot (drop setting_at b) ∙ ap (take last_slot) (drop-drop setting_length setting_at b) in
        ap setting_of (lent ∙ ap (take setting_length) e)
        ∙ said_anew t (numbers_in t) counter version length-t (length_in t length-t)
        ∙ ap (λ (c : ℕ). saying c version (numbers_in t) s) pc
        ∙ closing_read b low s version (numbers_in t) (ap setting_of (take-take setting_length opened_length (drop setting_at b) (omega arith))) pv
        (ap₂ (λ (p f : List ℕ). numbers_of p (marks_of f)) (sym (planned t length-t)) marks)

    -- and the state once the frame has ended, with z behind it
    pub state_said : (z : List ℕ) → take counter_at b' ++ (part setting_at numbers_at b' ++ z) ≡ take counter_at b ++ (counter ∷ version ∷ (part said_at announced_length b ++ z))
    state_said z =
        let front : take counter_at b' ≡ take counter_at b =
        take-append-le counter_at (take setting_at b) _ (omega (arith, before)) ∙ take-take counter_at setting_at b (omega arith) in
        let a = length_part announced_at announced_length t (omega (arith, length-t)) in
        let kept : part setting_at numbers_at b' ≡ counter ∷ version ∷ part said_at announced_length b =
        ap (take numbers_at) (from_setting ∙ ap (λ (l : List ℕ). l ++ drop opened_length (drop setting_at b)) e)
        ∙ ap (λ (l : List ℕ). counter ∷ version ∷ l)
        (take-append-le announced_length (part announced_at announced_length t ++ (numbers_in t ++ drop private_at t)) (drop opened_length (drop setting_at b)) (omega (arith, a, length-append (part announced_at announced_length t) (numbers_in t ++ drop private_at t))) ∙ take_at (part announced_at announced_length t) (numbers_in t ++ drop private_at t) announced_length a ∙ announced_same) in
        ap₂ (λ (x y : List ℕ). x ++ (y ++ z)) front kept
