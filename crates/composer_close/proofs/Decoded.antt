-- What an open frame's header says, put together from the parts of the state's bytes. Assumes nothing.
use Prim.Native.Nat.{ℕ, ◌+◌, ◌-◌, ◌%◌, ◌^◌}
use mathlib.Core.Path.{◌≡◌, refl, sym, ap, ◌∙◌}
use mathlib.Core.Bool.{true, false}
use mathlib.Core.List.{List, ◌∷◌, ◌++◌}
use native.Mathlib.Omega.{arith}
use borrow.Author.Tests.{eq-eqb}
use lib.ListN.{length, get_or, take, drop, length-append}
use lib.Seq.{take-append-add, take_at, drop_at, drop-drop, get_or-drop}
use Rattle.slices.specs.Slices.{some_at_least, unlike}
use Rattle.slices.proofs.Differing.{by_elements}
use Rattle.slices.proofs.Front.{drop-take}
use Rattle.counters.specs.Counters.{last_slot}
use Rattle.setting.specs.declared.Announced.{Announced}
use Rattle.setting.specs.Announcing.{announced, differ}
use Rattle.setting.specs.Setting.{private_bytes, auxiliary_bytes}
use Rattle.setting.proofs.Fields.{fit_some}
use Rattle.setting_bytes.specs.Settings.{part, announced_at, announced_length, announced_of}
use Rattle.setting_bytes.specs.Settings.{numbers_at, private_at, group_at, carriers_at, sequence_at, frames_at, position_at, setting_length, setting_from, setting_of}
use Rattle.setting_bytes.proofs.Parts.{length_part}
use Rattle.setting_bytes.proofs.Same.{part_inside, fit_part, announced-part}
use Rattle.setting_bytes.proofs.Differing.{bytes-differ}
use Rattle.composer.specs.Composing.{next_version, saying}
use Rattle.composer.specs.States.{version_at, last_at, setting_at, said_at, composer_length, composer_of}

-- ---- the version

module _ (b : List ℕ) (long : length b ≡ composer_length) (w : some_at_least (2 ^ 8) b ≡ false) where
  abbrev said : List ℕ
  said = part said_at announced_length b

  abbrev last : List ℕ
  last = part last_at announced_length b

  setting_said : announced (composer_of b).setting ≡ announced_of said
  unfolding composer_of
  setting_said =
      announced-part (part setting_at setting_length b) (length_part setting_at setting_length b (omega (arith, long)))
      ∙ ap announced_of (part_inside announced_at announced_length setting_at setting_length b (omega arith))

  -- the open frame's setting announces something else where the bytes differ
  else_said : unlike said last ≡ differ (announced (composer_of b).setting) (composer_of b).last
  unfolding composer_of
  else_said =
      let said-long = length_part said_at announced_length b (omega (arith, long)) in
      let last-long = length_part last_at announced_length b (omega (arith, long)) in
      let bytes = fit_some 8 b w in
      by_elements said last (said-long ∙ sym last-long)
      ∙ sym (bytes-differ said last said-long last-long (fit_part said_at announced_length b bytes) (fit_part last_at announced_length b bytes))
      ∙ ap (λ (a : Announced). differ a (announced_of last)) (sym setting_said)

  pub version_raised : unlike said last ≡ true → (get_or b version_at 0 + 1) % 8 ≡ next_version (composer_of b)
  unfolding next_version composer_of
  version_raised e = rw (sym else_said ∙ e) refl

  pub version_kept : unlike said last ≡ false → get_or b version_at 0 ≡ next_version (composer_of b)
  unfolding next_version composer_of
  version_kept e = rw (sym else_said ∙ e) refl

-- ---- the whole setting

-- two settings that differ in counter, version and numbers alone
module _ (s s' : List ℕ) (long : length s ≡ setting_length) (long' : length s' ≡ setting_length) (behind : drop private_at s' ≡ drop private_at s) where
  part-behind : (k n : ℕ) → part (private_at + k) n s' ≡ part (private_at + k) n s
  part-behind k n = ap (take n) (sym (drop-drop k private_at s') ∙ ap (drop k) behind ∙ drop-drop k private_at s)

  byte_behind : (k : ℕ) → get_or s' (private_at + k) 0 ≡ get_or s (private_at + k) 0
  byte_behind k = sym (get_or-drop private_at s' k 0) ∙ ap (λ (l : List ℕ). get_or l k 0) behind ∙ get_or-drop private_at s k 0

  same_fields : (counter version : ℕ) (numbers : List ℕ) → get_or s' 0 0 ≡ counter → get_or s' 1 0 ≡ version
      → part announced_at announced_length s' ≡ part announced_at announced_length s → part numbers_at last_slot s' ≡ numbers
      → setting_of s' ≡ saying counter version numbers (setting_of s)
  unfolding setting_of saying
  same_fields counter version numbers pc pv pa pn =
      rw (
        eq-eqb (length s') setting_length long',
        eq-eqb (length s) setting_length long,
        pc,
        pv,
        pa,
        pn,
        part-behind 0 private_bytes,
        part-behind private_bytes auxiliary_bytes,
        byte_behind (group_at - private_at),
        byte_behind (carriers_at - private_at),
        byte_behind (sequence_at - private_at),
        byte_behind (frames_at - private_at),
        byte_behind (position_at - private_at),
      ) refl

-- a setting with marks behind it, and what it is with another counter, version and numbers
module _ (t numbers : List ℕ) (counter version : ℕ) (long : length t ≡ setting_length + last_slot) (slots : length numbers ≡ last_slot) where
  abbrev a : List ℕ
  a = part announced_at announced_length t

  abbrev rest : List ℕ
  rest = take (setting_from private_at) (drop private_at t)

  length-a : length a ≡ announced_length
  length-a = length_part announced_at announced_length t (omega (arith, long))

  cut_setting : take setting_length (counter ∷ version ∷ (a ++ (numbers ++ drop private_at t))) ≡ counter ∷ version ∷ (a ++ (numbers ++ rest))
  cut_setting =
      let n₁ : setting_from announced_at ≡ length a + setting_from numbers_at = omega (arith, length-a) in
      let n₂ : setting_from numbers_at ≡ length numbers + setting_from private_at = omega (arith, slots) in
      ap (λ (l : List ℕ). counter ∷ version ∷ l)
      (ap (λ (n : ℕ). take n (a ++ (numbers ++ drop private_at t))) n₁ ∙ take-append-add a (numbers ++ drop private_at t) (setting_from numbers_at)
      ∙ ap (λ (l : List ℕ). a ++ l)
      (ap (λ (n : ℕ). take n (numbers ++ drop private_at t)) n₂ ∙ take-append-add numbers (drop private_at t) (setting_from private_at)))

  pub said_anew : setting_of (take setting_length (counter ∷ version ∷ (a ++ (numbers ++ drop private_at t)))) ≡ saying counter version numbers (setting_of (take setting_length t))
  said_anew =
      let s = take setting_length t in
      let s' : List ℕ = counter ∷ version ∷ (a ++ (numbers ++ rest)) in
      let whole : length s ≡ setting_length = length_part 0 setting_length t (omega (arith, long)) in
      let la = length-a in
      let lr : length rest ≡ setting_from private_at = length_part private_at (setting_from private_at) t (omega (arith, long)) in
      let whole' : length s' ≡ setting_length = rw (length-append a (numbers ++ rest), length-append numbers rest) (omega arith) in
      let behind-a : drop announced_length (a ++ (numbers ++ rest)) ≡ numbers ++ rest = drop_at a (numbers ++ rest) announced_length la in
      let last : drop private_at s' ≡ drop private_at s =
      sym (drop-drop last_slot announced_length (a ++ (numbers ++ rest))) ∙ ap (drop last_slot) behind-a ∙ drop_at numbers rest last_slot slots
      ∙ sym (drop-take private_at (setting_from private_at) t) in
      ap setting_of cut_setting
      ∙ same_fields s s' whole whole' last counter version numbers refl refl
      (take_at a (numbers ++ rest) announced_length la ∙ sym (part_inside announced_at announced_length 0 setting_length t (omega arith)))
      (ap (take last_slot) behind-a ∙ take_at numbers rest last_slot slots)
