-- Equal pairs of identifiers, looked for only where a stream before has left its mark. Assumes nothing.
use Prim.Native.Nat.{ℕ, zero, suc, ◌+◌, ◌/◌, ◌%◌, ◌^◌, ◌<◌}
use mathlib.Core.Path.{◌≡◌, refl, sym, ap, ◌∙◌}
use mathlib.Core.Bool.{Bool, true, false, ◌&&◌, true≢false, and-false}
use mathlib.Core.List.{List}
use native.Mathlib.Omega.{arith}
use native.Mathlib.Decide.{ℕ_discrete}
use native.Mathlib.Nat.{mod-lt, one-mul}
use borrow.Author.Tests.{eqb-true}
use lib.Dec.{eqb, lit<}
use lib.Bits.{bit_or, or_comm, or_shr, or_mod}
use lib.Pow.{shl-shr}
use lib.ListN.{get_or}
use Rattle.slices.specs.Slices.{any_below}
use Rattle.slices.proofs.Any.{any_none, any_more, any_no}
use Rattle.counters.specs.Counters.{available}
use Rattle.setting.specs.Rules.{same_pair}

-- how many places there are for marks, each a bit of one number
abbrev pub places : ℕ
places = 64

-- the bit at a place
abbrev pub bit : ℕ → ℕ → ℕ
bit met k = met / 2 ^ k % 2

-- a mark stays beside others, and one that is left is there
bits_kept : (a b : ℕ) → a % 2 ≡ 1 → bit_or a b % 2 ≡ 1
bits_kept a b e = or_mod a b 1 ∙ ap (λ (x : ℕ). bit_or x (b % 2)) e ∙ one_or (b % 2) (mod-lt b (lit< tt))
  where
    one_or : (x : ℕ) → x < 2 → bit_or 1 x ≡ 1
    one_or zero h = refl
    one_or (suc zero) h = refl
    one_or (suc (suc x)) h = absurd (omega arith)

still_met : (met more k : ℕ) → bit met k ≡ 1 → bit (bit_or met more) k ≡ 1
still_met met more k e = ap (λ (n : ℕ). n % 2) (or_shr met more k) ∙ bits_kept (met / 2 ^ k) (more / 2 ^ k) e

now_met : (met k : ℕ) → bit (bit_or met (2 ^ k)) k ≡ 1
now_met met k =
    let one : 2 ^ k / 2 ^ k ≡ 1 = ap (λ (n : ℕ). n / 2 ^ k) (sym (one-mul (2 ^ k))) ∙ shl-shr 1 k in
    ap (λ (n : ℕ). bit n k) (or_comm met (2 ^ k)) ∙ still_met (2 ^ k) met k (ap (λ (n : ℕ). n % 2) one)

module _ (availability : ℕ) (ts os : List ℕ) where
  -- the place of stream i + 1
  abbrev pub place : ℕ → ℕ
  place i = get_or ts i 0 % places

  -- whether a stream before stream j + 1 makes an equal pair with it
  abbrev pub pairs : ℕ → Bool
  pairs j = any_below j (λ i. same_pair availability ts os i j)

  -- each available stream before stream j + 1 has left its mark, and none makes a pair with one before it
  pub record Seen (met j : ℕ) : Type 0 where
    pub mark : (i : ℕ) → i < j → available availability (i + 1) ≡ true → bit met (place i) ≡ 1
    pub none : any_below j pairs ≡ false

  pub seen_none : (met : ℕ) → Seen met 0
  seen_none met = record { mark = λ i h a. absurd (omega arith); none = any_none pairs }

  module _ {met j : ℕ} (s : Seen met j) where
    -- no stream before has left the mark of stream j + 1
    pub no_mark : bit met (place j) ≡ 0 → pairs j ≡ false
    no_mark z = any_no (λ i. same_pair availability ts os i j) j (λ i l. differ i l (eqb (get_or ts i 0) (get_or ts j 0)) refl (available availability (i + 1)) refl)
      where
        differ : (i : ℕ) → i < j → (b : Bool) → eqb (get_or ts i 0) (get_or ts j 0) ≡ b → (a : Bool) → available availability (i + 1) ≡ a
            → b && (eqb (get_or os i 0) (get_or os j 0) && (a && available availability (j + 1))) ≡ false
        differ i l false e a h = refl
        differ i l true e false h = and-false (eqb (get_or os i 0) (get_or os j 0))
        differ i l true e true h =
            let same : get_or ts i 0 ≡ get_or ts j 0 = eqb-true (get_or ts i 0) (get_or ts j 0) e in
            let one : bit met (place j) ≡ 1 = ap (λ (t : ℕ). bit met (t % places)) (sym same) ∙ s.mark i l h in
            absurd (omega arith)

    -- stream j + 1 makes no pair, and leaves its mark
    pub seen_more : pairs j ≡ false → Seen (bit_or met (2 ^ place j)) (j + 1)
    seen_more p = record { mark = λ i h a. at i h a (ℕ_discrete i j); none = any_more pairs j s.none p }
      where
        at : (i : ℕ) → i < j + 1 → available availability (i + 1) ≡ true → Dec (i ≡ j) → bit (bit_or met (2 ^ place j)) (place i) ≡ 1
        at i h a (yes e) = ap (λ (k : ℕ). bit (bit_or met (2 ^ place j)) (place k)) e ∙ now_met met (place j)
        at i h a (no e) = still_met met (2 ^ place j) (place i) (s.mark i (omega arith) a)

    -- stream j + 1 is not available
    pub seen_absent : available availability (j + 1) ≡ false → Seen met (j + 1)
    seen_absent f = record { mark = λ i h a. at i h a (ℕ_discrete i j); none = any_more pairs j s.none apart }
      where
        at : (i : ℕ) → i < j + 1 → available availability (i + 1) ≡ true → Dec (i ≡ j) → bit met (place i) ≡ 1
        at i h a (yes e) = absurd (true≢false (sym a ∙ ap (λ (k : ℕ). available availability (k + 1)) e ∙ f))
        at i h a (no d) = s.mark i (omega arith) a

        apart : pairs j ≡ false
        apart =
            any_no (λ i. same_pair availability ts os i j) j
            (λ i l. rw (f, and-false (available availability (i + 1)), and-false (eqb (get_or os i 0) (get_or os j 0))) (and-false (eqb (get_or ts i 0) (get_or ts j 0))))
