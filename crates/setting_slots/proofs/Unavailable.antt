-- Slots that have the number of an unavailable stream, each number asked for by its bit. Assumes nothing.
use Prim.Native.Nat.{ℕ, zero, suc, ◌+◌, ◌-◌, ◌/◌, ◌%◌, ◌^◌, ◌≤◌, ◌<◌}
use mathlib.Core.Path.{◌≡◌, refl, sym, ap, ◌∙◌}
use mathlib.Core.Bool.{Bool, true, false, not, true≢false}
use mathlib.Core.List.{List}
use native.Mathlib.Omega.{arith}
use native.Mathlib.Nat.{mod-lt}
use borrow.Author.Tests.{ne_eqb, leb-true, leb-false}
use lib.Dec.{leb, eqb, lit<}
use lib.ListN.{length, get_or}
use lib.Pow.{pow_pos, field, high, low, mod-mod-pow}
use Rattle.slices.specs.Slices.{any_below, some_at_least}
use Rattle.slices.proofs.Any.{any_no, any_each}
use Rattle.counters.specs.Counters.{first_stream, last_stream, available}
use Rattle.setting.specs.Rules.{unavailable, some_unavailable}
use Rattle.counters.proofs.Within.{past, between}

-- ---- a number's bit

-- the bits of the streams, and a one above them, which is that of 0
abbrev allowed : ℕ → ℕ
allowed availability = 2 ^ last_stream + availability % 2 ^ last_stream

-- a bit above the k lowest is one of the low bits
low_bit : (x m k : ℕ) → m + 1 + k ≡ last_stream → x / 2 ^ k % 2 ≡ x % 2 ^ last_stream / 2 ^ k % 2
low_bit x m k e =
    sym (mod-mod-pow (x / 2 ^ k) m 1) ∙ ap (λ (b : ℕ). b % 2) (sym (field x (m + 1) k) ∙ ap (λ (w : ℕ). x % 2 ^ w / 2 ^ k) e)

bit : (b : ℕ) → b < 2 → eqb b 0 ≡ not (eqb b 1)
bit zero h = refl
bit (suc zero) h = refl
bit (suc (suc b)) h = absurd (omega arith)

module _ (availability : ℕ) where
  lows : availability % 2 ^ last_stream < 2 ^ last_stream
  lows = mod-lt availability (pow_pos last_stream)

  in_allowed : (n : ℕ) → n ≤ last_stream → eqb (allowed availability / 2 ^ (last_stream - n) % 2) 0 ≡ unavailable availability n
  unfolding available
  in_allowed zero h = ap (λ (b : ℕ). eqb (b % 2) 0) (high 1 last_stream lows)
  in_allowed (suc m) h =
      let k = last_stream - suc m in
      let e : m + 1 + k ≡ last_stream = omega arith in
      let same : allowed availability / 2 ^ k % 2 ≡ availability / 2 ^ k % 2
      = low_bit (allowed availability) m k e ∙ ap (λ (x : ℕ). x / 2 ^ k % 2) (low 1 last_stream lows) ∙ sym (low_bit availability m k e) in
      rw (same, ne_eqb (suc m) 0 (λ z. omega arith), between first_stream last_stream (suc m) (omega arith) h) (bit (availability / 2 ^ k % 2) (mod-lt (availability / 2 ^ k) (lit< tt)))

  pub its_bit : {a : ℕ} → a ≡ allowed availability → (n : ℕ) → n ≤ last_stream → eqb (a / 2 ^ (last_stream - n) % 2) 0 ≡ unavailable availability n
  its_bit e n h = ap (λ (a : ℕ). eqb (a / 2 ^ (last_stream - n) % 2) 0) e ∙ in_allowed n h

-- ---- all slots

-- a test that holds wherever another does
any_also : (p q : ℕ → Bool) (n : ℕ) → ((i : ℕ) → p i ≡ true → q i ≡ true) → any_below n p ≡ true → any_below n q ≡ true
any_also p q n h e = whether (any_below n q) refl
  where
    fails : any_below n q ≡ false → (i : ℕ) → i < n → (b : Bool) → p i ≡ b → b ≡ false
    fails f i l false t = refl
    fails f i l true t = absurd (true≢false (sym (h i t) ∙ any_each q n f i l))

    whether : (b : Bool) → any_below n q ≡ b → b ≡ true
    whether true f = refl
    whether false f = absurd (true≢false (sym e ∙ any_no p n (λ i l. fails f i l (p i) refl)))

module _ (numbers : List ℕ) where
  -- a number above the last is no stream's
  pub beyond : (availability : ℕ) → some_at_least (last_stream + 1) numbers ≡ true → some_unavailable availability numbers ≡ true
  unfolding some_at_least some_unavailable available
  beyond availability =
      any_also (λ i. leb (last_stream + 1) (get_or numbers i 0)) (λ i. unavailable availability (get_or numbers i 0)) (length numbers)
      (λ i e. none (get_or numbers i 0) (leb-true (last_stream + 1) (get_or numbers i 0) e))
    where
      none : (n : ℕ) → last_stream + 1 ≤ n → unavailable availability n ≡ true
      none n h = rw (ne_eqb n 0 (λ z. omega arith), past first_stream last_stream n (omega arith) (omega arith))

  -- and where there is none, each is at most the last
  pub at_most_last : some_at_least (last_stream + 1) numbers ≡ false → (i : ℕ) → i < length numbers → get_or numbers i 0 ≤ last_stream
  unfolding some_at_least
  at_most_last e i l =
      let below = leb-false (last_stream + 1) (get_or numbers i 0) (any_each (λ k. leb (last_stream + 1) (get_or numbers k 0)) (length numbers) e i l) in
      omega arith
