-- The streams of which the bit is one are as many as the ones of the field. Assumes nothing.
use Prim.Native.Nat.{ℕ, zero, suc, ◌+◌, ◌-◌, ◌/◌, ◌%◌, ◌^◌, ◌<◌}
use mathlib.Core.Path.{◌≡◌, refl, sym, ap, ap₂, ◌∙◌}
use mathlib.Core.Bool.{Bool, cond}
use native.Mathlib.Omega.{arith}
use native.Mathlib.Nat.{mod-lt, mod-one, div-one}
use native.Mathlib.Numerals.{add-one}
use lib.Count.{ones, ones_step}
use lib.Dec.{eqb, lit<}
use lib.Pow.{shr-shr, field, mod-mod-pow}
use Rattle.counters.specs.Counters.{first_stream, last_stream, available, how_many, count_available}
use Rattle.counters.proofs.Within.{between}

-- a bit counts for what it is
bit : (b : ℕ) → b < 2 → cond (eqb b 1) 1 0 ≡ b
bit zero h = refl
bit (suc zero) h = refl
bit (suc (suc b)) h = absurd (omega arith)

-- the lowest bit of n + 1, and the n above it
ones_more : (x n : ℕ) → ones (x % 2 ^ (n + 1)) ≡ x % 2 + ones (x / 2 % 2 ^ n)
ones_more x n = ones_step (x % 2 ^ (n + 1)) ∙ ap₂ (λ (b y : ℕ). b + ones y) (mod-mod-pow x n 1) (field x n 1)

module _ (availability : ℕ) where
  -- the stream above the k lowest bits has the bit above them
  its_bit : (n k : ℕ) → suc n + k ≡ last_stream → available availability (suc n) ≡ eqb (availability / 2 ^ k % 2) 1
  unfolding available
  its_bit n k e =
      let below : last_stream - suc n ≡ k = omega arith in
      rw (between first_stream last_stream (suc n) (omega arith) (omega arith), below)

  -- the first n streams have the n bits above the k lowest
  counted : (n k : ℕ) → n + k ≡ last_stream → how_many n (available availability) ≡ ones (availability / 2 ^ k % 2 ^ n)
  unfolding how_many ones
  counted zero k e = rw mod-one
  counted (suc n) k e =
      ap₂ ◌+◌
      (ap (λ (b : Bool). cond b 1 0) (its_bit n k e) ∙ bit _ (mod-lt _ (lit< tt)))
      (counted n (k + 1) (omega arith) ∙ ap (λ (x : ℕ). ones (x % 2 ^ n)) (sym (shr-shr availability k 1)))
      ∙ sym (ones_more (availability / 2 ^ k) n)
      ∙ ap (λ (m : ℕ). ones (availability / 2 ^ k % 2 ^ m)) (add-one n)

  pub counted_all : ones (availability % 2 ^ last_stream) ≡ count_available availability
  unfolding count_available
  counted_all = sym (counted last_stream 0 refl ∙ ap (λ (x : ℕ). ones (x % 2 ^ last_stream)) (div-one availability))
