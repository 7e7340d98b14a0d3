-- The slots that pass a test as one number: which bits it has set, and how many. Assumes nothing.
use Prim.Native.Nat.{ℕ, zero, suc, ◌+◌, ◌/◌, ◌%◌, ◌^◌, ◌≤◌, ◌<◌}
use mathlib.Core.Path.{◌≡◌, refl, sym, ap, ◌∙◌}
use mathlib.Core.Bool.{Bool, true, false, cond}
use mathlib.Core.List.{[], ◌∷◌}
use native.Mathlib.Omega.{arith}
use lib.Count.{ones}
use lib.Dec.{eqb}
use lib.ListN.{length, get_or, length-append}
use Rattle.counters.specs.Counters.{first_slot, last_slot}
use Rattle.slot_bits.specs.Bits.{as_bits, slots_as_bits}
use Rattle.slot_bits.proofs.Bits.{ones_first, ones_none, bit_at}
use Rattle.bond_places.specs.Order.{picked, frame_packets}
use Rattle.bond_group.specs.Plan.{passing}

-- one number more may be picked
one-length : (t : Bool) (s : ℕ) → length (cond t (s ∷ []) []) ≡ cond t 1 0
one-length true s = refl
one-length false s = refl

one_few : (t : Bool) → cond t 1 0 ≤ 1
one_few true = omega arith
one_few false = omega arith

module _ (test : ℕ → Bool) where
  pub length-passing : (i n : ℕ) → length (passing test i n) ≡ n
  unfolding passing
  length-passing i zero = refl
  length-passing i (suc n) = ap suc (length-passing (i + 1) n)

  pub passing-at : (i n k : ℕ) → k < n → get_or (passing test i n) k false ≡ test (i + k)
  unfolding passing
  passing-at i zero k h = absurd (omega arith)
  passing-at i (suc n) zero h = let same : i ≡ i + 0 = omega arith in ap test same
  passing-at i (suc n) (suc k) h =
      let same : i + 1 + k ≡ i + suc k = omega arith in
      passing-at (i + 1) n k (omega arith) ∙ ap test same

  picked_first : (s n : ℕ) → length (picked test s (suc n)) ≡ cond (test s) 1 0 + length (picked test (s + 1) n)
  unfolding picked
  picked_first s n = rw (length-append, one-length)

  pub picked_few : (s n : ℕ) → length (picked test s n) ≤ n
  unfolding picked
  picked_few s zero = omega arith
  picked_few s (suc n) = omega (arith, picked_first s n, picked_few (s + 1) n, one_few (test s))

  ones_passing : (i n : ℕ) → ones (as_bits (passing test i n)) ≡ length (picked test i n)
  unfolding passing picked
  ones_passing i zero = ones_none
  ones_passing i (suc n) = ones_first (test i) (passing test (i + 1) n) ∙ omega (arith, ones_passing (i + 1) n, picked_first i n)

  -- of a frame's slots, where slot 0, the header, does not pass
  module _ (header : test 0 ≡ false) where
    pub marks_ones : ones (slots_as_bits (passing test first_slot last_slot)) ≡ length (picked test 0 frame_packets)
    unfolding slots_as_bits
    marks_ones =
        let none : ◌≡◌ {A = ℕ} (cond (test 0) 1 0) 0 = rw header in
        ones_first false (passing test first_slot last_slot) ∙ omega (arith, ones_passing first_slot last_slot, picked_first 0 last_slot)

    pub marks-bit : (i : ℕ) → i < frame_packets → eqb (slots_as_bits (passing test first_slot last_slot) / 2 ^ i % 2) 1 ≡ test i
    unfolding slots_as_bits
    marks-bit i h = bit_at (false ∷ passing test first_slot last_slot) i ∙ at i h
      where
        at : (i : ℕ) → i < frame_packets → get_or (false ∷ passing test first_slot last_slot) i false ≡ test i
        at zero h = sym header
        at (suc k) h = let same : first_slot + k ≡ suc k = omega arith in passing-at first_slot last_slot k (omega arith) ∙ ap test same
