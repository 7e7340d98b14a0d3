-- Halves joined to one number, and what is done to all of them at once. Assumes nothing.
use Prim.Native.Nat.{ℕ, zero, suc, ◌+◌, ◌-◌, ◌*◌, ◌/◌, ◌%◌, ◌^◌, ◌≤◌, ◌<◌}
use mathlib.Core.Path.{◌≡◌, refl, sym, ap, ap₂, subst, ◌∙◌}
use mathlib.Core.Bool.{Bool, true, false, cond, not}
use mathlib.Core.List.{List, [], ◌∷◌, ◌++◌, append-nil}
use native.Mathlib.Nat.{add_comm, add-mul, suc-mul, zero-mul, mul_comm, le_of_eq, mod-eq_of_lt}
use native.Mathlib.Numerals.{add-one}
use native.Mathlib.Omega.{arith}
use borrow.Author.Tests.{eqb-true, not-false}
use lib.Arith.{digits_lt}
use lib.Bits.{bit_and, bit_or, bit_xor, and_block, or_block, xor_block, and_le_r, and_lt, or_lt, xor_lt}
use lib.Dec.{eqb, lit<}
use lib.ListN.{length, get_or, drop, replicate, length-drop, drop_of_length-le}
use lib.Pow.{pow-add}
use lib.Seq.{take_all, drop-cons}
use Rattle.slices.specs.Slices.{any_below}
use Rattle.slices.proofs.Any.{any_each}
use Rattle.bits.specs.Fields.{Fit, none, more, bits_of, number, run, cut}
use Rattle.bits.proofs.Laws.{length-bits_of, number-bits_of, bits_of_split, bits_of_mod, bits_of_join, bits_bits_of, length_cut, fit_cut, cut-run, run-cut}
use Rattle.receiver_hand_out.specs.Halves.{halves_of, marked}

-- the number that values of w bits make, the first of them the highest
unfoldable pub joined : ℕ → List ℕ → ℕ
joined w [] = 0
joined w (v ∷ vs) = v * 2 ^ (length vs * w) + joined w vs

-- one value more
pub wider : (w k : ℕ) → 2 ^ (suc k * w) ≡ 2 ^ w * 2 ^ (k * w)
wider w k = ap (λ (n : ℕ). 2 ^ n) (suc-mul k w) ∙ pow-add 2 (k * w) w ∙ mul_comm (2 ^ (k * w)) (2 ^ w)

pub joined_lt : {w : ℕ} {vs : List ℕ} → Fit w vs → joined w vs < 2 ^ (length vs * w)
unfolding joined
joined_lt none = rw zero-mul (lit< tt)
joined_lt {w} (more {vs = vs} h t) = rw (wider w (length vs)) (digits_lt h (joined_lt t))

-- its bits are theirs
bits_joined : {w : ℕ} {vs : List ℕ} → Fit w vs → bits_of (length vs * w) (joined w vs) ≡ run w vs
unfolding joined bits_of run
bits_joined none = rw zero-mul refl
bits_joined {w} (more {v = v} {vs = vs} l t) =
    ap (λ (n : ℕ). bits_of n (v * 2 ^ (length vs * w) + joined w vs)) (suc-mul (length vs) w ∙ add_comm (length vs * w) w)
    ∙ sym (bits_of_join w (length vs * w) v (joined_lt t))
    ∙ ap (λ (bs : List ℕ). bits_of w v ++ bs) (bits_joined t)

-- the values from one on are it and those behind it
pub joined-from : (w : ℕ) (vs : List ℕ) {n : ℕ} → length vs ≡ n → (i : ℕ) → i < n
    → joined w (drop i vs) ≡ get_or vs i 0 * 2 ^ ((n - (i + 1)) * w) + joined w (drop (i + 1) vs)
unfolding joined
joined-from w vs {n} l i h =
    ap (joined w) (drop-cons vs i 0 (omega arith) ∙ ap (λ (k : ℕ). get_or vs i 0 ∷ drop k vs) (sym (add-one i)))
    ∙ ap (λ (k : ℕ). get_or vs i 0 * 2 ^ (k * w) + joined w (drop (i + 1) vs)) (length-drop (i + 1) vs ∙ ap (λ (k : ℕ). k - (i + 1)) l)

pub joined_none : (w : ℕ) (vs : List ℕ) (i : ℕ) → length vs ≤ i → joined w (drop i vs) ≡ 0
unfolding joined
joined_none w vs i h = ap (joined w) (drop_of_length-le vs h)

pub length-halves : (w : ℕ) → length (halves_of w) ≡ 16
unfolding halves_of
length-halves w = length_cut 4 16 (bits_of 64 w)

pub halves_fit : (w : ℕ) → Fit 4 (halves_of w)
unfolding halves_of
halves_fit w = fit_cut 4 16 (bits_of 64 w) (bits_bits_of 64 w) (le_of_eq (sym (length-bits_of 64 w)))

-- sixteen halves, joined and taken apart again
module _ {hs : List ℕ} (f : Fit 4 hs) (l : length hs ≡ 16) where
  bits_of-joined : bits_of 64 (joined 4 hs) ≡ run 4 hs
  bits_of-joined = ap (λ (n : ℕ). bits_of (n * 4) (joined 4 hs)) (sym l) ∙ bits_joined f

  pub halves-joined : halves_of (joined 4 hs) ≡ hs
  unfolding halves_of
  halves-joined = ap₂ (cut 4) (sym l) (bits_of-joined ∙ sym (append-nil (run 4 hs))) ∙ cut-run f []

  joined_below : joined 4 hs < 2 ^ 64
  joined_below = subst (λ (n : ℕ). joined 4 hs < 2 ^ (n * 4)) l (joined_lt f)

-- a number, taken apart and joined again
halves_run : (w : ℕ) → run 4 (halves_of w) ≡ bits_of 64 w
unfolding halves_of
halves_run w =
    run-cut 4 16 (bits_of 64 w) (bits_bits_of 64 w) (le_of_eq (sym (length-bits_of 64 w)))
    ∙ take_all 64 (bits_of 64 w) (le_of_eq (length-bits_of 64 w))

pub joined-halves : (w : ℕ) → w < 2 ^ 64 → joined 4 (halves_of w) ≡ w
joined-halves w h =
    let f = halves_fit w in
    let l = length-halves w in
    sym (mod-eq_of_lt (joined_below f l))
    ∙ sym (number-bits_of 64 (joined 4 (halves_of w)))
    ∙ ap number (bits_of-joined f l ∙ halves_run w)
    ∙ number-bits_of 64 w
    ∙ mod-eq_of_lt h

-- ---- the halves that are r, all at once

-- k halves d
unfoldable pub rep : ℕ → ℕ → ℕ
rep d zero = 0
rep d (suc k) = d * 2 ^ (k * 4) + rep d k

rep_lt : {d : ℕ} → d < 16 → (k : ℕ) → rep d k < 2 ^ (k * 4)
unfolding rep
rep_lt h zero = lit< tt
rep_lt h (suc k) = rw (wider 4 k) (digits_lt h (rep_lt h k))

-- no carry leaves a half
twice_sevens : (k : ℕ) → rep 7 k + rep 7 k < 2 ^ (k * 4)
unfolding rep
twice_sevens zero = lit< tt
twice_sevens (suc k) =
    let w = wider 4 k in
    let h = twice_sevens k in
    omega arith

-- 8 where a half of x is 0, and 0 where it is not
abbrev pub where_zero : ℕ → ℕ → ℕ → ℕ
where_zero x sevens eights = bit_xor (bit_and (bit_or (bit_and x sevens + sevens) x) eights) eights

-- a half and those behind it
module _ (j x l u v : ℕ) (hl : l < 2 ^ j) (hu : u + u < 2 ^ j) (hv : v < 2 ^ j) where
  zero_from : where_zero (x * 2 ^ j + l) (7 * 2 ^ j + u) (8 * 2 ^ j + v) ≡ where_zero x 7 8 * 2 ^ j + where_zero l u v
  zero_from =
      let small = and_le_r l u in
      let e₁ = and_block j x 7 l u hl (omega arith) in
      let apart = add-mul (bit_and x 7) 7 (2 ^ j) in
      let e₂ : (bit_and x 7 * 2 ^ j + bit_and l u) + (7 * 2 ^ j + u) ≡ (bit_and x 7 + 7) * 2 ^ j + (bit_and l u + u) = omega arith in
      let in-half : bit_and l u + u < 2 ^ j = omega arith in
      let e₃ = or_block j (bit_and x 7 + 7) x (bit_and l u + u) l in-half hl in
      let less = or_lt j (bit_and l u + u) l in-half hl in
      let e₄ = and_block j (bit_or (bit_and x 7 + 7) x) 8 (bit_or (bit_and l u + u) l) v less hv in
      let e₅ = xor_block j (bit_and (bit_or (bit_and x 7 + 7) x) 8) 8 (bit_and (bit_or (bit_and l u + u) l) v) v (and_lt j (bit_or (bit_and l u + u) l) v less hv) hv in
      ap (λ (n : ℕ). bit_xor (bit_and (bit_or n (x * 2 ^ j + l)) (8 * 2 ^ j + v)) (8 * 2 ^ j + v)) (ap (λ (n : ℕ). n + (7 * 2 ^ j + u)) e₁ ∙ e₂)
      ∙ ap (λ (n : ℕ). bit_xor (bit_and n (8 * 2 ^ j + v)) (8 * 2 ^ j + v)) e₃
      ∙ ap (λ (n : ℕ). bit_xor n (8 * 2 ^ j + v)) e₄
      ∙ e₅

-- one half
one_half : (h r : ℕ) → h < 16 → r < 16 → where_zero (bit_xor h r) 7 8 ≡ cond (eqb h r) 8 0
unfolding any_below
one_half h r hh hr = eqb-true _ _ (not-false _ (any_each (other h) 16 (any_each (λ k. any_below 16 (other k)) 16 none_other h hh) r hr))
  where
    other : ℕ → ℕ → Bool
    other h r = not (eqb (where_zero (bit_xor h r) 7 8) (cond (eqb h r) 8 0))

    none_other : any_below 16 (λ k. any_below 16 (other k)) ≡ false
    none_other = refl

pub length_marked : (r : ℕ) (ns : List ℕ) → length (marked r ns) ≡ length ns
unfolding marked
length_marked r [] = refl
length_marked r (n ∷ ns) = ap suc (length_marked r ns)

pub marks_are : {r : ℕ} → r < 16 → {hs : List ℕ} → Fit 4 hs
    → where_zero (bit_xor (joined 4 hs) (rep r (length hs))) (rep 7 (length hs)) (rep 8 (length hs)) ≡ joined 4 (marked r hs)
unfolding joined rep marked
marks_are hr none = refl
marks_are {r} hr (more {v = h} {vs = hs} hh t) =
    let k = length hs in
    ap (λ (n : ℕ). where_zero n (rep 7 (suc k)) (rep 8 (suc k))) (xor_block (k * 4) h r (joined 4 hs) (rep r k) (joined_lt t) (rep_lt hr k))
    ∙ zero_from (k * 4) (bit_xor h r) (bit_xor (joined 4 hs) (rep r k)) (rep 7 k) (rep 8 k)
    (xor_lt (k * 4) (joined 4 hs) (rep r k) (joined_lt t) (rep_lt hr k)) (twice_sevens k) (rep_lt (lit< tt) k)
    ∙ ap₂ (λ (x y : ℕ). x * 2 ^ (k * 4) + y) (one_half h r hh hr) (marks_are hr t)
    ∙ ap (λ (n : ℕ). cond (eqb h r) 8 0 * 2 ^ (n * 4) + joined 4 (marked r hs)) (sym (length_marked r hs))

pub marked_fit : (r : ℕ) (ns : List ℕ) → Fit 4 (marked r ns)
unfolding marked
marked_fit r [] = none
marked_fit r (n ∷ ns) = more (small (eqb n r)) (marked_fit r ns)
  where
    small : (t : Bool) → cond t 8 0 < 16
    small true = lit< tt
    small false = lit< tt

pub halves_of-marks : (w r : ℕ) → w < 2 ^ 64 → r < 16 → halves_of (where_zero (bit_xor w (r * rep 1 16)) (rep 7 16) (rep 8 16)) ≡ marked r (halves_of w)
unfolding rep
halves_of-marks w r hw hr =
    let hs = halves_of w in
    let all : r * rep 1 16 ≡ rep r 16 = omega arith in
    ap halves_of
    (ap₂ (λ (x y : ℕ). where_zero (bit_xor x y) (rep 7 16) (rep 8 16)) (sym (joined-halves w hw)) all
    ∙ ap (λ (k : ℕ). where_zero (bit_xor (joined 4 hs) (rep r k)) (rep 7 k) (rep 8 k)) (sym (length-halves w))
    ∙ marks_are hr (halves_fit w))
    ∙ halves-joined (marked_fit r hs) (length_marked r hs ∙ length-halves w)

-- ---- the lowest four halves

pub low_halves : (w : ℕ) → drop 12 (halves_of w) ≡ cut 4 4 (bits_of 16 w)
unfolding halves_of cut bits_of
low_halves w = refl

pub only_low : (w : ℕ) → halves_of (w % 65536) ≡ replicate 12 0 ++ drop 12 (halves_of w)
unfolding halves_of cut bits_of number
only_low w =
    let none : w % 65536 / 65536 ≡ 0 = omega arith in
    ap (cut 4 16) (bits_of_split 48 16 (w % 65536) ∙ ap₂ (λ (x y : List ℕ). x ++ y) (ap (bits_of 48) none) (bits_of_mod 16 0 w))
