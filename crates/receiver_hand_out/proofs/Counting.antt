-- The marks of four words counted at once: a mark leaves three bits of its half free, one for each of the other words. Assumes nothing.
use Prim.Native.Nat.{ℕ, zero, suc, ◌+◌, ◌*◌, ◌/◌, ◌^◌, ◌≤◌, ◌<◌}
use mathlib.Core.Path.{◌≡◌, refl, sym, ap, ap₂, ◌∙◌}
use mathlib.Core.Bool.{Bool, true, false, cond}
use mathlib.Core.List.{List, [], ◌∷◌}
use native.Mathlib.Nat.{add-mul, mul_assoc}
use native.Mathlib.Omega.{arith}
use lib.Arith.{digits_lt}
use lib.Count.{ones, ones_cat}
use lib.Dec.{eqb, lit<}
use lib.ListN.{length, get_or, drop}
use Rattle.receiver.specs.Store.{slots_for}
use Rattle.receiver_hand_out.specs.Halves.{halves_of, marked}
use Rattle.receiver_hand_out.proofs.Joined.{joined, wider, length_marked, length-halves, joined-halves}

-- the first of marks, and n marks as 1 each: in their halves, and added up
abbrev first : List ℕ → ℕ
first ms = cond (eqb (get_or ms 0 0) 8) 1 0

unfoldable units : ℕ → List ℕ → ℕ
units zero ms = 0
units (suc n) ms = first ms * 2 ^ (n * 4) + units n (drop 1 ms)

unfoldable count : ℕ → List ℕ → ℕ
count zero ms = 0
count (suc n) ms = first ms + count n (drop 1 ms)

first_le : (ms : List ℕ) → first ms ≤ 1
first_le ms = small (eqb (get_or ms 0 0) 8)
  where
    small : (t : Bool) → cond t 1 0 ≤ 1
    small true = omega arith
    small false = omega arith

count_is : (ms : List ℕ) → count (length ms) ms ≡ slots_for 8 ms
unfolding count slots_for
count_is [] = refl
count_is (m ∷ ms) = ap (λ (k : ℕ). cond (eqb m 8) 1 0 + k) (count_is ms)

units_are : (ms : List ℕ) → joined 4 (marked 8 ms) ≡ 8 * units (length ms) ms
unfolding units joined marked
units_are [] = refl
units_are (m ∷ ms) =
    ap₂ (λ (k n : ℕ). cond (eqb m 8) 8 0 * 2 ^ (k * 4) + n) (length_marked 8 ms) (units_are ms)
    ∙ by_mark (eqb m 8) (2 ^ (length ms * 4)) (units (length ms) ms)
  where
    by_mark : (t : Bool) (p u : ℕ) → cond t 8 0 * p + 8 * u ≡ 8 * (cond t 1 0 * p + u)
    by_mark true p u = omega arith
    by_mark false p u = omega arith

-- a half of four marks
spread : (x y z w p a b c d : ℕ) → 8 * (x * p + a) + 4 * (y * p + b) + 2 * (z * p + c) + (w * p + d) ≡ (8 * x + 4 * y + 2 * z + w) * p + (8 * a + 4 * b + 2 * c + d)
spread x y z w p a b c d =
    omega (arith, add-mul (8 * x + 4 * y + 2 * z) w p, add-mul (8 * x + 4 * y) (2 * z) p, add-mul (8 * x) (4 * y) p, mul_assoc 8 x p, mul_assoc 4 y p, mul_assoc 2 z p)

bit_ones : (x : ℕ) → x ≤ 1 → ones x ≡ x
unfolding ones
bit_ones zero h = refl
bit_ones (suc zero) h = refl
bit_ones (suc (suc x)) h = absurd (omega arith)

half_ones : (x y z w : ℕ) → x ≤ 1 → y ≤ 1 → z ≤ 1 → w ≤ 1 → ones (8 * x + 4 * y + 2 * z + w) ≡ x + y + z + w
half_ones x y z w hx hy hz hw =
    let bits : 8 * x + 4 * y + 2 * z + w ≡ ((x * 2 + y) * 2 + z) * 2 + w = omega arith in
    ap ones bits
    ∙ ones_cat 1 ((x * 2 + y) * 2 + z) w (omega arith)
    ∙ ap₂ ◌+◌
    (ones_cat 1 (x * 2 + y) z (omega arith) ∙ ap₂ ◌+◌ (ones_cat 1 x y (omega arith) ∙ ap₂ ◌+◌ (bit_ones x hx) (bit_ones y hy)) (bit_ones z hz))
    (bit_ones w hw)

abbrev sum : ℕ → List ℕ → List ℕ → List ℕ → List ℕ → ℕ
sum n xs ys zs ws = 8 * units n xs + 4 * units n ys + 2 * units n zs + units n ws

sum_ones : (n : ℕ) (xs ys zs ws : List ℕ) → (sum n xs ys zs ws < 2 ^ (n * 4)) × (ones (sum n xs ys zs ws) ≡ count n xs + count n ys + count n zs + count n ws)
unfolding units count ones
sum_ones zero xs ys zs ws = (lit< tt, refl)
sum_ones (suc n) xs ys zs ws =
    let low = sum n (drop 1 xs) (drop 1 ys) (drop 1 zs) (drop 1 ws) in
    let x = first xs in
    let y = first ys in
    let z = first zs in
    let w = first ws in
    let hx = first_le xs in
    let hy = first_le ys in
    let hz = first_le zs in
    let hw = first_le ws in
    let half = 8 * x + 4 * y + 2 * z + w in
    let later = sum_ones n (drop 1 xs) (drop 1 ys) (drop 1 zs) (drop 1 ws) in
    let all = spread x y z w (2 ^ (n * 4)) (units n (drop 1 xs)) (units n (drop 1 ys)) (units n (drop 1 zs)) (units n (drop 1 ws)) in
    let small : half < 16 = omega arith in
    let each = half_ones x y z w hx hy hz hw in
    let here = ones_cat (n * 4) half low later.0 in
    (rw (all, wider 4 n) (digits_lt small later.0), ap ones all ∙ here ∙ omega arith)

-- four words of marks
module _ (a b c d : ℕ) (ha : a < 2 ^ 64) (hb : b < 2 ^ 64) (hc : c < 2 ^ 64) (hd : d < 2 ^ 64)
    (ma : marked 8 (halves_of a) ≡ halves_of a) (mb : marked 8 (halves_of b) ≡ halves_of b)
    (mc : marked 8 (halves_of c) ≡ halves_of c) (md : marked 8 (halves_of d) ≡ halves_of d) where
  units_of : (m : ℕ) → m < 2 ^ 64 → marked 8 (halves_of m) ≡ halves_of m → m ≡ 8 * units 16 (halves_of m)
  units_of m h e =
      sym (joined-halves m h) ∙ ap (joined 4) (sym e) ∙ units_are (halves_of m) ∙ ap (λ (k : ℕ). 8 * units k (halves_of m)) (length-halves m)

  count-slots_for : (m : ℕ) → count 16 (halves_of m) ≡ slots_for 8 (halves_of m)
  count-slots_for m = ap (λ (k : ℕ). count k (halves_of m)) (sym (length-halves m)) ∙ count_is (halves_of m)

  pub four_words : (a + b / 2 + c / 4 + d / 8 < 2 ^ 64)
      × (ones (a + b / 2 + c / 4 + d / 8) ≡ slots_for 8 (halves_of a) + slots_for 8 (halves_of b) + slots_for 8 (halves_of c) + slots_for 8 (halves_of d))
  four_words =
      let ua = units_of a ha ma in
      let ub = units_of b hb mb in
      let uc = units_of c hc mc in
      let ud = units_of d hd md in
      let e : a + b / 2 + c / 4 + d / 8 ≡ sum 16 (halves_of a) (halves_of b) (halves_of c) (halves_of d) = omega arith in
      let all = sum_ones 16 (halves_of a) (halves_of b) (halves_of c) (halves_of d) in
      let sa = count-slots_for a in
      let sb = count-slots_for b in
      let sc = count-slots_for c in
      let sd = count-slots_for d in
      (omega (arith, e, all.0), ap ones e ∙ all.1 ∙ omega (arith, sa, sb, sc, sd))
