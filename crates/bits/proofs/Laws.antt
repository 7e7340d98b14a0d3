-- Laws of packed fields, over the width. Assumes nothing.
use Prim.Native.Nat.{ℕ, zero, suc, ◌+◌, ◌-◌, ◌*◌, ◌/◌, ◌%◌, ◌^◌, ◌≤◌, ◌<◌}
use mathlib.Core.Path.{◌≡◌, refl, sym, ap, ap₂, ◌∙◌, subst}
use mathlib.Core.List.{List, [], ◌∷◌, ◌++◌, append_assoc, append-nil}
use native.Mathlib.Omega.{arith}
use native.Mathlib.Nat.{add_comm, add-mul, mul_assoc, zero-add, add-suc, suc-mul, zero-mul, mod-lt, mod-eq_of_lt, pow-succ', suc-add, mod-one}
use native.Mathlib.Numerals.{add-one, one-add}
use lib.ListN.{get_or, length, take, drop, length-append, length-drop}
use lib.Seq.{take-append-le, drop-append-le, take_at, drop_at, take-add, length-take-le, drop-nil, drop-drop}
use lib.Dec.{lit<}
use lib.Arith.{digits_lt}
use lib.Pow.{high, low, mod-mod-pow, pow-add, pow_pos, shr-shr, mod-pow-add, field}
use Rattle.bits.specs.Fields.{Fit, none, more, bits_of, number, run, cut}

-- ---- one field

pub length-bits_of : (w v : ℕ) → length (bits_of w v) ≡ w
unfolding bits_of
length-bits_of zero v = refl
length-bits_of (suc w) v = ap suc (length-bits_of w v)

-- a field of a + b bits is its a high bits and then its b low ones
pub bits_of_split : (a b x : ℕ) → bits_of (a + b) x ≡ bits_of a (x / 2 ^ b) ++ bits_of b x
unfolding bits_of
bits_of_split zero b x = rw zero-add
bits_of_split (suc a) b x = rw (suc-add, shr-shr, add_comm b a) (ap (λ (l : List ℕ). x / 2 ^ (a + b) % 2 ∷ l) (bits_of_split a b x))

-- the number of a field's bits is its value
pub number-bits_of : (w v : ℕ) → number (bits_of w v) ≡ v % 2 ^ w
unfolding bits_of number
number-bits_of zero v = sym (mod-one v)
number-bits_of (suc w) v =
    ap₂ (λ (n m : ℕ). v / 2 ^ w % 2 * 2 ^ n + m) (length-bits_of w v) (number-bits_of w v)
    ∙ sym (mod-pow-add v 1 w) ∙ ap (λ (n : ℕ). v % 2 ^ n) (one-add w)

-- bits above the field's width do not show in it
pub bits_of_mod : (w k v : ℕ) → bits_of w (v % 2 ^ (k + w)) ≡ bits_of w v
unfolding bits_of
bits_of_mod zero k v = refl
bits_of_mod (suc w) k v =
    ap (λ (n : ℕ). bits_of (suc w) (v % 2 ^ n)) (add-suc k w ∙ sym (suc-add k w))
    ∙ ap₂ (λ (b : ℕ) (bs : List ℕ). b ∷ bs)
    (ap (λ (n : ℕ). n % 2) (field v (suc k) w) ∙ ap (λ (n : ℕ). v / 2 ^ w % 2 ^ n % 2) (sym (add-one k)) ∙ mod-mod-pow (v / 2 ^ w) k 1)
    (bits_of_mod w (suc k) v)

pub bits_of_low : (w hi : ℕ) {lo : ℕ} → lo < 2 ^ w → bits_of w (hi * 2 ^ w + lo) ≡ bits_of w lo
bits_of_low w hi {lo} h =
    sym (bits_of_mod w 0 (hi * 2 ^ w + lo)) ∙ rw zero-add (ap (bits_of w) (low hi w h))

-- two fields side by side are one field
pub bits_of_join : (a b hi : ℕ) {lo : ℕ} → lo < 2 ^ b → bits_of a hi ++ bits_of b lo ≡ bits_of (a + b) (hi * 2 ^ b + lo)
bits_of_join a b hi {lo} h =
    ap₂ (λ (x y : List ℕ). x ++ y) (ap (bits_of a) (sym (high hi b h))) (sym (bits_of_low b hi h)) ∙ sym (bits_of_split a b (hi * 2 ^ b + lo))

pub bits_bits_of : (w v : ℕ) → Fit 1 (bits_of w v)
unfolding bits_of
bits_bits_of zero v = none
bits_bits_of (suc w) v = more (mod-lt _ (lit< tt)) (bits_bits_of w v)

pub number_lt : {bs : List ℕ} → Fit 1 bs → number bs < 2 ^ length bs
unfolding number
number_lt none = lit< tt
number_lt (more h t) = rw pow-succ' (digits_lt h (number_lt t))

-- bits are the field of their number
pub bits_of-number : {bs : List ℕ} → Fit 1 bs → bits_of (length bs) (number bs) ≡ bs
unfolding bits_of number
bits_of-number none = refl
bits_of-number (more {v = b} {vs = bs} h t) =
    ap₂ (λ (x : ℕ) (xs : List ℕ). x ∷ xs)
    (ap (λ (n : ℕ). n % 2) (high b (length bs) (number_lt t)) ∙ mod-eq_of_lt h)
    (bits_of_low (length bs) b (number_lt t) ∙ bits_of-number t)

-- of bits in two parts the first are the higher
pub number_append : (xs ys : List ℕ) → number (xs ++ ys) ≡ number xs * 2 ^ length ys + number ys
unfolding number
number_append [] ys = rw (zero-mul, zero-add)
number_append (x ∷ xs) ys =
    let a = 2 ^ length xs in
    let b = 2 ^ length ys in
    ap₂ (λ (k n : ℕ). x * 2 ^ k + n) (length-append xs ys) (number_append xs ys)
    ∙ ap (λ (p : ℕ). x * p + (number xs * b + number ys)) (pow-add 2 (length xs) (length ys))
    ∙ omega (arith, mul_assoc x a b, add-mul (x * a) (number xs) b)

-- ---- runs of fields

pub run_append : (w : ℕ) (xs ys : List ℕ) → run w (xs ++ ys) ≡ run w xs ++ run w ys
unfolding run
run_append w [] ys = refl
run_append w (x ∷ xs) ys = rw (run_append w xs ys, append_assoc)

pub length_run : (w : ℕ) (vs : List ℕ) → length (run w vs) ≡ length vs * w
unfolding run
length_run w [] = sym (zero-mul w)
length_run w (v ∷ vs) = length-append (bits_of w v) (run w vs) ∙ ap₂ ◌+◌ (length-bits_of w v) (length_run w vs) ∙ add_comm w (length vs * w) ∙ sym (suc-mul (length vs) w)

pub length_cut : (w n : ℕ) (bs : List ℕ) → length (cut w n bs) ≡ n
unfolding cut
length_cut w zero bs = refl
length_cut w (suc n) bs = ap suc (length_cut w n (drop w bs))

pub fit_append : {w : ℕ} {xs ys : List ℕ} → Fit w xs → Fit w ys → Fit w (xs ++ ys)
fit_append none q = q
fit_append (more h p) q = more h (fit_append p q)

pub fit_take : {w : ℕ} {xs : List ℕ} (n : ℕ) → Fit w xs → Fit w (take n xs)
fit_take zero p = none
fit_take (suc n) none = none
fit_take (suc n) (more h p) = more h (fit_take n p)

pub fit_drop : {w : ℕ} {xs : List ℕ} (n : ℕ) → Fit w xs → Fit w (drop n xs)
fit_drop zero p = p
fit_drop (suc n) none = none
fit_drop (suc n) (more h p) = fit_drop n p

pub fit_get_d : {w : ℕ} {xs : List ℕ} → Fit w xs → (i : ℕ) → get_or xs i 0 < 2 ^ w
fit_get_d {w} none i = pow_pos w
fit_get_d (more h p) zero = h
fit_get_d (more h p) (suc i) = fit_get_d p i

pub fit_of : (w : ℕ) (xs : List ℕ) → ((i : ℕ) → get_or xs i 0 < 2 ^ w) → Fit w xs
fit_of w [] h = none
fit_of w (x ∷ xs) h = more (h 0) (fit_of w xs (λ i. h (suc i)))

pub fit_run : (w : ℕ) (vs : List ℕ) → Fit 1 (run w vs)
unfolding run
fit_run w [] = none
fit_run w (v ∷ vs) = fit_append (bits_bits_of w v) (fit_run w vs)

-- the first of n + 1 fields, and the n behind it, lie within bits that hold them all
first_fits : (w n : ℕ) (bs : List ℕ) → suc n * w ≤ length bs → w ≤ length bs
first_fits w n bs h = let e : suc n * w ≡ n * w + w = suc-mul n w in omega arith

rest_fits : (w n : ℕ) (bs : List ℕ) → suc n * w ≤ length bs → n * w ≤ length (drop w bs)
rest_fits w n bs h = let e : suc n * w ≡ n * w + w = suc-mul n w in rw length-drop (omega arith)

-- values cut from bits fit
pub fit_cut : (w n : ℕ) (bs : List ℕ) → Fit 1 bs → n * w ≤ length bs → Fit w (cut w n bs)
unfolding cut
fit_cut w zero bs b h = none
fit_cut w (suc n) bs b h =
    more (subst (λ (k : ℕ). number (take w bs) < 2 ^ k) (length-take-le w bs (first_fits w n bs h)) (number_lt (fit_take w b)))
    (fit_cut w n (drop w bs) (fit_drop w b) (rest_fits w n bs h))

-- values that fit, packed and cut again, are the values
pub cut-run : {w : ℕ} {vs : List ℕ} → Fit w vs → (rest : List ℕ) → cut w (length vs) (run w vs ++ rest) ≡ vs
unfolding cut run
cut-run none rest = refl
cut-run {w} (more {v = v} {vs = vs} h t) rest =
    ap (cut w (suc (length vs))) (append_assoc (bits_of w v) (run w vs) rest)
    ∙ ap₂ (λ (x : ℕ) (xs : List ℕ). x ∷ xs)
    (ap number (take_at (bits_of w v) (run w vs ++ rest) w (length-bits_of w v)) ∙ number-bits_of w v ∙ mod-eq_of_lt h)
    (ap (cut w (length vs)) (drop_at (bits_of w v) (run w vs ++ rest) w (length-bits_of w v)) ∙ cut-run t rest)

-- bits, cut into values and packed again, are the bits
pub run-cut : (w n : ℕ) (bs : List ℕ) → Fit 1 bs → n * w ≤ length bs → run w (cut w n bs) ≡ take (n * w) bs
unfolding cut run
run-cut w zero bs b h = rw zero-mul
run-cut w (suc n) bs b h =
    ap₂ (λ (x y : List ℕ). x ++ y)
    (ap (λ (k : ℕ). bits_of k (number (take w bs))) (sym (length-take-le w bs (first_fits w n bs h))) ∙ bits_of-number (fit_take w b))
    (run-cut w n (drop w bs) (fit_drop w b) (rest_fits w n bs h))
    ∙ sym (take-add w (n * w) bs)
    ∙ ap (λ (k : ℕ). take k bs) (add_comm w (n * w) ∙ sym (suc-mul n w))

pub run-one : (w v : ℕ) → run w (v ∷ []) ≡ bits_of w v
unfolding run
run-one w v = append-nil (bits_of w v)

pub run_cons : (w v : ℕ) (vs : List ℕ) → run w (v ∷ vs) ≡ bits_of w v ++ run w vs
unfolding run
run_cons w v vs = refl

-- a run is the field of its number
pub bits_of-run : (w : ℕ) (vs : List ℕ) → bits_of (length vs * w) (number (run w vs)) ≡ run w vs
bits_of-run w vs = ap (λ (n : ℕ). bits_of n (number (run w vs))) (sym (length_run w vs)) ∙ bits_of-number (fit_run w vs)

-- up to eight bytes, cut out of others, are the field of their number
pub bits_of-part : (n : ℕ) → n ≤ 8 → (bytes : List ℕ) (i : ℕ) → i + n ≤ length bytes → {r : ℕ} → r ≡ number (run 8 (take (i + n - i) (drop i bytes))) % 2 ^ 64
    → bits_of (n * 8) r ≡ run 8 (take n (drop i bytes))
bits_of-part n h bytes i l {r} e =
    ap (bits_of (n * 8)) (e ∙ ap₂ (λ (k j : ℕ). number (run 8 (take k (drop i bytes))) % 2 ^ j) size room)
    ∙ bits_of_mod (n * 8) (64 - n * 8) (number (run 8 part))
    ∙ ap (λ (k : ℕ). bits_of (k * 8) (number (run 8 part))) (sym (length-take-le n (drop i bytes) (rw length-drop (omega arith))))
    ∙ bits_of-run 8 part
  where
    part : List ℕ
    part = take n (drop i bytes)

    size : i + n - i ≡ n
    size = omega arith

    room : 64 ≡ 64 - n * 8 + n * 8
    room = omega arith

-- one value more
pub cut-more : (w n : ℕ) (bs : List ℕ) → cut w (suc n) bs ≡ cut w n bs ++ (number (take w (drop (n * w) bs)) ∷ [])
unfolding cut
cut-more w zero bs = ap (λ (k : ℕ). number (take w (drop k bs)) ∷ []) (sym (zero-mul w))
cut-more w (suc n) bs =
    ap (λ (l : List ℕ). number (take w bs) ∷ l)
    (cut-more w n (drop w bs)
    ∙ ap (λ (l : List ℕ). cut w n (drop w bs) ++ (number (take w l) ∷ []))
    (drop-drop (n * w) w bs ∙ ap (λ (k : ℕ). drop k bs) (add_comm w (n * w) ∙ sym (suc-mul n w))))

-- a run without its first n values
pub run_drop : (w n : ℕ) (vs : List ℕ) → run w (drop n vs) ≡ drop (n * w) (run w vs)
unfolding run
run_drop w zero vs = rw zero-mul
run_drop w (suc n) [] = sym (drop-nil (suc n * w))
run_drop w (suc n) (v ∷ vs) =
    run_drop w n vs
    ∙ ap (drop (n * w)) (sym (drop_at (bits_of w v) (run w vs) w (length-bits_of w v)))
    ∙ drop-drop (n * w) w (bits_of w v ++ run w vs)
    ∙ ap (λ (k : ℕ). drop k (bits_of w v ++ run w vs)) (add_comm w (n * w) ∙ sym (suc-mul n w))

-- values cut from the front do not show what stands behind
pub cut-front : (w n : ℕ) (xs ys : List ℕ) → n * w ≤ length xs → cut w n (xs ++ ys) ≡ cut w n xs
unfolding cut
cut-front w zero xs ys h = refl
cut-front w (suc n) xs ys h =
    ap₂ (λ (x : ℕ) (l : List ℕ). x ∷ l)
    (ap number (take-append-le w xs ys (first_fits w n xs h)))
    (ap (cut w n) (drop-append-le w xs ys (first_fits w n xs h)) ∙ cut-front w n (drop w xs) ys (rest_fits w n xs h))
