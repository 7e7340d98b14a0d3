-- What holds of the size of every kind, and laws of resized lists. Assumes nothing.
use Prim.Native.Nat.{ℕ, zero, suc, ◌+◌, ◌-◌, ◌*◌, ◌/◌, ◌^◌, ◌≤◌}
use mathlib.Core.Path.{◌≡◌, refl, sym, ap, ap₂, ◌∙◌}
use mathlib.Core.Bool.{false}
use mathlib.Core.List.{List, [], ◌∷◌, ◌++◌}
use native.Mathlib.Omega.{arith}
use native.Mathlib.Nat.{suc_inj, le_of_suc-le-suc}
use lib.Arith.{lt-one}
use lib.Dec.{lit<}
use lib.ListN.{length, take, drop, replicate}
use lib.Pow.{pow_pos}
use Rattle.bits.specs.Fields.{Fit, none, more}
use Rattle.bits.proofs.Laws.{fit_of, fit_get_d}
use Rattle.counters.specs.Counters.{last_slot, last_stream}
use Rattle.setting.specs.declared.Kind.{Kind}
use Rattle.setting.specs.declared.Size.{Size}
use Rattle.setting.specs.Setting.{private_bytes}
use Rattle.setting.specs.Size.{size_of, resized}
use Rattle.setting.specs.Rules.{some_behind}
use Rattle.setting.proofs.Fields.{some_fit, fit_some}

-- ---- lists made as long as a size says

pub length-resized : (n : ℕ) (vs : List ℕ) → length (resized n vs) ≡ n
unfolding resized
length-resized zero vs = refl
length-resized (suc n) [] = ap suc (length-resized n [])
length-resized (suc n) (v ∷ vs) = ap suc (length-resized n vs)

pub fit_resized : {w : ℕ} (n : ℕ) {vs : List ℕ} → Fit w vs → Fit w (resized n vs)
unfolding resized
fit_resized zero f = none
fit_resized {w} (suc n) none = more (pow_pos w) (fit_resized n none)
fit_resized (suc n) (more h f) = more h (fit_resized n f)

-- a list that is as long already stays
pub resized_same : (n : ℕ) (vs : List ℕ) → length vs ≡ n → resized n vs ≡ vs
unfolding resized
resized_same zero [] e = refl
resized_same zero (v ∷ vs) e = absurd (omega arith)
resized_same (suc n) [] e = absurd (omega arith)
resized_same (suc n) (v ∷ vs) e = ap (λ (l : List ℕ). v ∷ l) (resized_same n vs (suc_inj e))

-- a list that is longer is cut
pub resized-take : (n : ℕ) (vs : List ℕ) → n ≤ length vs → resized n vs ≡ take n vs
unfolding resized
resized-take zero vs h = refl
resized-take (suc n) [] h = absurd (omega arith)
resized-take (suc n) (v ∷ vs) h = ap (λ (l : List ℕ). v ∷ l) (resized-take n vs (le_of_suc-le-suc h))

-- no values are zeros
pub resized_none : (n : ℕ) → resized n [] ≡ replicate n 0
unfolding resized
resized_none zero = refl
resized_none (suc n) = ap (λ (l : List ℕ). 0 ∷ l) (resized_none n)

zeros_only : (n : ℕ) {vs : List ℕ} → length vs ≡ n → Fit 0 vs → resized n [] ≡ vs
unfolding resized
zeros_only zero e none = refl
zeros_only zero e (more h f) = absurd (omega arith)
zeros_only (suc n) e none = absurd (omega arith)
zeros_only (suc n) e (more h f) = ap₂ (λ (x : ℕ) (l : List ℕ). x ∷ l) (sym (lt-one h)) (zeros_only n (suc_inj e) f)

resized-zeros : (n m : ℕ) (vs : List ℕ) → length vs ≡ m → n ≤ m → Fit 0 (drop n vs) → resized m (resized n vs) ≡ vs
unfolding resized
resized-zeros zero m vs e h f = zeros_only m e f
resized-zeros (suc n) zero vs e h f = absurd (omega arith)
resized-zeros (suc n) (suc m) [] e h f = absurd (omega arith)
resized-zeros (suc n) (suc m) (v ∷ vs) e h f = ap (λ (l : List ℕ). v ∷ l) (resized-zeros n m vs (suc_inj e) (le_of_suc-le-suc h) f)

-- cut to n and made as long again: if zeros stood behind the first n, the same
pub resized_back : (n m : ℕ) (vs : List ℕ) → length vs ≡ m → n ≤ m → some_behind n vs ≡ false → resized m (resized n vs) ≡ vs
resized_back n m vs e h b = resized-zeros n m vs e h (fit_some 0 (drop n vs) b)

-- made longer and cut again
pub resized_again : (n m : ℕ) (vs : List ℕ) → length vs ≡ n → n ≤ m → resized n (resized m vs) ≡ vs
unfolding resized
resized_again zero m [] e h = refl
resized_again zero m (v ∷ vs) e h = absurd (omega arith)
resized_again (suc n) m [] e h = absurd (omega arith)
resized_again (suc n) zero (v ∷ vs) e h = absurd (omega arith)
resized_again (suc n) (suc m) (v ∷ vs) e h = ap (λ (l : List ℕ). v ∷ l) (resized_again n m vs (suc_inj e) (le_of_suc-le-suc h))

-- made longer, it has zeros behind its values
pub resized_longer : (m : ℕ) (vs : List ℕ) → length vs ≤ m → resized m vs ≡ vs ++ replicate (m - length vs) 0
unfolding resized
resized_longer zero [] h = refl
resized_longer zero (v ∷ vs) h = absurd (omega arith)
resized_longer (suc m) [] h = let all : suc m ≡ suc m - 0 = omega arith in resized_none (suc m) ∙ ap (λ (n : ℕ). replicate n 0) all
resized_longer (suc m) (v ∷ vs) h =
    let left : m - length vs ≡ suc m - length (v ∷ vs) = omega arith in
    ap (λ (l : List ℕ). v ∷ l) (resized_longer m vs (le_of_suc-le-suc h) ∙ ap (λ (n : ℕ). vs ++ replicate n 0) left)

fit_behind : (n m : ℕ) (vs : List ℕ) → length vs ≤ n → Fit 0 (drop n (resized m vs))
unfolding resized
fit_behind n zero vs h = none_dropped n
  where
    none_dropped : (n : ℕ) → Fit 0 (drop n [])
    none_dropped zero = none
    none_dropped (suc n) = none
fit_behind zero (suc m) [] h = more (lit< tt) (fit_behind zero m [] h)
fit_behind (suc n) (suc m) [] h = fit_behind n m [] (omega arith)
fit_behind zero (suc m) (v ∷ vs) h = absurd (omega arith)
fit_behind (suc n) (suc m) (v ∷ vs) h = fit_behind n m vs (le_of_suc-le-suc h)

-- that they are zeros, as the checks ask it
pub none_behind_resized : (n m : ℕ) (vs : List ℕ) → length vs ≤ n → some_behind n (resized m vs) ≡ false
none_behind_resized n m vs h = some_fit 0 (drop n (resized m vs)) (fit_behind n m vs h)

-- ---- the sizes

-- what every kind's size has: it is no larger than a setting's arrays, a slot's number has room for each stream, and the availability with
-- the bit behind it and the slots' numbers are whole bytes
pub record Sized (z : Size) : Type 0 where
  pub slots : z.slots ≤ last_slot
  pub streams : z.streams ≤ last_stream
  pub privates : z.private_bytes ≤ private_bytes
  pub bits : 2 ^ z.number_bits ≡ z.streams + 1
  pub stream_bytes : (z.streams + 1) / 8 * 8 ≡ z.streams + 1
  pub number-bytes : z.slots * z.number_bits / 8 * 8 ≡ z.slots * z.number_bits

pub sized : (kind : Kind) → Sized (size_of kind)
unfolding size_of
sized Kind.Plain =
    record { slots = omega arith; streams = omega arith; privates = omega arith; bits = refl; stream_bytes = refl; number-bytes = refl }
sized Kind.Extended =
    record { slots = omega arith; streams = omega arith; privates = omega arith; bits = refl; stream_bytes = refl; number-bytes = refl }
sized Kind.Short =
    record { slots = omega arith; streams = omega arith; privates = omega arith; bits = refl; stream_bytes = refl; number-bytes = refl }

-- so a slot's number has at most four bits
pub fit_four : (kind : Kind) {ns : List ℕ} → Fit (size_of kind).number_bits ns → Fit 4 ns
fit_four kind {ns} f = let z = sized kind in fit_of 4 ns (λ i. omega (arith, fit_get_d f i, z.bits, z.streams))
