-- The number of 64 bits that bytes make is that of the last eight. Assumes nothing.
use Prim.Native.Nat.{ℕ, zero, suc, ◌+◌, ◌-◌, ◌*◌, ◌%◌, ◌^◌, ◌≤◌, ◌<◌}
use mathlib.Core.Path.{◌≡◌, refl, sym, ap, ap₂, ◌∙◌}
use mathlib.Core.List.{List, [], ◌∷◌, ◌++◌, append-nil}
use borrow.Rule.Slice.PartMut.{put_mid, post_of}
use native.Mathlib.Omega.{arith}
use native.Mathlib.Nat.{mod-eq_of_lt, le_of_eq, lt_of_lt_of_le, pow-le-pow_right}
use lib.Dec.{lit<}
use lib.ListN.{replicate, length, take, drop, get_or, take-append-drop, length-drop, drop_of_length-le}
use Rattle.std.specs.Int.{w64, from_be_bytes}
use Rattle.std.proofs.lemmas.List.{get_or-drop, take-replicate, length-append, length-replicate}
use Rattle.bits.specs.Fields.{bits_of, number, run}
use Rattle.bits.proofs.Laws.{number-bits_of, number_append, run_append, run_cons, length_run, number_lt, fit_run}

-- the number of some bytes with one more in front
number_cons : (b : ℕ) (bs : List ℕ) → b < 256 → number (run 8 (b ∷ bs)) ≡ b * 2 ^ (length bs * 8) + number (run 8 bs)
number_cons b bs h =
    ap number (run_cons 8 b bs) ∙ number_append (bits_of 8 b) (run 8 bs)
    ∙ ap₂ (λ (x k : ℕ). x * 2 ^ k + number (run 8 bs)) (number-bits_of 8 b ∙ mod-eq_of_lt h) (length_run 8 bs)

-- eight bytes as a number of 64 bits
pub eight-number : (bs : List ℕ) → length bs ≡ 8 → ((i : ℕ) → get_or bs i 0 < 256) → from_be_bytes w64 bs ≡ number (run 8 bs)
unfolding number run
eight-number (a ∷ b ∷ c ∷ d ∷ e ∷ f ∷ g ∷ h ∷ []) l each =
    let i : number (run 8 (h ∷ [])) ≡ h * 2 ^ 0 + 0 = number_cons h [] (each 7) in
    let j = number_cons g (h ∷ []) (each 6) in
    let k = number_cons f (g ∷ h ∷ []) (each 5) in
    let m = number_cons e (f ∷ g ∷ h ∷ []) (each 4) in
    let n = number_cons d (e ∷ f ∷ g ∷ h ∷ []) (each 3) in
    let o = number_cons c (d ∷ e ∷ f ∷ g ∷ h ∷ []) (each 2) in
    let p = number_cons b (c ∷ d ∷ e ∷ f ∷ g ∷ h ∷ []) (each 1) in
    let q = number_cons a (b ∷ c ∷ d ∷ e ∷ f ∷ g ∷ h ∷ []) (each 0) in
    omega arith
eight-number _ l each = absurd (omega arith)

-- of eight bytes behind others the number is what is left of the number of all
pub last-eight : (front bs : List ℕ) → length bs ≡ 8 → number (run 8 (front ++ bs)) % 2 ^ 64 ≡ number (run 8 bs)
last-eight front bs l =
    let long : length (run 8 bs) ≡ 64 = length_run 8 bs ∙ ap (λ (k : ℕ). k * 8) l in
    let small : number (run 8 bs) < 2 ^ length (run 8 bs) = number_lt (fit_run 8 bs) in
    let whole : number (run 8 (front ++ bs)) ≡ number (run 8 front) * 2 ^ length (run 8 bs) + number (run 8 bs) =
    ap number (run_append 8 front bs) ∙ number_append (run 8 front) (run 8 bs) in
    let fits : number (run 8 bs) < 2 ^ 64 = rw long at small in
    let parts : number (run 8 (front ++ bs)) ≡ number (run 8 front) * 2 ^ 64 + number (run 8 bs) = rw long at whole in
    omega arith

-- the last eight of some bytes, read as a number
pub last_number : (bytes ys : List ℕ) {n : ℕ} → 8 ≤ length bytes → ys ≡ drop (length bytes - 8) bytes → ((i : ℕ) → get_or bytes i 0 < 256)
    → n ≡ from_be_bytes w64 ys → n ≡ number (run 8 bytes) % 2 ^ 64
last_number bytes ys {n} h same each e =
    let at = length bytes - 8 in
    let l : length (drop at bytes) ≡ 8 = length-drop at bytes ∙ omega arith in
    e ∙ ap (from_be_bytes w64) same ∙ eight-number (drop at bytes) l (λ i. rw get_or-drop (each (at + i)))
    ∙ sym (last-eight (take at bytes) (drop at bytes) l) ∙ ap (λ (bs : List ℕ). number (run 8 bs) % 2 ^ 64) (take-append-drop at bytes)

-- zeros in front change no number
zeros-number : (n : ℕ) (bs : List ℕ) → number (run 8 (replicate n 0 ++ bs)) ≡ number (run 8 bs)
zeros-number zero bs = refl
zeros-number (suc n) bs = number_cons 0 (replicate n 0 ++ bs) (lit< tt) ∙ omega (arith, zeros-number n bs)

zeros-each : (n : ℕ) (bs : List ℕ) → ((i : ℕ) → get_or bs i 0 < 256) → (i : ℕ) → get_or (replicate n 0 ++ bs) i 0 < 256
zeros-each zero bs each i = each i
zeros-each (suc n) bs each zero = lit< tt
zeros-each (suc n) bs each (suc i) = zeros-each n bs each i

-- fewer than eight bytes at the end of eight zeros, read as a number
pub few_number : (bytes : List ℕ) {n : ℕ} → length bytes < 8 → ((i : ℕ) → get_or bytes i 0 < 256)
    → let at = 8 - length bytes in n ≡ from_be_bytes w64 (put_mid at (8 - at) (replicate 8 0) bytes) → n ≡ number (run 8 bytes) % 2 ^ 64
few_number bytes {n} few each e =
    let at = 8 - length bytes in
    let zeros : List ℕ = replicate 8 0 in
    let front : take at zeros ≡ replicate at 0 = take-replicate at 8 0 (omega arith) in
    let back : post_of at (8 - at) zeros ≡ [] = drop_of_length-le (drop at zeros) (le_of_eq (length-drop at zeros)) in
    let whole : put_mid at (8 - at) zeros bytes ≡ replicate at 0 ++ bytes =
    ap₂ (λ (f b : List ℕ). f ++ (bytes ++ b)) front back ∙ ap (λ (bs : List ℕ). replicate at 0 ++ bs) (append-nil bytes) in
    let eight : length (replicate at 0 ++ bytes) ≡ 8 = length-append (replicate at 0) bytes ∙ omega (arith, length-replicate {A = ℕ} at 0) in
    let small : number (run 8 bytes) < 2 ^ length (run 8 bytes) = number_lt (fit_run 8 bytes) in
    let fits : number (run 8 bytes) < 2 ^ 64 =
    lt_of_lt_of_le small (pow-le-pow_right (lit< tt) {i = length (run 8 bytes)} {j = 64} (omega (arith, length_run 8 bytes))) in
    e ∙ ap (from_be_bytes w64) whole ∙ eight-number (replicate at 0 ++ bytes) eight (zeros-each at bytes each) ∙ zeros-number at bytes ∙ sym (mod-eq_of_lt fits)
