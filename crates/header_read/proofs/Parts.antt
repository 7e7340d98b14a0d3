-- A part of a setting's array that a header fills, with zeros behind it. Assumes nothing.
use Prim.Native.Nat.{ℕ, zero, suc, ◌+◌, ◌-◌, ◌*◌, ◌/◌, ◌%◌, ◌≤◌}
use mathlib.Core.Path.{◌≡◌, refl, sym, ap, ◌∙◌, subst}
use mathlib.Core.List.{List, [], ◌∷◌, ◌++◌}
use native.Mathlib.Omega.{arith}
use native.Mathlib.Nat.{zero-add, sub-zero}
use lib.ListN.{length, take, drop, replicate, length-drop, length-replicate}
use lib.Seq.{length-take-le}
use Rattle.slices.proofs.Front.{Front, put, front_none, front-part, front_length, front-all}
use Rattle.setting.specs.Size.{resized}
use Rattle.setting.proofs.Sizes.{resized_longer}
use Rattle.setting_bytes.specs.Words.{word_bytes}

-- values written into the front of a part, and zeros behind them
pub zeros-behind : (part x z : List ℕ) (n m : ℕ) → length part ≡ m → length x ≡ n → n ≤ m
    → z ≡ replicate (length (take (m - n) (drop n (put 0 (n - 0) part x)))) 0
    → put n (m - n) (put 0 (n - 0) part x) z ≡ x ++ replicate (m - n) 0
zeros-behind part x z n m l e h zs =
    let whole : n - 0 ≡ n = sub-zero n in
    let one : Front part x (put 0 (n - 0) part x) n =
    subst (Front part x (put 0 (n - 0) part x)) (zero-add (n - 0) ∙ whole) (front-part part [] part x 0 (n - 0) (front_none part) (e ∙ sym whole)) in
    let all : length (put 0 (n - 0) part x) ≡ length part = front_length part x (put 0 (n - 0) part x) n one (omega arith) in
    let room : m - n ≤ length (drop n (put 0 (n - 0) part x)) = rw length-drop (omega arith) in
    let zeros : z ≡ replicate (m - n) 0 = zs ∙ ap (λ (k : ℕ). replicate k 0) (length-take-le (m - n) (drop n (put 0 (n - 0) part x)) room) in
    let long : length z ≡ m - n = ap length zeros ∙ length-replicate {A = ℕ} (m - n) 0 in
    front-all part (x ++ z) _ (n + (m - n)) (front-part part x (put 0 (n - 0) part x) z n (m - n) one long) (omega arith) ∙ ap (λ (w : List ℕ). x ++ w) zeros

-- as a resized list
pub resized-part : (part x z : List ℕ) (n m : ℕ) → length part ≡ m → length x ≡ n → n ≤ m
    → z ≡ replicate (length (take (m - n) (drop n (put 0 (n - 0) part x)))) 0
    → put n (m - n) (put 0 (n - 0) part x) z ≡ resized m x
resized-part part x z n m l e h zs =
    zeros-behind part x z n m l e h zs ∙ ap (λ (k : ℕ). x ++ replicate (m - k) 0) (sym e)
    ∙ sym (resized_longer m x (subst (λ (k : ℕ). k ≤ m) (sym e) h))

-- the bytes of numbers with zeros behind them
words_append : (xs ys : List ℕ) → word_bytes (xs ++ ys) ≡ word_bytes xs ++ word_bytes ys
unfolding word_bytes
words_append [] ys = refl
words_append (x ∷ xs) ys = ap (λ (l : List ℕ). x / 256 ∷ x % 256 ∷ l) (words_append xs ys)

zero_words : (n : ℕ) → word_bytes (replicate n 0) ≡ replicate (2 * n) 0
unfolding word_bytes
zero_words zero = refl
zero_words (suc n) =
    let two : 2 * suc n ≡ suc (suc (2 * n)) = omega arith in
    ap (λ (l : List ℕ). 0 ∷ 0 ∷ l) (zero_words n) ∙ ap (λ (k : ℕ). replicate k 0) (sym two)

pub words_resized : (m n : ℕ) (ws : List ℕ) → length ws ≡ n → n ≤ m → word_bytes ws ++ replicate (2 * m - 2 * n) 0 ≡ word_bytes (resized m ws)
words_resized m n ws e h =
    let left : 2 * m - 2 * n ≡ 2 * (m - n) = omega arith in
    let fits : length ws ≤ m = omega arith in
    ap (λ (k : ℕ). word_bytes ws ++ replicate k 0) left
    ∙ ap (λ (l : List ℕ). word_bytes ws ++ l) (sym (zero_words (m - n)))
    ∙ sym (words_append ws (replicate (m - n) 0))
    ∙ ap (λ (k : ℕ). word_bytes (ws ++ replicate (m - k) 0)) (sym e)
    ∙ ap word_bytes (sym (resized_longer m ws fits))
