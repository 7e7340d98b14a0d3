-- Numbers of 16 bits and their bytes, one number a turn: what the loops that write and read them need. Assumes nothing.
use Prim.Native.Nat.{ℕ, zero, suc, ◌+◌, ◌*◌, ◌/◌, ◌%◌, ◌≤◌, ◌<◌}
use mathlib.Core.Path.{◌≡◌, refl, sym, ap, ap₂, ◌∙◌}
use mathlib.Core.List.{List, [], ◌∷◌, ◌++◌}
use native.Mathlib.Omega.{arith}
use native.Mathlib.Numerals.{add-one}
use borrow.Author.Tests.{eq-eqb}
use lib.ListN.{length, take, get_or, set}
use lib.Seq.{take-suc-set}
use Rattle.bits.specs.Fields.{Fit, none, more}
use Rattle.bits.proofs.Laws.{fit_get_d}
use Rattle.slices.proofs.Front.{stored_behind}
use Rattle.setting_bytes.specs.Words.{word_bytes, word_at, words_of, words_read}

-- two stores, one behind the other
two_stored : (l : List ℕ) (at a b : ℕ) → at + 2 ≤ length l → take (at + 2) (set (set l at a) (at + 1) b) ≡ take at l ++ (a ∷ b ∷ [])
two_stored l at a b h = rw (add-one at) (stored_behind (a ∷ b ∷ []) l at h)

-- one number more
bytes-more : (k : ℕ) (ws : List ℕ) → k < length ws
    → word_bytes (take (suc k) ws) ≡ word_bytes (take k ws) ++ (get_or ws k 0 / 256 ∷ get_or ws k 0 % 256 ∷ [])
unfolding word_bytes
bytes-more k [] h = absurd (omega arith)
bytes-more zero (w ∷ ws) h = refl
bytes-more (suc k) (w ∷ ws) h = ap (λ (l : List ℕ). w / 256 ∷ w % 256 ∷ l) (bytes-more k ws (omega arith))

-- a turn of the loop that writes
pub word_written : (part ws : List ℕ) (k : ℕ) {high low : ℕ} → k < length ws → length part ≡ 2 * length ws
    → high ≡ get_or ws k 0 / 256 → low ≡ get_or ws k 0 % 256
    → take (2 * k) part ≡ word_bytes (take k ws)
    → take (2 * (k + 1)) (set (set part (2 * k) high) (2 * k + 1) low) ≡ word_bytes (take (k + 1) ws)
word_written part ws k {high} {low} h long first second e =
    let next : 2 * (k + 1) ≡ 2 * k + 2 = omega arith in
    ap (λ (n : ℕ). take n (set (set part (2 * k) high) (2 * k + 1) low)) next
    ∙ two_stored part (2 * k) high low (omega arith)
    ∙ ap₂ (λ (l both : List ℕ). l ++ both) e (ap₂ (λ (x y : ℕ). x ∷ y ∷ []) first second)
    ∙ sym (bytes-more k ws h)
    ∙ ap (λ (n : ℕ). word_bytes (take n ws)) (sym (add-one k))

-- one number more of the bytes
words_more : (k : ℕ) (b : List ℕ) → 2 * k + 2 ≤ length b → words_of (take (2 * k + 2) b) ≡ words_of (take (2 * k) b) ++ (word_at (2 * k) b ∷ [])
unfolding words_of
words_more k [] h = absurd (omega arith)
words_more k (x ∷ []) h = absurd (omega arith)
words_more zero (x ∷ y ∷ b) h = refl
words_more (suc k) (x ∷ y ∷ b) h =
    let behind : 2 * suc k + 2 ≡ suc (suc (2 * k + 2)) = omega arith in
    let second : 2 * suc k + 1 ≡ suc (suc (2 * k + 1)) = omega arith in
    let first : 2 * suc k ≡ suc (suc (2 * k)) = omega arith in
    rw (behind, second, first) (ap (λ (l : List ℕ). (x * 256 + y) ∷ l) (words_more k b (omega arith)))

-- a turn of the loop that reads
pub word_read : (words b : List ℕ) (k : ℕ) {v : ℕ} → k < length words → length b ≡ 2 * length words → v ≡ word_at (2 * k) b
    → take k words ≡ words_of (take (2 * k) b)
    → take (k + 1) (set words k v) ≡ words_of (take (2 * (k + 1)) b)
word_read words b k {v} h long same e =
    let next : 2 * (k + 1) ≡ 2 * k + 2 = omega arith in
    ap (λ (n : ℕ). take n (set words k v)) (add-one k)
    ∙ take-suc-set words k v h
    ∙ ap₂ (λ (l : List ℕ) (x : ℕ). l ++ (x ∷ [])) e same
    ∙ sym (words_more k b (omega arith))
    ∙ ap (λ (n : ℕ). words_of (take n b)) (sym next)

-- what is read of a part twice as long
pub all_read : (words b : List ℕ) → length b ≡ 2 * length words → words_read words b ≡ words_of b
unfolding words_read
all_read words b twice = rw (eq-eqb (length b) (2 * length words) twice)

-- as many bytes as numbers need
pub length-bytes : (ws : List ℕ) → length (word_bytes ws) ≡ 2 * length ws
unfolding word_bytes
length-bytes [] = refl
length-bytes (w ∷ ws) = let l = length-bytes ws in omega arith

-- the bytes of numbers say the numbers
pub words_back : (ws : List ℕ) → words_of (word_bytes ws) ≡ ws
unfolding word_bytes words_of
words_back [] = refl
words_back (w ∷ ws) =
    let same : w / 256 * 256 + w % 256 ≡ w = omega arith in
    ap₂ (λ (x : ℕ) (l : List ℕ). x ∷ l) same (words_back ws)

-- the numbers of bytes, two by two, say the bytes
pub bytes_same : (b : List ℕ) (n : ℕ) → length b ≡ 2 * n → Fit 8 b → word_bytes (words_of b) ≡ b
unfolding word_bytes words_of
bytes_same [] n long none = refl
bytes_same (x ∷ []) n long fit = absurd (omega arith)
bytes_same (x ∷ y ∷ b) zero long fit = absurd (omega arith)
bytes_same (x ∷ y ∷ b) (suc n) long (more f (more g fit)) =
    let high : (x * 256 + y) / 256 ≡ x = omega arith in
    let low : (x * 256 + y) % 256 ≡ y = omega arith in
    rw (high, low, bytes_same b n (omega arith) fit)

-- each number is that of its two bytes, and there are half as many numbers as bytes
words_at : (b : List ℕ) (k : ℕ) → 2 * k + 2 ≤ length b → get_or (words_of b) k 0 ≡ word_at (2 * k) b
unfolding words_of
words_at [] k h = absurd (omega arith)
words_at (x ∷ []) k h = absurd (omega arith)
words_at (x ∷ y ∷ b) zero h = refl
words_at (x ∷ y ∷ b) (suc k) h =
    let second : 2 * suc k + 1 ≡ suc (suc (2 * k + 1)) = omega arith in
    let first : 2 * suc k ≡ suc (suc (2 * k)) = omega arith in
    rw (second, first) (words_at b k (omega arith))

pub length_words : (n : ℕ) (b : List ℕ) → length b ≡ 2 * n → length (words_of b) ≡ n
unfolding words_of
length_words zero [] h = refl
length_words zero (x ∷ b) h = absurd (omega arith)
length_words (suc n) [] h = absurd (omega arith)
length_words (suc n) (x ∷ []) h = absurd (omega arith)
length_words (suc n) (x ∷ y ∷ b) h = ap suc (length_words n b (omega arith))

-- the two bytes of a number, again
pub words_of-bytes : (b : List ℕ) (k : ℕ) → Fit 8 b → 2 * k + 2 ≤ length b
    → (get_or (words_of b) k 0 / 256 ≡ get_or b (2 * k) 0) × (get_or (words_of b) k 0 % 256 ≡ get_or b (2 * k + 1) 0)
words_of-bytes b k f h =
    let low = fit_get_d f (2 * k + 1) in
    rw (words_at b k h) (omega arith, omega arith)
