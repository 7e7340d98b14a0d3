-- The identifiers of each stream, one stream a turn: what the loop that writes them needs. Assumes nothing.
use Prim.Native.Nat.{ℕ, zero, suc, ◌+◌, ◌/◌, ◌%◌, ◌≤◌, ◌<◌}
use mathlib.Core.Path.{◌≡◌, refl, sym, ap, ap₂, ◌∙◌}
use mathlib.Core.List.{List, [], ◌∷◌, ◌++◌}
use native.Mathlib.Omega.{arith}
use native.Mathlib.Numerals.{add-one, add-two, add-three}
use lib.ListN.{length, take, get_or, set}
use Rattle.slices.proofs.Front.{stored_behind}
use Rattle.bits.specs.Fields.{bits_of, run}
use Rattle.bits.proofs.Laws.{run_append}
use Rattle.header_layout.specs.Header.{paired}
use Rattle.header_layout.proofs.Bytes.{split}

-- four stores, one behind the other
pub four_stored : (l : List ℕ) (at a b c d : ℕ) → at + 4 ≤ length l
    → take (at + 4) (set (set (set (set l at a) (at + 1) b) (at + 2) c) (at + 3) d) ≡ take at l ++ (a ∷ b ∷ c ∷ d ∷ [])
four_stored l at a b c d h = rw (add-one at, add-two at, add-three at) (stored_behind (a ∷ b ∷ c ∷ d ∷ []) l at h)

-- one stream more
pub paired-more : (k : ℕ) (ts os : List ℕ) → k < length ts → k < length os
    → paired (take (suc k) ts) (take (suc k) os) ≡ paired (take k ts) (take k os) ++ (get_or ts k 0 ∷ get_or os k 0 ∷ [])
unfolding paired
paired-more k [] os h g = absurd (omega arith)
paired-more k (t ∷ ts) [] h g = absurd (omega arith)
paired-more zero (t ∷ ts) (o ∷ os) h g = refl
paired-more (suc k) (t ∷ ts) (o ∷ os) h g = ap (λ (l : List ℕ). t ∷ o ∷ l) (paired-more k ts os (omega arith) (omega arith))

-- the identifiers of one stream are its four bytes
pub stream_bytes : (t o : ℕ) → run 16 (t ∷ o ∷ []) ≡ run 8 (t / 256 ∷ t % 256 ∷ o / 256 ∷ o % 256 ∷ [])
unfolding run
stream_bytes t o =
    split t (t / 256) (t % 256) refl (omega arith) (bits_of 16 o ++ [])
    ∙ ap (λ (l : List ℕ). bits_of 8 (t / 256) ++ (bits_of 8 (t % 256) ++ l)) (split o (o / 256) (o % 256) refl (omega arith) [])

-- a turn of the loop that writes
pub stream_written : (part ts os : List ℕ) (k at : ℕ) → k < length ts → k < length os → at + 4 ≤ length part
    → run 8 (take at part) ≡ run 16 (paired (take k ts) (take k os))
    → run 8 (take (at + 4) (set (set (set (set part at (get_or ts k 0 / 256)) (at + 1) (get_or ts k 0 % 256)) (at + 2) (get_or os k 0 / 256)) (at + 3) (get_or os k 0 % 256)))
    ≡ run 16 (paired (take (k + 1) ts) (take (k + 1) os))
stream_written part ts os k at h g room e =
    let t = get_or ts k 0 in
    let o = get_or os k 0 in
    ap (run 8) (four_stored part at (t / 256) (t % 256) (o / 256) (o % 256) room)
    ∙ run_append 8 (take at part) (t / 256 ∷ t % 256 ∷ o / 256 ∷ o % 256 ∷ [])
    ∙ ap₂ (λ (x y : List ℕ). x ++ y) e (sym (stream_bytes t o))
    ∙ sym (run_append 16 (paired (take k ts) (take k os)) (t ∷ o ∷ []))
    ∙ ap (run 16) (sym (paired-more k ts os h g))
    ∙ ap (λ (n : ℕ). run 16 (paired (take n ts) (take n os))) (sym (add-one k))
