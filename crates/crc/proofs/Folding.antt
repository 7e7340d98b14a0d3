-- Laws of bytes that enter the register one behind the other. Assumes nothing.
use Prim.Native.Nat.{ℕ, ◌+◌, ◌-◌, ◌%◌, ◌^◌, ◌≤◌, ◌<◌}
use mathlib.Core.Path.{◌≡◌, sym, ap, ap₂, ◌∙◌}
use mathlib.Core.List.{List, ◌++◌}
use native.Mathlib.Numerals.{add-one}
use lib.Dec.{lit≤}
use lib.ListN.{length, take, drop, get_or, drop_of_length-le, take-append-drop}
use lib.Seq.{drop-cons, drop-drop}
use Rattle.bits.specs.Fields.{bits_of, number, run}
use Rattle.bits.proofs.Laws.{bits_of-part, run_append}
use Rattle.crc.specs.Crc.{register_from}
use Rattle.crc.proofs.Laws.{register_from_append}

-- one turn of a loop: the bits bs enter, and the rest is left
pub turn : (r : ℕ) (bs rest : List ℕ) {left : List ℕ} {next : ℕ} → left ≡ bs ++ rest → next ≡ register_from r bs → register_from next rest ≡ register_from r left
turn r bs rest e f = ap (λ (s : ℕ). register_from s rest) f ∙ sym (ap (register_from r) e ∙ register_from_append r bs rest)

-- the byte at i is the first of those that are left
pub byte_first : (m : List ℕ) (i : ℕ) → i < length m → run 8 (drop i m) ≡ bits_of 8 (get_or m i 0) ++ run 8 (drop (i + 1) m)
unfolding run
byte_first m i h = ap (run 8) (drop-cons m i 0 h) ∙ rw add-one

-- with no byte left the register stays
pub none_left : (r : ℕ) (m : List ℕ) (i : ℕ) → length m ≤ i → register_from r (run 8 (drop i m)) ≡ r
unfolding run register_from
none_left r m i h = ap (λ (l : List ℕ). register_from r (run 8 l)) (drop_of_length-le m h)

-- bytes enter one part after the other
pub parts_in : (s : ℕ) (m : List ℕ) (n : ℕ) → register_from (register_from s (run 8 (take n m))) (run 8 (drop n m)) ≡ register_from s (run 8 m)
parts_in s m n =
    sym (register_from_append s (run 8 (take n m)) (run 8 (drop n m)))
    ∙ ap (register_from s) (sym (run_append 8 (take n m) (drop n m)) ∙ ap (run 8) (take-append-drop n m))

-- the eight bytes at i, as one number, are the first of those that are left
pub long-first : (m : List ℕ) (i : ℕ) → i + 8 ≤ length m → {w : ℕ} → w ≡ number (run 8 (take (i + 8 - i) (drop i m))) % 2 ^ 64
    → run 8 (drop i m) ≡ bits_of 64 w ++ run 8 (drop (i + 8) m)
long-first m i h e =
    ap (run 8) (sym (take-append-drop 8 (drop i m))) ∙ run_append 8 (take 8 (drop i m)) (drop 8 (drop i m))
    ∙ ap₂ (λ (first rest : List ℕ). first ++ rest) (sym (bits_of-part 8 (lit≤ tt) m i h e)) (ap (run 8) (drop-drop 8 i m))
