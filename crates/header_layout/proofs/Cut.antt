-- Fields cut from the bits of bytes, as byte-wise code reads them. Assumes nothing.
use Prim.Native.Nat.{ℕ, suc, ◌+◌, ◌*◌, ◌/◌, ◌%◌, ◌^◌, ◌≤◌, ◌<◌}
use mathlib.Core.Path.{◌≡◌, refl, sym, ap, ◌∙◌}
use mathlib.Core.List.{List, ◌++◌, append_assoc}
use native.Mathlib.Nat.{add-zero}
use native.Mathlib.Omega.{arith}
use lib.ListN.{length, get_or, take, drop, length-drop, take-append-drop}
use lib.Seq.{drop-cons, drop-drop, take_at, drop_at, length-take-le}
use Rattle.bits.specs.Fields.{Fit, bits_of, number, run, cut}
use Rattle.bits.proofs.Laws.{fit_get_d, fit_take, fit_drop, run_append, length_run, cut-run, cut-front, bits_of_split, bits_of_join, number-bits_of, length-bits_of, run_cons, run_drop}

-- of a field's bits, with others behind them, those from `off` on: w of them, of which r stand behind
field_in : (off w r x : ℕ) (rest : List ℕ) → number (take w (drop off (bits_of (off + (w + r)) x ++ rest))) ≡ x / 2 ^ r % 2 ^ w
field_in off w r x rest =
    let high = bits_of off (x / 2 ^ (w + r)) in
    let mid = bits_of w (x / 2 ^ r) in
    ap (λ (l : List ℕ). number (take w (drop off l)))
    (ap (λ (l : List ℕ). l ++ rest) (bits_of_split off (w + r) x ∙ ap (λ (l : List ℕ). high ++ l) (bits_of_split w r x))
    ∙ append_assoc high (mid ++ bits_of r x) rest ∙ ap (λ (l : List ℕ). high ++ l) (append_assoc mid (bits_of r x) rest))
    ∙ ap (λ (l : List ℕ). number (take w l)) (drop_at high (mid ++ (bits_of r x ++ rest)) off (length-bits_of off (x / 2 ^ (w + r))))
    ∙ ap number (take_at mid (bits_of r x ++ rest) w (length-bits_of w (x / 2 ^ r)))
    ∙ number-bits_of w (x / 2 ^ r)

-- the bits from a byte on
from_byte : (p : List ℕ) (at : ℕ) → at < length p → drop (at * 8) (run 8 p) ≡ bits_of 8 (get_or p at 0) ++ run 8 (drop (suc at) p)
from_byte p at h =
    sym (run_drop 8 at p) ∙ ap (run 8) (drop-cons p at 0 h) ∙ run_cons 8 (get_or p at 0) (drop (suc at) p)

-- the number of two bytes
abbrev pub word_at : List ℕ → ℕ → ℕ
word_at p at = get_or p at 0 * 256 + get_or p (suc at) 0

from_word : (p : List ℕ) → Fit 8 p → (at : ℕ) → suc at < length p → drop (at * 8) (run 8 p) ≡ bits_of 16 (word_at p at) ++ run 8 (drop (suc (suc at)) p)
from_word p f at h =
    from_byte p at (omega arith)
    ∙ ap (λ (l : List ℕ). bits_of 8 (get_or p at 0) ++ l)
    (ap (run 8) (drop-cons p (suc at) 0 h) ∙ run_cons 8 (get_or p (suc at) 0) (drop (suc (suc at)) p))
    ∙ sym (append_assoc (bits_of 8 (get_or p at 0)) (bits_of 8 (get_or p (suc at) 0)) (run 8 (drop (suc (suc at)) p)))
    ∙ ap (λ (l : List ℕ). l ++ run 8 (drop (suc (suc at)) p)) (bits_of_join 8 8 (get_or p at 0) (fit_get_d f (suc at)))

-- w bits of a byte, `off` bits into it, and of two bytes
module _ (p : List ℕ) (at off w r : ℕ) where
  pub byte_field : at < length p → off + (w + r) ≡ 8 → number (take w (drop (at * 8 + off) (run 8 p))) ≡ get_or p at 0 / 2 ^ r % 2 ^ w
  byte_field h e =
      ap (λ (l : List ℕ). number (take w l))
      (sym (drop-drop off (at * 8) (run 8 p))
      ∙ ap (drop off) (from_byte p at h ∙ ap (λ (n : ℕ). bits_of n (get_or p at 0) ++ run 8 (drop (suc at) p)) (sym e)))
      ∙ field_in off w r (get_or p at 0) (run 8 (drop (suc at) p))

  pub word_field : Fit 8 p → suc at < length p → off + (w + r) ≡ 16 → number (take w (drop (at * 8 + off) (run 8 p))) ≡ word_at p at / 2 ^ r % 2 ^ w
  word_field f h e =
      ap (λ (l : List ℕ). number (take w l))
      (sym (drop-drop off (at * 8) (run 8 p))
      ∙ ap (drop off) (from_word p f at h ∙ ap (λ (n : ℕ). bits_of n (word_at p at) ++ run 8 (drop (suc (suc at)) p)) (sym e)))
      ∙ field_in off w r (word_at p at) (run 8 (drop (suc (suc at)) p))

-- two whole bytes
pub number-word_at : (p : List ℕ) (at : ℕ) → Fit 8 p → suc at < length p → number (take 16 (drop (at * 8) (run 8 p))) ≡ word_at p at
number-word_at p at f h =
    ap (λ (n : ℕ). number (take 16 (drop n (run 8 p)))) (sym (add-zero (at * 8))) ∙ word_field p at 0 16 0 f h refl
    ∙ omega (arith, fit_get_d f at, fit_get_d f (suc at))

-- ---- runs of fields in a part of whole bytes

-- the bits from a byte on are those of a part that starts there, and others
part_bits : (p : List ℕ) (at len : ℕ) → drop (at * 8) (run 8 p) ≡ run 8 (take len (drop at p)) ++ run 8 (drop len (drop at p))
part_bits p at len =
    sym (run_drop 8 at p) ∙ ap (run 8) (sym (take-append-drop len (drop at p))) ∙ run_append 8 (take len (drop at p)) (drop len (drop at p))

pub length_part : (p : List ℕ) (at len : ℕ) → at + len ≤ length p → length (take len (drop at p)) ≡ len
length_part p at len h = length-take-le len (drop at p) (rw length-drop (omega arith))

-- values cut from such a part are values of the whole
pub part-row : (p : List ℕ) (at len w n : ℕ) → at + len ≤ length p → n * w ≤ len * 8
    → cut w n (run 8 (take len (drop at p))) ≡ cut w n (drop (at * 8) (run 8 p))
part-row p at len w n h g =
    let fits : n * w ≤ length (run 8 (take len (drop at p))) = rw (length_run, length_part p at len h) g in
    sym (ap (cut w n) (part_bits p at len) ∙ cut-front w n (run 8 (take len (drop at p))) (run 8 (drop len (drop at p))) fits)

-- whole bytes
pub byte_row : (p : List ℕ) (at len : ℕ) → Fit 8 p → at + len ≤ length p → take len (drop at p) ≡ cut 8 len (drop (at * 8) (run 8 p))
byte_row p at len f h =
    sym (ap (cut 8 len) (part_bits p at len) ∙ ap (λ (n : ℕ). cut 8 n (run 8 (take len (drop at p)) ++ run 8 (drop len (drop at p)))) (sym (length_part p at len h))
    ∙ cut-run (fit_take len (fit_drop at f)) (run 8 (drop len (drop at p))))
