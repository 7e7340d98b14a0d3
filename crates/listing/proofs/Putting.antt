-- Laws of text put into a buffer: a part copied over, one byte, one text behind another. Assumes nothing.
use Prim.Native.Nat.{ℕ, ◌+◌, ◌≤◌, ◌<◌}
use mathlib.Core.Path.{◌≡◌, refl, sym, ap, ◌∙◌}
use mathlib.Core.List.{List, [], ◌∷◌, ◌++◌, append_assoc, append-nil}
use native.Mathlib.Omega.{arith}
use native.Mathlib.Nat.{add_assoc, add-zero}
use native.Mathlib.Numerals.{add-one}
use lib.ListN.{length, take, drop, set, length-append, length-drop, drop_of_length-le, take-append-drop}
use lib.Seq.{length-take-le, set_split, take_at, drop-append-add, drop-drop, take-length}
use Rattle.slices.specs.Slices.{copied}
use Rattle.listing.specs.Text.{Puts}

-- nothing is put
pub puts_none : (d : List ℕ) (at : ℕ) → Puts d at [] d at
puts_none d at = record { is = rw (add-zero, take-append-drop); behind = sym (add-zero at) }

-- a text as long as a part is copied over the part
pub puts_copied :
    (d : List ℕ) (at n : ℕ) (text : List ℕ) → n ≡ length text → at + length text ≤ length d
    → Puts d at text (take at d ++ (copied (take n (drop at d)) text ++ drop n (drop at d))) (at + length text)
unfolding copied
puts_copied d at n text e h =
    let long : length (take n (drop at d)) ≡ length text = length-take-le n (drop at d) (simp length-drop (omega arith)) ∙ e in
    record {
      is =
          rw (long, take-length text, drop_of_length-le (take n (drop at d)) {i = length text} (omega arith), append-nil text, drop-drop n at d, e);
      behind = refl;
    }

-- one byte
puts_one : (d : List ℕ) (at b : ℕ) → at < length d → Puts d at (b ∷ []) (set d at b) (at + 1)
puts_one d at b h =
    record { is = set_split d at b h ∙ ap (λ (k : ℕ). take at d ++ (b ∷ drop k d)) (sym (add-one at)); behind = refl }

module _ {d : List ℕ} {at : ℕ} {s : List ℕ} {e : List ℕ} {m : ℕ} (p : Puts d at s e m) where
  puts_length : m ≤ length d → length e ≡ length d
  puts_length h =
      let b = p.behind in
      let l : length (take at d) ≡ at = length-take-le at d (omega arith) in
      ap length p.is ∙ simp (length-append, l, length-drop) (omega arith)

  -- a text behind it
  pub puts_then : {t : List ℕ} {f : List ℕ} {n : ℕ} → Puts e m t f n → m ≤ length d → Puts d at (s ++ t) f n
  puts_then {t} {f} {n} q h =
      let b = p.behind in
      let front = take at d ++ s in
      let rest = drop (at + length s) d in
      let long : length front ≡ m = simp (length-append, length-take-le at d (omega arith)) (sym p.behind) in
      let whole : e ≡ front ++ rest = p.is ∙ sym (append_assoc (take at d) s rest) in
      let first : take m e ≡ front = ap (take m) whole ∙ take_at front rest m long in
      let last : drop (m + length t) e ≡ drop (at + length (s ++ t)) d =
      rw (whole, ← long) (drop-append-add front rest (length t)) ∙ drop-drop (length t) (at + length s) d ∙ rw (length-append, add_assoc) in
      record {
        is = q.is ∙ rw (first, last, append_assoc s t) (append_assoc (take at d) s (t ++ drop (at + length (s ++ t)) d));
        behind = q.behind ∙ rw (p.behind, length-append, add_assoc);
      }

  -- a byte behind it
  pub puts_byte : (b : ℕ) → m < length d → Puts d at (s ++ (b ∷ [])) (set e m b) (m + 1)
  puts_byte b h =
      let within : m < length e = rw (puts_length (omega arith)) h in
      puts_then (puts_one e m b within) (omega arith)
