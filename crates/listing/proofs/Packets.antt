-- Laws of the lines of a recording: none yet, one more, all. Assumes nothing.
use Prim.Native.Nat.{ℕ, ◌+◌, ◌-◌, ◌*◌, ◌%◌, ◌≤◌, ◌<◌}
use mathlib.Core.Path.{◌≡◌, refl, sym, ap, ◌∙◌}
use mathlib.Core.List.{List, [], ◌++◌}
use native.Mathlib.Numerals.{add-one}
use native.Mathlib.Omega.{arith}
use lib.ListN.{length, take, drop, length-append, length-drop}
use lib.Seq.{take_at, drop_at, drop-drop}
use Rattle.listing.specs.Listing.{packets_in, line, lines, tail_line, listing}

module _ (first : ℕ) (bytes : List ℕ) where
  pub lines_none : lines first bytes 0 ≡ []
  unfolding lines
  lines_none = refl

  -- the line of packet n
  pub lines_more : (n : ℕ) (packet : List ℕ) → take 188 (drop (188 * n) bytes) ≡ packet → lines first bytes n ++ line (first + n) packet ≡ lines first bytes (n + 1)
  unfolding lines
  lines_more n packet e = rw (add-one, e)

  -- packet n, in front of what is left of the recording
  pub next_packet : (n : ℕ) (packet rest : List ℕ) → drop (188 * n) bytes ≡ packet ++ rest → length packet ≡ 188
      → (take 188 (drop (188 * n) bytes) ≡ packet) × (rest ≡ drop (188 * (n + 1)) bytes) × (188 * (n + 1) ≤ length bytes)
  next_packet n packet rest e long =
      let next : 188 * n + 188 ≡ 188 * (n + 1) = omega arith in
      let whole : length bytes - 188 * n ≡ 188 + length rest = sym (length-drop (188 * n) bytes) ∙ ap length e ∙ length-append packet rest ∙ ap (λ (k : ℕ). k + length rest) long in (
        ap (take 188) e ∙ take_at packet rest 188 long,
        sym (drop_at packet rest 188 long) ∙ ap (drop 188) (sym e) ∙ drop-drop 188 (188 * n) bytes ∙ ap (λ (k : ℕ). drop k bytes) next,
        omega arith,
      )

  -- the lines of all packets, and what is left over
  pub lines-all :
      (n : ℕ) → 188 * n ≤ length bytes → length bytes - 188 * n < 188 → lines first bytes n ++ tail_line (length bytes % 188) ≡ listing first bytes
  unfolding listing
  lines-all n h last =
      let packets : packets_in (length bytes) ≡ n = omega arith in
      rw packets
