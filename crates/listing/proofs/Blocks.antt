-- A recording that is listed block by block is listed whole. Assumes nothing.
use Prim.Native.Nat.{ℕ, zero, suc, ◌+◌, ◌*◌, ◌/◌, ◌%◌, ◌≤◌, ◌<◌}
use mathlib.Core.Path.{◌≡◌, refl, ap₂}
use mathlib.Core.List.{List, [], ◌++◌, append_assoc, append-nil}
use native.Mathlib.Nat.{add_assoc, add-suc, add-zero}
use native.Mathlib.Omega.{arith}
use lib.ListN.{length, drop, length-append, length-drop}
use lib.Seq.{take-append-le, drop-append-le, drop-append-add}
use Rattle.listing.specs.Listing.{packet_at, line, lines, tail_line, listing, ByBlocks}

module _ (first n : ℕ) (block rest : List ℕ) (whole : length block ≡ 188 * n) where
  -- the packets of the block, and those behind it
  front : (k : ℕ) → k < n → packet_at (block ++ rest) k ≡ packet_at block k
  front k h =
      let within : 188 ≤ length (drop (188 * k) block) = simp length-drop (omega arith) in
      rw (drop-append-le (188 * k) block rest (omega arith), take-append-le 188 (drop (188 * k) block) rest)

  behind : (k : ℕ) → packet_at (block ++ rest) (n + k) ≡ packet_at rest k
  behind k =
      let place : 188 * (n + k) ≡ length block + 188 * k = omega arith in
      rw (place, drop-append-add)

  block_lines : (k : ℕ) → k ≤ n → lines first (block ++ rest) k ≡ lines first block k
  unfolding lines
  block_lines zero h = refl
  block_lines (suc k) h = ap₂ (λ (a b : List ℕ). a ++ line (first + k) b) (block_lines k (omega arith)) (front k (omega arith))

  all_lines : (k : ℕ) → lines first (block ++ rest) (n + k) ≡ lines first block n ++ lines (first + n) rest k
  unfolding lines
  all_lines zero = rw (add-zero, append-nil) (block_lines n (omega arith))
  all_lines (suc k) =
      rw (add-suc, all_lines k, behind k, ← add_assoc, append_assoc)

  no_tail : tail_line 0 ≡ []
  unfolding tail_line
  no_tail = refl

  pub by_block : listing first (block ++ rest) ≡ listing first block ++ listing (first + n) rest
  unfolding listing
  by_block =
      let packets : length (block ++ rest) / 188 ≡ n + length rest / 188 = simp length-append (omega arith) in
      let left : length (block ++ rest) % 188 ≡ length rest % 188 = simp length-append (omega arith) in
      let full : length block / 188 ≡ n = omega arith in
      let none : length block % 188 ≡ 0 = omega arith in
      rw (packets, left, full, none, no_tail, all_lines (length rest / 188), append-nil (lines first block n)) (append_assoc (lines first block n) (lines (first + n) rest (length rest / 188)) (tail_line (length rest % 188)))

pub by_blocks : ByBlocks
by_blocks first n block rest whole = by_block first n block rest whole
