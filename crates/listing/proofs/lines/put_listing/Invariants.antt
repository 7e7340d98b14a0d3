-- `put_listing` meets its contract: after n turns the buffer's front holds the lines of the first n packets. Assumes nothing.
use Prim.Native.Nat.{◌*◌, ◌≤◌}
use mathlib.Core.Path.{◌≡◌}
use lib.ListN.{length, drop}
use Rattle.std.specs.Iterator.Adapters.{enumerate_source, enumerate_count}
use Rattle.std.specs.Slice.Iter.{chunks_exact_rest, chunks_exact_size}
use Rattle.listing.specs.Text.{Puts}
use Rattle.listing.specs.Listing.{line_room, lines}
use Rattle.listing.proofs.lines.put_listing.Given as goal

abbrev pub invariant-loop-k : goal.invariant-loop-k
invariant-loop-k l =
    let n = enumerate_count l.k-iterator in
    (chunks_exact_rest (enumerate_source l.k-iterator) ≡ drop (188 * n) l.bytes)
    × (chunks_exact_size (enumerate_source l.k-iterator) ≡ 188)
    × (188 * n ≤ length l.bytes)
    × (l.at ≤ line_room * n)
    × Puts l.initial.out 0 (lines l.first l.bytes n) l.out l.at
