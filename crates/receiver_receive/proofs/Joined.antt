-- The numbers of a header. Assumes nothing.
use Prim.Native.Nat.{ℕ, ◌*◌, ◌^◌}
use mathlib.Core.Path.{◌≡◌, sym, ap, ◌∙◌}
use mathlib.Core.Bool.{false}
use mathlib.Core.List.{List}
use native.Mathlib.Omega.{arith}
use lib.ListN.{length, take, drop, length-drop}
use lib.Seq.{length-take-le}
use Rattle.bits.specs.Fields.{run}
use Rattle.bits.proofs.Laws.{length_cut}
use Rattle.slices.specs.Slices.{some_at_least}
use Rattle.counters.specs.Counters.{last_slot}
use Rattle.setting.specs.declared.Kind.{Kind}
use Rattle.setting.specs.Size.{size_of}
use Rattle.setting.proofs.Fields.{fit_some}
use Rattle.setting.proofs.Sizes.{resized_same}
use Rattle.header_layout.specs.Rows.{place, row_at}
use Rattle.header_layout.specs.Header.{reading}
use Rattle.header_layout.proofs.Cut.{part-row}
use Rattle.header_layout.proofs.LaidOut.{laid_out}
use Rattle.packet.specs.Packets.{packet_length}
use Rattle.receiver.specs.Packed.{packed_length, packed, unpacked}
use Rattle.receiver.proofs.Packing.{Long, plain, extended, packed-unpacked}

-- where a header of 52 slots has its numbers
abbrev start : ℕ
start = 73

abbrev pub own_of : List ℕ → List ℕ
own_of p = take packed_length (drop start p)

-- a packet has as many bytes from there on
pub length_own : (p : List ℕ) → length p ≡ packet_length → length (own_of p) ≡ packed_length
length_own p l = length-take-le packed_length (drop start p) (rw length-drop (omega (arith, l)))

long-said : {kind : Kind} → Long kind → (p : List ℕ) → length p ≡ packet_length → unpacked (own_of p) ≡ (reading kind p).relative_ts_number
unfolding unpacked reading laid_out size_of row_at place
long-said plain p l = part-row p start packed_length 4 last_slot (omega (arith, l)) (omega arith) ∙ sym (resized_same last_slot _ (length_cut 4 last_slot (drop (start * 8) (run 8 p))))
long-said extended p l = part-row p start packed_length 4 last_slot (omega (arith, l)) (omega arith) ∙ sym (resized_same last_slot _ (length_cut 4 last_slot (drop (start * 8) (run 8 p))))

-- the numbers of a long header are the bytes that it has them in
pub long_own : {kind : Kind} → Long kind → (p : List ℕ) → length p ≡ packet_length → some_at_least (2 ^ 8) (own_of p) ≡ false
    → own_of p ≡ packed (reading kind p).relative_ts_number
long_own long p l b = sym (ap packed (sym (long-said long p l)) ∙ packed-unpacked (own_of p) (length_own p l, fit_some 8 (own_of p) b))
