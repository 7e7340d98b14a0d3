-- `write_numbers` meets its contract, by the kind. Assumes nothing.
use Prim.Native.Nat.{ℕ, ◌*◌, ◌/◌, ◌%◌}
use mathlib.Core.Path.{◌≡◌, sym, ap, ◌∙◌}
use mathlib.Core.List.{List, [], ◌++◌, append-nil}
use native.Mathlib.Omega.{arith}
use Rattle.std.proofs.Common.{inl, inr}
use lib.ListN.{length, take}
use lib.Seq.{length-take-le}
use Rattle.bits.specs.Fields.{bits_of, run}
use Rattle.bits.specs.Halves.{halves_into}
use Rattle.bits.proofs.Halves.{halves_run}
use Rattle.slices.proofs.Front.{put}
use Rattle.counters.specs.Counters.{last_slot}
use Rattle.setting.specs.declared.Kind.{Kind}
use Rattle.setting.specs.Size.{size_of, slots_of, resized}
use Rattle.setting.proofs.Sizes.{resized_same, resized-take}
use Rattle.header_write.proofs.Lent.{all_lent}
use Rattle.header_write.proofs.writer.write_numbers.Goals as goal
use Rattle.header_write.proofs.writer.write_numbers.Goals.{Start}

-- how long the part is
bytes : (s : Start) {k : Kind} → s.args.kind ≡ k → length s.args.part.now ≡ slots_of k * (size_of k).number_bits / 8
bytes s e = s.requires.0 ∙ ap (λ (k : Kind). slots_of k * (size_of k).number_bits / 8) e

-- the numbers of the kind, in bits
numbers : (s : Start) {k : Kind} → s.args.kind ≡ k
    → run (size_of k).number_bits (resized (slots_of k) s.args.numbers.now) ≡ run (size_of s.args.kind).number_bits (resized (slots_of s.args.kind) s.args.numbers.now)
numbers s e = sym (ap (λ (k : Kind). run (size_of k).number_bits (resized (slots_of k) s.args.numbers.now)) e)

-- those of a long header, packed into all of the part
long : (part ns : List ℕ) → length part ≡ 26 → length ns ≡ last_slot → {own : List ℕ} → own ≡ halves_into (take 26 part) ns
    → run 8 (put 0 26 part own) ≡ run 4 (resized last_slot ns)
long part ns l e {own} h =
    let lent = length-take-le 26 part (omega arith) in
    ap (run 8) (all_lent 26 part own l ∙ h) ∙ halves_run (take 26 part) ns (omega (arith, lent)) ∙ ap (run 4) (sym (resized_same last_slot ns e))

pub slice_bounds-pack_halves-end : goal.slice_bounds-pack_halves-end
unfolding size_of
slice_bounds-pack_halves-end c =
    let start = (goal.at.slice_bounds-pack_halves-end c).Start in
    elim c.in-Plain.is [ inl e ↦ omega (arith, bytes start e) | inr e ↦ omega (arith, bytes start e) ]

pub slice_bounds-write_run-end : goal.slice_bounds-write_run-end
unfolding size_of
slice_bounds-write_run-end c = omega (arith, bytes (goal.at.slice_bounds-write_run-end c).Start c.in-Short.is)

pub returns-in-Plain : goal.returns-in-Plain
unfolding size_of
returns-in-Plain c =
    let start = (goal.at.returns-in-Plain c).Start in
    elim c.in-Plain.is [
      | inl e ↦ long c.args.part.now c.args.numbers.now (bytes start e) c.requires.1 c.pack_halves.ensures ∙ numbers start e
      | inr e ↦ long c.args.part.now c.args.numbers.now (bytes start e) c.requires.1 c.pack_halves.ensures ∙ numbers start e
    ]

pub returns-in-Short : goal.returns-in-Short
unfolding size_of bits_of
returns-in-Short c =
    let kind = c.in-Short.is in
    let ns = c.args.numbers.now in
    let own = c.write_run.new.part in
    let forty = length-take-le 40 ns (omega (arith, c.requires)) in
    let all : run 8 own ++ [] ≡ run 3 (take 40 ns) =
    sym (ap (λ (n : ℕ). run 8 own ++ bits_of (n * 3 % 8) c.write_run.result) forty) ∙ c.write_run.ensures in
    ap (run 8) (all_lent 15 c.args.part.now own (bytes (goal.at.returns-in-Short c).Start kind))
    ∙ sym (append-nil _) ∙ all ∙ ap (run 3) (sym (resized-take 40 ns (omega (arith, c.requires)))) ∙ numbers (goal.at.returns-in-Short c).Start kind
