-- `write_streams` meets its contract, by the kind. Assumes nothing.
use Prim.Native.Nat.{ℕ, ◌+◌, ◌/◌}
use mathlib.Core.Path.{◌≡◌, refl, sym, ap, ◌∙◌}
use native.Mathlib.Omega.{arith}
use lib.ListN.{length, length-set}
use Rattle.std.proofs.Common.{inl, inr}
use Rattle.bits.specs.Fields.{run}
use Rattle.counters.specs.Counters.{last_stream, last_short_stream}
use Rattle.setting.specs.declared.Setting.{Setting}
use Rattle.setting.specs.Size.{size_of}
use Rattle.setting_bytes.proofs.InBytes.{setting_in, setting_of-in}
use Rattle.slices.proofs.Front.{stored}
use Rattle.header_layout.specs.Layout.{stream_table}
use Rattle.header_layout.specs.Header.{line_bits}
use Rattle.header_layout.proofs.Start.{fifteen_bytes, fifteen_bits, seven_bytes, seven_bits}
use Rattle.header_write.proofs.writer.write_streams.Goals as goal
use Rattle.header_write.proofs.writer.write_streams.Goals.{In-Plain, In-Short}

-- the streams of the kind, and the bytes of their availability
fifteen : (c : In-Plain) → (size_of c.args.kind).streams ≡ last_stream
unfolding size_of
fifteen c = elim c.in-Plain.is [ inl e ↦ rw e refl | inr e ↦ rw e refl ]

two_bytes : (c : In-Plain) → length c.args.part.now ≡ 2
two_bytes c = c.requires ∙ ap (λ (n : ℕ). (n + 1) / 8) (fifteen c)

seven : (c : In-Short) → (size_of c.args.kind).streams ≡ last_short_stream
unfolding size_of
seven c = rw c.in-Short.is refl

one_byte : (c : In-Short) → length c.args.part.now ≡ 1
one_byte c = c.requires ∙ ap (λ (n : ℕ). (n + 1) / 8) (seven c)

pub bounds-part-0 : goal.bounds-part-0
bounds-part-0 c = let long = two_bytes (goal.at.bounds-part-0 c).In-Plain in omega arith

pub bounds-part-1 : goal.bounds-part-1
bounds-part-1 c = let long = two_bytes (goal.at.bounds-part-1 c).In-Plain in simp length-set (omega arith)

pub bounds-part-0-in-Short : goal.bounds-part-0-in-Short
bounds-part-0-in-Short c = let long = one_byte (goal.at.bounds-part-0-in-Short c).In-Short in omega arith

pub returns-in-Plain : goal.returns-in-Plain
returns-in-Plain c pid =
    let at = (goal.at.returns-in-Plain c).In-Plain in
    let z = size_of c.args.kind in
    let b = c.args.setting.now in
    ap (run 8) (rw c.word-availability.ensures (stored (fifteen_bytes (setting_in b)) c.args.part.now (two_bytes at))) ∙ fifteen_bits z pid (setting_in b) (fifteen at)
    ∙ ap (λ (s : Setting). line_bits z pid s (stream_table z)) (sym (setting_of-in b c.told-setting))

pub returns-in-Short : goal.returns-in-Short
returns-in-Short c pid =
    let at = (goal.at.returns-in-Short c).In-Short in
    let z = size_of c.args.kind in
    let b = c.args.setting.now in
    ap (run 8) (rw c.word-availability.ensures (stored (seven_bytes (setting_in b)) c.args.part.now (one_byte at))) ∙ seven_bits z pid (setting_in b) (seven at)
    ∙ ap (λ (s : Setting). line_bits z pid s (stream_table z)) (sym (setting_of-in b c.told-setting))
