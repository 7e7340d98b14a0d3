-- `read_auxiliary` meets its contract, by the kind. Assumes nothing.
use Prim.Native.Nat.{ℕ}
use mathlib.Core.Path.{◌≡◌, sym, ap, ◌∙◌}
use native.Mathlib.Omega.{arith}
use Rattle.std.proofs.Common.{inl, inr}
use lib.ListN.{length, take, drop, replicate}
use Rattle.bits.proofs.Laws.{fit_of}
use Rattle.setting.specs.declared.Kind.{Kind}
use Rattle.setting.specs.Setting.{auxiliary_bytes}
use Rattle.setting.specs.Size.{size_of}
use Rattle.header_layout.specs.Header.{reading}
use Rattle.header_layout.proofs.Cut.{length_part}
use Rattle.header_layout.proofs.Private.{copied_all}
use Rattle.header_layout.proofs.Said.{auxiliaries_are}
use Rattle.header_read.proofs.reader.read_auxiliary.Goals as goal

pub returns-in-Plain : goal.returns-in-Plain
returns-in-Plain c =
    let p = c.args.packet.now in
    let bytes = fit_of 8 p c.fits-packet in
    c.fill.ensures ∙ ap (λ (n : ℕ). replicate n 0) c.requires
    ∙ elim c.in-Plain.is [
      | inl e ↦ auxiliaries_are p bytes c.told-packet Kind.Plain ∙ sym (ap (λ (k : Kind). (reading k p).auxiliary) e)
      | inr e ↦ auxiliaries_are p bytes c.told-packet Kind.Short ∙ sym (ap (λ (k : Kind). (reading k p).auxiliary) e)
    ]

pub returns-in-Extended : goal.returns-in-Extended
unfolding size_of
returns-in-Extended c =
    let p = c.args.packet.now in
    let bytes = fit_of 8 p c.fits-packet in
    let whole : length (take auxiliary_bytes (drop 99 p)) ≡ auxiliary_bytes = length_part p 99 auxiliary_bytes (omega arith) in
    c.copy.ensures ∙ copied_all c.args.part.now (take auxiliary_bytes (drop 99 p)) (c.requires ∙ sym whole)
    ∙ auxiliaries_are p bytes c.told-packet Kind.Extended
    ∙ sym (ap (λ (k : Kind). (reading k p).auxiliary) c.in-Extended.is)
