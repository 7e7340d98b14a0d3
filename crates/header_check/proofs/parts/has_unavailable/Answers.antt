-- `has_unavailable` meets its contract, by the kind. Assumes nothing.
use mathlib.Core.Path.{sym, ap, ◌∙◌}
use Rattle.std.proofs.Common.{inl, inr}
use Rattle.bits.proofs.Laws.{fit_of}
use Rattle.setting.specs.declared.Kind.{Kind}
use Rattle.setting.specs.Rules.{some_unavailable}
use Rattle.header_layout.specs.Header.{reading}
use Rattle.header_check.proofs.Asked.{long_numbers, plain_numbers, extended_numbers}
use Rattle.header_check.proofs.parts.has_unavailable.Goals as goal

pub returns-in-Plain : goal.returns-in-Plain
returns-in-Plain c =
    let p = c.args.packet.now in
    let bytes = fit_of 8 p c.fits-packet in
    let read = long_numbers p c.told-packet in
    c.has_unavailable_half.ensures
    ∙ elim c.in-Plain.is [
      | inl e ↦ ap (some_unavailable c.args.availability) (read ∙ plain_numbers p bytes c.told-packet ∙ sym (ap (λ (k : Kind). (reading k p).relative_ts_number) e))
      | inr e ↦ ap (some_unavailable c.args.availability) (read ∙ extended_numbers p bytes c.told-packet ∙ sym (ap (λ (k : Kind). (reading k p).relative_ts_number) e))
    ]
