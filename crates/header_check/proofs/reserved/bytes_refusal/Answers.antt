-- `bytes_refusal` meets its contract, by the kind. Assumes nothing.
use mathlib.Core.Path.{◌≡◌, sym, ap, ◌∙◌}
use mathlib.Core.List.{[], ◌∷◌}
use mathlib.Core.Logic.{inl, inr}
use lib.ListN.{drop}
use Rattle.bits.proofs.Laws.{fit_of}
use Rattle.setting.specs.Refusal.{first_of}
use Rattle.setting.proofs.Refusals.{answers, passed}
use Rattle.header_layout.specs.Header.{reserved_checks}
use Rattle.header_layout.proofs.Reserved.{plain_bytes, short-bytes, extended-bytes}
use Rattle.header_check.proofs.reserved.bytes_refusal.Goals as goal
use Rattle.header_check.proofs.reserved.bytes_refusal.Goals.{After-some_other}

-- the check of an extended header is the one that the call answers
asked : (c : After-some_other) → drop 3 (reserved_checks c.args.kind c.args.packet.now) ≡ (20, c.some_other.result) ∷ []
asked c =
    let p = c.args.packet.now in
    extended-bytes p (fit_of 8 p c.fits-packet) c.told-packet c.in-Extended.is
    ∙ ap (λ b. (20, b) ∷ []) (sym c.some_other.ensures)

pub returns-then-some_other : goal.returns-then-some_other
returns-then-some_other c = sym (ap first_of (asked (goal.at.returns-then-some_other c).After-some_other) ∙ answers 20 [] c.if-some_other.true)

pub returns-in-Plain : goal.returns-in-Plain
returns-in-Plain c = sym (elim c.in-Plain.is [ inl e ↦ plain_bytes c.args.packet.now e | inr e ↦ short-bytes c.args.packet.now e ])

pub returns-else-some_other : goal.returns-else-some_other
unfolding first_of
returns-else-some_other c = sym (ap first_of (asked (goal.at.returns-else-some_other c).After-some_other) ∙ passed 20 [] c.if-some_other.false)
