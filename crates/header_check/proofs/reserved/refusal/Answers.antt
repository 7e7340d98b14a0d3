-- `refusal` meets its contract, check by check. Assumes nothing.
use Prim.Native.Nat.{ℕ, ◌-◌, ◌/◌, ◌%◌}
use mathlib.Core.Path.{◌≡◌, refl, ap, ◌∙◌}
use mathlib.Core.Bool.{cond, not}
use mathlib.Core.List.{List}
use Rattle.std.proofs.Common.{arith}
use Rattle.std.proofs.lemmas.Grind.{common_steps}
use lib.Dec.{eqb}
use lib.ListN.{length, get_or, drop}
use Rattle.bits.specs.Fields.{Fit}
use Rattle.bits.proofs.Laws.{fit_of}
use Rattle.setting.specs.declared.Kind.{Kind}
use Rattle.setting.specs.Size.{size_of}
use Rattle.setting.specs.Refusal.{first_of}
use Rattle.header_layout.specs.declared.Places.{Places}
use Rattle.header_layout.specs.Places.{places_of}
use Rattle.header_layout.specs.Header.{header_length, reserved_checks}
use Rattle.header_layout.proofs.Reserved.{reserved_are}
use Rattle.header_check.proofs.reserved.refusal.Goals as goal

-- the answer, by the bits that the code reads
by_bits : (kind : Kind) (p : List ℕ) (at : Places) → Fit 8 p → length p ≡ header_length → at ≡ places_of (size_of kind)
    → first_of (reserved_checks kind p) ≡
    cond (not (eqb (get_or p 4 0 / 32) 7)) 20
    (cond (not (eqb (get_or p (at.identifiers - 1) 0 % 2) 1)) 20
    (cond (not (eqb (get_or p (at.numbers - 1) 0 / 2 % 2) 1)) 20
    (first_of (drop 3 (reserved_checks kind p)))))
unfolding first_of places_of
by_bits kind p at f h e = ap first_of (reserved_are p f h kind) ∙ rw e

pub returns-then-packet-ne7 : goal.returns-then-packet-ne7
returns-then-packet-ne7 c =
    let p = c.args.packet.now in
    let e = by_bits c.args.kind p _ (fit_of 8 p c.fits-packet) c.told-packet refl in
    grind (arith, common_steps)

pub returns-then-packet-at-ne1 : goal.returns-then-packet-at-ne1
returns-then-packet-at-ne1 c =
    let p = c.args.packet.now in
    let e = by_bits c.args.kind p _ (fit_of 8 p c.fits-packet) c.told-packet c.places_of-at.ensures.value in
    grind (arith, common_steps)

pub returns-then-packet-at-ne1-2 : goal.returns-then-packet-at-ne1-2
returns-then-packet-at-ne1-2 c =
    let p = c.args.packet.now in
    let e = by_bits c.args.kind p _ (fit_of 8 p c.fits-packet) c.told-packet c.places_of-at.ensures.value in
    grind (arith, common_steps)

pub returns : goal.returns
returns c =
    let p = c.args.packet.now in
    let e = by_bits c.args.kind p _ (fit_of 8 p c.fits-packet) c.told-packet c.places_of-at.ensures.value in
    grind (arith, common_steps)
