-- `read_numbers` meets its contract. Assumes nothing.
use mathlib.Core.Path.{refl, ap, ◌∙◌}
use Prim.Native.Nat.{ℕ}
use mathlib.Core.List.{List}
use borrow.Author.Tests.{eq-eqb, ne_eqb}
use lib.ListN.{length}
use Rattle.counters.specs.Counters.{last_slot}
use Rattle.header_layout.specs.Header.{header_length, reading}
use Rattle.header_check.specs.Checking.{numbers_into}
use Rattle.header_check.proofs.read_numbers.Goals as goal

pub returns-then-numbers-ne-SLOTS : goal.returns-then-numbers-ne-SLOTS
unfolding numbers_into
returns-then-numbers-ne-SLOTS c = rw (ne_eqb (length c.args.numbers.now) last_slot c.if-numbers-ne-SLOTS.true) refl

pub returns-in_default : goal.returns-in_default
unfolding numbers_into
returns-in_default c =
    let a = c.args in
    let long = eq-eqb (length a.numbers.now) last_slot c.if-numbers-ne-SLOTS.false in
    rw (long, ne_eqb (length a.packet.now) header_length c.in_default.ensures.cases) refl

pub returns : goal.returns
unfolding numbers_into
returns c =
    let a = c.args in
    let whole = c.in-Some.ensures.cases in
    let long = eq-eqb (length a.numbers.now) last_slot c.if-numbers-ne-SLOTS.false in
    c.read_numbers.ensures
    ∙ ap (λ (p : List ℕ). (reading a.kind p).relative_ts_number) whole.same
    ∙ rw (long, eq-eqb (length a.packet.now) header_length whole.long) refl
