-- `renumber` meets its contract: the bytes of a long header, or packed numbers. Assumes nothing.
use Prim.Native.Nat.{ℕ}
use mathlib.Core.Path.{◌≡◌, refl, sym, ap, subst, ◌∙◌}
use mathlib.Core.List.{List, ◌++◌}
use mathlib.Core.Logic.{inl, inr}
use borrow.Author.Tests.{eq-eqb}
use lib.ListN.{length, take}
use Rattle.bits.specs.Halves.{halves_into}
use Rattle.bits.proofs.Halves.{halves-packed}
use Rattle.setting.specs.declared.Kind.{Kind}
use Rattle.setting.proofs.Sizes.{length-resized}
use Rattle.counters.specs.Counters.{last_slot}
use Rattle.header_layout.specs.Header.{reading}
use Rattle.packet.specs.Packets.{packet_length}
use Rattle.header_check.specs.Checking.{numbers_into}
use Rattle.receiver.specs.Packed.{packed_length, packed}
use Rattle.receiver.proofs.Packing.{Long, plain, extended}
use Rattle.receiver_receive.proofs.Joined.{long_own}
use Rattle.receiver_receive.proofs.renumber.Goals as goal

pub returns-in-Plain : goal.returns-in-Plain
returns-in-Plain c =
    let long : Long c.args.kind = elim c.in-Plain.is [ inl e ↦ subst Long (sym e) plain | inr e ↦ subst Long (sym e) extended ] in
    c.renew.ensures.numbers_after
    ∙ ap (λ (own : List ℕ). own ++ take packed_length c.args.numbers.now) (long_own long c.args.packet.now c.requires.1 c.renew.ensures.own_value)

pub returns-in-Short : goal.returns-in-Short
unfolding numbers_into reading packed
returns-in-Short c =
    let p = c.args.packet.now in
    let said : c.read_numbers.new.numbers ≡ (reading Kind.Short p).relative_ts_number = c.read_numbers.ensures ∙ rw (eq-eqb (length p) packet_length c.requires.1) refl in
    c.renew-in-Short.ensures.numbers_after
    ∙ ap (λ (own : List ℕ). own ++ take packed_length c.args.numbers.now)
    (c.pack_halves.ensures ∙ ap (halves_into _) said ∙ halves-packed _ _ (length-resized last_slot _))
    ∙ sym (ap (λ (k : Kind). packed (reading k p).relative_ts_number ++ take packed_length c.args.numbers.now) c.in-Short.is)
