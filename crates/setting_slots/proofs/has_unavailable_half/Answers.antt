-- `has_unavailable_half` meets its contract: it has found what is among the halves of the bytes before byte i. Assumes nothing.
use Prim.Native.Nat.{ℕ, ◌+◌, ◌*◌, ◌/◌, ◌%◌, ◌<◌}
use mathlib.Core.Path.{◌≡◌, sym, ap, ap₂, ◌∙◌}
use mathlib.Core.Bool.{Bool, ◌||◌, or_assoc}
use native.Mathlib.Omega.{arith}
use lib.ListN.{length, get_or}
use Rattle.bits.proofs.Laws.{length_cut}
use Rattle.bits.proofs.Halves.{halves, both_halves}
use Rattle.slices.specs.Slices.{any_below}
use Rattle.slices.proofs.Any.{any_none, any_next}
use Rattle.setting.specs.Rules.{unavailable, some_unavailable}
use Rattle.setting_slots.proofs.Unavailable.{its_bit}
use Rattle.setting_slots.proofs.has_unavailable_half.Goals as goal

pub loop-byte-init : goal.loop-byte-init
loop-byte-init c = any_none _

pub loop-byte-preserved : goal.loop-byte-preserved
loop-byte-preserved c =
    let turn = c.loop-byte in
    let args = c.args in
    let bit = its_bit args.availability c.allowed_by-allowed.ensures in
    let bs = args.bytes.now in
    let i = turn.byte-index in
    let b = get_or bs i 0 in
    let inside : i < length bs = omega arith in
    let two = both_halves bs i inside in
    let byte = c.type_inv.bytes i in
    let whole : b / 16 % 16 ≡ b / 16 = omega (arith, byte) in
    let test : ℕ → Bool = λ k. unavailable args.availability (get_or (halves bs) k 0) in
    let next : 2 * (i + 1) ≡ 2 * i + 1 + 1 = omega arith in
    ap (λ (k : ℕ). any_below k test) next ∙ any_next test (2 * i + 1)
    ∙ ap₂ ◌||◌
    (any_next test (2 * i) ∙ ap₂ ◌||◌ turn.invariant (ap (unavailable args.availability) (two.0 ∙ whole) ∙ sym (c.is_barred.ensures ∙ bit (b / 16) (omega (arith, byte)))))
    (ap (unavailable args.availability) two.1 ∙ sym (c.is_barred-in-loop-byte.ensures ∙ bit (b % 16) (omega arith)))
    ∙ or_assoc turn.found c.is_barred.result c.is_barred-in-loop-byte.result

pub returns : goal.returns
unfolding some_unavailable
returns c =
    let turn = c.loop-byte in
    let args = c.args in
    let bs = args.bytes.now in
    let all : 2 * turn.byte-index ≡ 2 * length bs = omega arith in
    sym (ap (λ (n : ℕ). any_below n (λ k. unavailable args.availability (get_or (halves bs) k 0))) (length_cut 4 (2 * length bs) _ ∙ sym all) ∙ turn.invariant)
