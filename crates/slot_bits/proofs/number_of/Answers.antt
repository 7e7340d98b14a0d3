-- `number_of` meets its contract: the bytes before a byte are added up. Assumes nothing.
use Prim.Native.Nat.{ℕ, ◌+◌, ◌-◌, ◌*◌, ◌%◌, ◌^◌, ◌≤◌, ◌<◌}
use mathlib.Core.Path.{◌≡◌, ap, subst, ◌∙◌}
use native.Mathlib.Nat.{mul-le-mul_right}
use native.Mathlib.Omega.{arith}
use borrow.Author.Rules.{rules}
use lib.ListN.{length, take, drop, drop_of_length-le}
use lib.Pow.{pow-add, pow_mono, shl_exact}
use Rattle.slot_bits.specs.Bits.{total, in_bytes}
use Rattle.slot_bits.proofs.Bytes.{byte_first}
use Rattle.slot_bits.proofs.number_of.Goals as goal
use Rattle.slot_bits.proofs.number_of.Goals.{After-byte_of}

-- a byte in its place, which is within the number
module _ (c : After-byte_of) where
  abbrev at : ℕ
  at = 8 * c.loop-byte.byte

  shifted : c.byte_of.result * 2 ^ at % 2 ^ 64 ≡ c.byte_of.result * 2 ^ at
  shifted = shl_exact 11 at 64 (omega arith) (omega arith)

  next : 2 ^ (8 * (c.loop-byte.byte + 1)) ≡ 256 * 2 ^ at
  next = let more : 8 * (c.loop-byte.byte + 1) ≡ 8 + at = omega arith in ap (λ (k : ℕ). 2 ^ k) more ∙ pow-add 2 8 at

  within : c.loop-byte.number + c.byte_of.result * 2 ^ at + 8 ≤ 8 * 2 ^ (8 * (c.loop-byte.byte + 1))
  within =
      let most = mul-le-mul_right (2 ^ at) c.byte_of.ensures.upper_bound in
      omega (arith, next, c.loop-byte.invariant.0)

  narrow : c.loop-byte.number + c.byte_of.result * 2 ^ at < 2 ^ 64
  narrow =
      let last : 8 * (c.loop-byte.byte + 1) ≤ 56 = omega arith in
      let most : 2 ^ (8 * (c.loop-byte.byte + 1)) ≤ 2 ^ 56 = pow_mono last in
      omega (arith, within)

pub overflow_add-number : goal.overflow_add-number
overflow_add-number c = omega (arith, shifted (goal.at.overflow_add-number c).After-byte_of, narrow (goal.at.overflow_add-number c).After-byte_of)

pub loop-byte-preserved : goal.loop-byte-preserved
loop-byte-preserved c =
    let bits = c.args.bits.now in
    let eight : at (goal.at.loop-byte-preserved c).After-byte_of + 8 - at (goal.at.loop-byte-preserved c).After-byte_of ≡ 8 = omega arith in
    let byte = c.byte_of.ensures.value ∙ ap (λ (n : ℕ). total (take n (drop (at (goal.at.loop-byte-preserved c).After-byte_of) bits))) eight in
    let placed = ap (λ (n : ℕ). n * 2 ^ at (goal.at.loop-byte-preserved c).After-byte_of) byte in
    (omega (arith, shifted (goal.at.loop-byte-preserved c).After-byte_of, within (goal.at.loop-byte-preserved c).After-byte_of), omega (arith, shifted (goal.at.loop-byte-preserved c).After-byte_of, c.loop-byte.invariant.1, byte_first bits c.loop-byte.byte, placed))

pub returns : goal.returns
unfolding in_bytes
returns c =
    let bits = c.args.bits.now in
    let number = c.loop-byte.number in
    let all : 8 * c.loop-byte.byte ≡ 56 = omega arith in
    let long : length bits ≡ 56 = search rules in
    let none : in_bytes (8 * c.loop-byte.byte) (drop (8 * c.loop-byte.byte) bits) ≡ 0 =
    ap (λ (k : ℕ). in_bytes k (drop k bits)) all ∙ ap (in_bytes 56) (drop_of_length-le bits {i = 56} (omega arith)) in
    let most : number + 8 ≤ 8 * 2 ^ 56 = subst (λ (k : ℕ). number + 8 ≤ 8 * 2 ^ k) all c.loop-byte.invariant.0 in record {
      value = omega (arith, none, c.loop-byte.invariant.1);
      upper_bound = omega arith;
    }
