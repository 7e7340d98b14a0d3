-- `some_alike` meets its contract: where none before stream j + 1 was alike, none makes a pair. Assumes nothing.
use Prim.Native.Nat.{ℕ, ◌+◌, ◌*◌, ◌/◌, ◌%◌, ◌^◌, ◌<◌}
use mathlib.Core.Path.{◌≡◌, sym, ◌∙◌}
use mathlib.Core.Bool.{false}
use mathlib.Core.List.{List}
use native.Mathlib.Nat.{mod-lt}
use native.Mathlib.Omega.{arith}
use borrow.Author.Tests.{eqb-false}
use lib.Dec.{eqb, lit<}
use lib.ListN.{length}
use lib.Pow.{shl_exact}
use Rattle.slices.proofs.Any.{neither}
use Rattle.counters.specs.Counters.{last_stream}
use Rattle.setting.specs.Rules.{pair_twice}
use Rattle.setting_pairs.specs.Identifiers.{ids_apart}
use Rattle.setting_pairs.proofs.Apart.{length_apart}
use Rattle.setting_pairs.proofs.Pairs.{places, place, bit, Seen, seen_none, no_mark, seen_more, seen_absent}
use Rattle.setting_pairs.proofs.Identifiers.some_alike.Goals as goal
use Rattle.setting_pairs.proofs.Identifiers.some_alike.Goals.{else-is_available, then-is_available}

-- nothing is shifted out
shifted : (k : ℕ) → k < places → 1 * 2 ^ k % 2 ^ 64 ≡ 2 ^ k
shifted k inside = shl_exact 1 k 64 (omega arith) (omega arith) ∙ omega arith

-- a bit that is not one
no_bit : (met k : ℕ) → eqb (bit met k) 1 ≡ false → bit met k ≡ 0
no_bit met k e =
    let low : bit met k < 2 = mod-lt (met / 2 ^ k) (lit< tt) in
    let other = eqb-false (bit met k) 1 e in
    omega (arith, low, other)

pub loop-j-init : goal.loop-j-init
loop-j-init c = λ os e. seen_none _ _ os _

pub loop-j-preserved : goal.loop-j-preserved
loop-j-preserved c =
    let args = c.args in
    let ids = ids_apart args.self.now.step last_stream args.self.now.bytes.now in
    let j = c.loop-j.j in
    let seen : (os : List ℕ) → c.if-is_available.alike ≡ false → Seen args.availability ids os c.if-is_available.met (j + 1) =
    λ os.
    elim c.if-is_available.branch [
      | then-is_available w ↦ rw (w.met-is, w.alike-is, w.from-k.ensures, w.id.ensures, shifted (place args.availability ids os j) (omega arith))
          (λ e.
          let apart = neither c.loop-j.alike (eqb (bit c.loop-j.met (place args.availability ids os j)) 1) e in
          let before = c.loop-j.invariant os apart.0 in
          seen_more args.availability ids os before (no_mark args.availability ids os before (no_bit c.loop-j.met _ apart.1)))
      | else-is_available w ↦ rw (w.met-is, w.alike-is)
          (λ e. seen_absent args.availability ids os (c.loop-j.invariant os e) (sym c.is_available.ensures ∙ w.if-is_available.false))
    ] in
    seen

pub returns : goal.returns
unfolding pair_twice
returns c =
    let ts = c.args.self.now in
    let all : c.loop-j.j ≡ length (ids_apart ts.step last_stream ts.bytes.now) = omega (arith, length_apart ts.step last_stream ts.bytes.now) in
    λ os e. rw all at (c.loop-j.invariant os e).none
