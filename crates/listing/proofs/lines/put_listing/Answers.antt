-- `put_listing` meets its contract: after n turns the buffer's front holds the lines of the first n packets. Assumes nothing.
use Prim.Native.Nat.{◌+◌, ◌-◌, ◌*◌}
use mathlib.Core.Path.{◌≡◌, sym, ap, ◌∙◌}
use native.Mathlib.Omega.{arith}
use borrow.Author.Rules.{rules}
use lib.ListN.{length, length-drop}
use Rattle.std.specs.Iterator.Adapters.{enumerate_source, enumerate_count}
use Rattle.std.specs.Slice.Iter.{chunks_exact_rest}
use Rattle.listing.proofs.Putting.{puts_none, puts_then}
use Rattle.listing.proofs.Packets.{lines_none, next_packet, lines_more, lines-all}
use Rattle.listing.proofs.lines.put_listing.Goals as goal

pub loop-k-init : goal.loop-k-init
loop-k-init c =
    let a = c.args in
    let none : enumerate_count c.into_iter-k-iterator.result ≡ 0 = search rules in
    rw none (search rules, search rules, omega arith, omega arith, rw (lines_none a.first a.bytes.now) (puts_none a.out.now 0))

pub loop-k-preserved : goal.loop-k-preserved
loop-k-preserved c =
    let a = c.args in
    let at = c.loop-k in
    let n = enumerate_count at.k-iterator in
    let put = c.put_line-at.ensures in
    let step = rw c.in-Some.is at c.next.ensures.steps in
    let next = next_packet a.first a.bytes.now n c.in-Some.packet.now _ (sym at.invariant.0 ∙ step.0.1.0) (step.0.1.1 ∙ at.invariant.1) in
    let number : c.in-Some.k ≡ n = step.1 in
    let one_more : enumerate_count c.next.new.self ≡ n + 1 = step.2 in
    rw one_more (
      next.1,
      step.0.0 ∙ at.invariant.1,
      next.2,
      omega (arith, put.upper_bound),
      rw (← lines_more a.first a.bytes.now n c.in-Some.packet.now next.0)
          (puts_then at.invariant.4 (rw number at put.puts) (omega arith)),
    )

pub returns : goal.returns
returns c =
    let a = c.args in
    let at = c.loop-k in
    let n = enumerate_count at.k-iterator in
    let step = rw c.in-None.is at c.next.ensures.steps in
    let rest : length (chunks_exact_rest (enumerate_source at.k-iterator)) ≡ length a.bytes.now - 188 * n = ap length at.invariant.0 ∙ length-drop (188 * n) a.bytes.now in
    let put = c.put_tail.ensures in record {
      puts = rw (← lines-all a.first a.bytes.now n at.invariant.2 (omega (arith, step.0.1.0, at.invariant.1)))
          (puts_then at.invariant.4 put.puts (omega arith));
      upper_bound = omega (arith, put.upper_bound);
    }
