-- `put_tail` meets its contract: nothing, or the word and the number behind it. Assumes nothing.
use native.Mathlib.Omega.{arith}
use borrow.Author.Tests.{eq-eqb, ne_eqb}
use Rattle.listing.specs.Listing.{tail_line}
use Rattle.listing.proofs.Putting.{puts_none, puts_then}
use Rattle.listing.proofs.lines.put_tail.Goals as goal

pub returns-then-left-eq0 : goal.returns-then-left-eq0
unfolding tail_line
returns-then-left-eq0 c = record {
  puts = rw (eq-eqb _ _ c.if-left-eq0.true) (puts_none _ _);
  upper_bound = omega arith;
}

pub returns : goal.returns
unfolding tail_line
returns c =
    let word = c.put_field-next in
    let number = c.put_number in record {
      puts = rw (ne_eqb _ _ c.if-left-eq0.false) (puts_then word.ensures.puts number.ensures.puts (omega arith));
      upper_bound = omega arith;
    }
