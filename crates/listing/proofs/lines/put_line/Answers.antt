-- `put_line` meets its contract: the number, and behind it what the reading says. Assumes nothing.
use native.Mathlib.Omega.{arith}
use borrow.Author.Tests.{ne_eqb}
use Rattle.refusals.proofs.Refusals.{is_some_number}
use Rattle.listing.specs.Listing.{line, reading_fields}
use Rattle.listing.proofs.Putting.{puts_then}
use Rattle.listing.proofs.lines.put_line.Goals as goal

pub returns-in-Ok : goal.returns-in-Ok
unfolding line reading_fields
returns-in-Ok c =
    let number = c.put_number-next in
    let header = c.put_header in record {
      puts = rw (← c.in-Ok.ensures, ← c.count_available.ensures) (puts_then number.ensures.puts header.ensures.puts (omega (arith, number.ensures.upper_bound, c.requires)));
      upper_bound = omega (arith, number.ensures.upper_bound);
    }

pub returns-in-Err : goal.returns-in-Err
unfolding line reading_fields
returns-in-Err c =
    let number = c.put_number-next in
    let refused = c.put_refused in record {
      puts = rw (← c.in-Err.ensures, ne_eqb _ _ (is_some_number c.in-Err.why.refusal)) (puts_then number.ensures.puts refused.ensures.puts (omega (arith, number.ensures.upper_bound, c.requires)));
      upper_bound = omega (arith, number.ensures.upper_bound);
    }
