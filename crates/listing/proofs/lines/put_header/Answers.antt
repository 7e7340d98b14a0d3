-- `put_header` meets its contract: the word, and three numbers behind it. Assumes nothing.
use native.Mathlib.Omega.{arith}
use Rattle.listing.specs.Listing.{header_fields}
use Rattle.listing.proofs.Putting.{puts_then}
use Rattle.listing.proofs.lines.put_header.Goals as goal

pub returns : goal.returns
unfolding header_fields
returns c =
    let word = c.put_field-second in
    let counter = c.put_number-third in
    let version = c.put_number-fourth in
    let available = c.put_number in record {
      puts = puts_then word.ensures.puts (puts_then counter.ensures.puts (puts_then version.ensures.puts available.ensures.puts (omega arith)) (omega arith)) (omega arith);
      upper_bound = omega arith;
    }
