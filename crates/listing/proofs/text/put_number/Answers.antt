-- `put_number` meets its contract: what `decimal` gives is the number's text. Assumes nothing.
use Prim.Native.Nat.{◌≤◌}
use native.Mathlib.Omega.{arith}
use Rattle.listing.proofs.Decimal.{at_most_twenty, is_decimal}
use Rattle.listing.proofs.text.put_number.Goals as goal

pub returns : goal.returns
returns c =
    let d = c.decimal-count in
    let n = c.args.n in
    let few : d.result ≤ 20 = at_most_twenty d.result n (omega arith) d.ensures.len in record {
      puts = rw (d.ensures.digits, is_decimal d.result n few d.ensures.len) at c.put_field.ensures.puts;
      upper_bound = omega (arith, few, d.ensures.in_bounds.1, c.put_field.ensures.value);
    }
