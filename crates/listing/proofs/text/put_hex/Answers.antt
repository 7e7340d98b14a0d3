-- `put_hex` meets its contract: what `hex` gives is the number's eight digits. Assumes nothing.
use mathlib.Core.Path.{◌≡◌}
use native.Mathlib.Omega.{arith}
use Rattle.listing.specs.Text.{hexadecimal}
use Rattle.listing.proofs.Hexadecimal.{eight}
use Rattle.listing.proofs.text.put_hex.Goals as goal
use Rattle.listing.proofs.text.put_hex.Goals.{After-hex-count}

-- the digits are eight
count_is : (c : After-hex-count) → c.hex-count.result ≡ 8
count_is c = eight c.hex-count.result c.args.n (omega arith) c.hex-count.ensures.len

pub put_field-requires : goal.put_field-requires
put_field-requires c =
    omega (arith, count_is (goal.at.put_field-requires c).After-hex-count, c.hex-count.ensures.in_bounds.1)

pub returns : goal.returns
unfolding hexadecimal
returns c =
    record {
      puts = rw (c.hex-count.ensures.digits, count_is (goal.at.returns c).After-hex-count) at c.put_field.ensures.puts;
      upper_bound = omega (arith, count_is (goal.at.returns c).After-hex-count, c.hex-count.ensures.in_bounds.1, c.put_field.ensures.value);
    }
