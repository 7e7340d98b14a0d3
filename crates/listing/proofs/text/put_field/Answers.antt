-- `put_field` meets its contract: the text is copied over a part, and the byte behind it is set. Assumes nothing.
use Prim.Native.Nat.{◌+◌, ◌-◌}
use mathlib.Core.Path.{refl}
use native.Mathlib.Omega.{arith}
use lib.ListN.{length}
use Rattle.listing.specs.Text.{field}
use Rattle.listing.proofs.Putting.{puts_copied, puts_byte}
use Rattle.listing.proofs.text.put_field.Goals as goal

pub returns : goal.returns
unfolding field
returns c =
    let a = c.args in
    let d = a.out.now in
    let part = puts_copied d a.at (a.at + length a.text.now - a.at) a.text.now (omega arith) (omega arith) in record {
      puts = rw c.copy.ensures (puts_byte part a.end c.requires);
      value = refl;
    }
