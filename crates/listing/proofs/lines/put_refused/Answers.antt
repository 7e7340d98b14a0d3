-- `put_refused` meets its contract: the word, the number behind it, and behind 7 the remainder. Assumes nothing.
use mathlib.Core.Path.{ap, ◌∙◌}
use native.Mathlib.Omega.{arith}
use borrow.Author.Tests.{eq-eqb, ne_eqb}
use Rattle.refusals.specs.Refusals.{number}
use Rattle.refusals.proofs.Refusals.{by_number, numbered}
use Rattle.listing.specs.Listing.{refused_fields}
use Rattle.listing.proofs.Putting.{puts_then}
use Rattle.listing.proofs.lines.put_refused.Goals as goal

pub returns-in-Crc : goal.returns-in-Crc
unfolding refused_fields
returns-in-Crc c = record {
  puts = rw (eq-eqb _ _ (ap number c.in-Crc.is), ← c.number-number.ensures) (puts_then c.put_field-second.ensures.puts (puts_then c.put_number-third.ensures.puts c.put_hex.ensures.puts (omega arith)) (omega arith));
  upper_bound = omega arith;
}

pub returns : goal.returns
unfolding refused_fields
returns c = record {
  puts = rw (ne_eqb _ _ (λ z. c.in_default.not-Crc (by_number c.args.why.refusal ∙ ap numbered z)), ← c.number-number.ensures) (puts_then c.put_field-second.ensures.puts c.put_number.ensures.puts (omega arith));
  upper_bound = omega arith;
}
