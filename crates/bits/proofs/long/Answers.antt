-- `long` meets its contract: eight bytes are the last ones, or fewer with zeros before them. Assumes nothing.
use Rattle.std.proofs.Common.{◌<◌, length, rules, arith}
use Rattle.bits.proofs.Eight.{last_number, few_number}
use Rattle.bits.proofs.long.Goals as goal

pub returns-in-Some : goal.returns-in-Some
returns-in-Some c =
    let parts = c.in-Some.ensures.cases in
    last_number c.args.bytes.now c.in-Some.field-0.now parts.0 parts.1.same (λ i. let fits = c.type_inv.bytes i in omega (arith, fits)) c.from_be_bytes.ensures

pub returns : goal.returns
returns c =
    let bytes = c.args.bytes.now in
    let few : length bytes < 8 = search rules in
    few_number bytes few (λ i. let fits = c.type_inv.bytes i in omega (arith, fits)) (rw c.copy_from_slice.ensures.after at c.from_be_bytes-2.ensures)
