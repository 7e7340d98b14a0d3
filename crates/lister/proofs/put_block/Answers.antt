-- `put_block` meets its contract: a call whose numbers fit and that has room lists. Assumes nothing.
use mathlib.Core.Path.{◌≡◌, refl, ap, ◌∙◌}
use Rattle.std.specs.Prelude.{ℕ, Result, Ok, Err}
use Rattle.std.specs.Result.{result_unwrap_or}
use Rattle.refusals.specs.declared.Refusal.{Refusal}
use Rattle.listing.specs.Listing.{Listed, listed_in}
use Rattle.listing.proofs.Calls.{lists_length, lists_over}
use Rattle.lister.proofs.put_block.Goals as goal

-- a refused call lists nothing
length_is : (r : Result ℕ Refusal) → result_unwrap_or r 0 ≡ (listed_in r).length
length_is (Ok n) = refl
length_is (Err why) = refl

pub returns : goal.returns
returns c =
    let a = c.args in
    let said = c.list.ensures in
    let long = c.unwrap_or.ensures ∙ length_is c.list.result in
    let fits = c.requires.block_bound in
    let room = c.requires.block_in_bounds in record {
      value = long ∙ ap (λ (r : Listed). r.length) said.value ∙ lists_length a.first a.block.now a.out.now fits room;
      out_after = said.out_after ∙ lists_over a.first a.block.now a.out.now fits room;
      prefix_len = rw long said.prefix_len;
    }
