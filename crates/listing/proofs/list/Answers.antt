-- `list` meets its contract: a call is refused, or lists. Assumes nothing.
use mathlib.Core.Path.{◌≡◌, refl, sym, ap}
use borrow.Author.Rules.{rules}
use lib.ListN.{length}
use Rattle.std.specs.Prelude.{ℕ, Result, Err}
use Rattle.refusals.specs.declared.Refusal.{Refusal}
use Rattle.refusals.proofs.Refusals.{is_some_number}
use Rattle.listing.specs.Listing.{listed_in}
use Rattle.listing.proofs.Calls.{let_through, stopped, done}
use Rattle.listing.proofs.list.Goals as goal

pub returns-in_err-list_refusal : goal.returns-in_err-list_refusal
returns-in_err-list_refusal c =
    let a = c.args in
    let why = c.in_err-list_refusal.field-0.0 in
    let passed_up : c.from_residual.result ≡ Err why = search rules in
    let all = stopped a.first a.bytes.now a.out.now (listed_in c.from_residual.result) (sym c.in_err-list_refusal.ensures) (is_some_number why)
    (ap (λ (r : Result ℕ Refusal). (listed_in r).refusal) passed_up) (ap (λ (r : Result ℕ Refusal). (listed_in r).length) passed_up) in
    record { value = all.0; out_after = all.1.0; prefix_len = all.1.1 }

pub put_listing-requires : goal.put_listing-requires
put_listing-requires c =
    let a = c.args in
    let through = let_through a.first (length a.bytes.now) (length a.out.now) (sym c.in_ok-list_refusal.ensures) in record {
      bytes_in_bounds = through.1;
      bytes_bound = through.0;
    }

pub returns : goal.returns
returns c =
    let a = c.args in let all = done a.first a.bytes.now a.out.now _ (sym c.in_ok-list_refusal.ensures) refl c.put_listing.ensures.puts
    c.put_listing.ensures.upper_bound in record {
      value = all.0;
      out_after = all.1.0;
      prefix_len = all.1.1;
    }
