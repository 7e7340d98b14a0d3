-- What a call answers by the check that it stopped at, and what it leaves. Assumes nothing.
use Prim.Native.Nat.{ℕ, ◌+◌, ◌^◌, ◌≤◌, ◌<◌}
use mathlib.Core.Path.{◌≡◌, refl, sym, ◌∙◌}
use mathlib.Core.Bool.{cond}
use mathlib.Core.List.{List}
use native.Mathlib.Nat.{zero-add}
use native.Mathlib.Omega.{arith}
use lib.Dec.{eqb}
use lib.ListN.{length}
use borrow.Author.Tests.{ltb-false, lt-ltb, le-ltb, ne_eqb}
use Rattle.io.specs.Counts.{IsPrefixLen}
use Rattle.io.proofs.Counting.{prefix_len_of_le}
use Rattle.setting.specs.Refusal.{first_of}
use Rattle.setting.proofs.Refusals.{none_first, none_at}
use Rattle.listing.specs.Text.{Puts}
use Rattle.listing.specs.Listing.{Listed, packets_in, room_for, listing, list_checks, list_refusal, listed, over_front, listed_over}

module _ (first lent room : ℕ) where
  -- 17
  pub large_number : 2 ^ 64 < first + packets_in lent → list_refusal first lent room ≡ 17
  unfolding list_refusal list_checks first_of
  large_number h = rw (lt-ltb (2 ^ 64) (first + packets_in lent) h)

  -- 15
  pub little_room : first + packets_in lent ≤ 2 ^ 64 → room < room_for lent → list_refusal first lent room ≡ 15
  unfolding list_refusal list_checks first_of
  little_room h l = rw (le-ltb (2 ^ 64) (first + packets_in lent) h, lt-ltb room (room_for lent) l)

  pub right_call : first + packets_in lent ≤ 2 ^ 64 → room_for lent ≤ room → list_refusal first lent room ≡ 0
  unfolding list_refusal list_checks first_of
  right_call h l = rw (le-ltb (2 ^ 64) (first + packets_in lent) h, le-ltb room (room_for lent) l)

-- what a call may rest on that none of them stops
pub let_through : (first lent room : ℕ) → list_refusal first lent room ≡ 0 → (first + packets_in lent ≤ 2 ^ 64) × (room_for lent ≤ room)
unfolding list_refusal list_checks
let_through first lent room e =
    let none = none_first (list_checks first lent room) refl e in
    (ltb-false _ _ (none_at none 0), ltb-false _ _ (none_at none 1))

module _ (first : ℕ) (bytes buffer : List ℕ) (r : Listed) where
  -- what a call promises of its answer and of the buffer afterwards
  abbrev pub Promised : List ℕ → Type 0
  Promised after = (r ≡ listed first bytes (length buffer)) × ((after ≡ listed_over first bytes buffer) × IsPrefixLen r.length after)

  -- a refusal answers length 0 and leaves the buffer
  pub stopped : {n : ℕ} → list_refusal first (length bytes) (length buffer) ≡ n → (n ≡ 0 → ⊥) → r.refusal ≡ n → r.length ≡ 0 → Promised buffer
  unfolding listed listed_over
  stopped {n} e h f g =
      let none : cond (eqb (list_refusal first (length bytes) (length buffer)) 0) (length (listing first bytes)) 0 ≡ 0 = rw (e, ne_eqb n 0 h) in (
        λ i. record { refusal = (f ∙ sym e) i; length = (g ∙ sym none) i },
        (sym (rw (e, ne_eqb n 0 h)), prefix_len_of_le _ _ (omega arith)),
      )

  -- a listing stands over the buffer's front
  pub done :
      {after : List ℕ} → list_refusal first (length bytes) (length buffer) ≡ 0 → r.refusal ≡ 0
      → Puts buffer 0 (listing first bytes) after r.length → r.length ≤ length after → Promised after
  unfolding listed listed_over over_front
  done e f p l =
      let long : r.length ≡ length (listing first bytes) = rw zero-add at p.behind in
      let whole : cond (eqb (list_refusal first (length bytes) (length buffer)) 0) (length (listing first bytes)) 0 ≡ length (listing first bytes) = rw e in (
        λ i. record { refusal = (f ∙ sym e) i; length = (long ∙ sym whole) i },
        (rw e (rw zero-add at p.is), prefix_len_of_le _ _ l),
      )

-- a call whose numbers fit and that has room lists
module _ (first : ℕ) (bytes buffer : List ℕ) (fits : first + packets_in (length bytes) ≤ 2 ^ 64) (room : room_for (length bytes) ≤ length buffer) where
  pub lists_length : (listed first bytes (length buffer)).length ≡ length (listing first bytes)
  unfolding listed
  lists_length = rw (right_call first (length bytes) (length buffer) fits room)

  pub lists_over : listed_over first bytes buffer ≡ over_front (listing first bytes) buffer
  unfolding listed_over
  lists_over = rw (right_call first (length bytes) (length buffer) fits room)
