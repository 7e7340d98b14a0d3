-- A read call shows a remainder that is not 0 beside 7, and 0 beside anything else. Assumes nothing.
use Prim.Native.Nat.{ℕ}
use mathlib.Core.Path.{◌≡◌}
use mathlib.Core.List.{List}
use native.Mathlib.Decide.{ℕ_discrete}
use borrow.Author.Tests.{ne_eqb}
use lib.ListN.{length}
use Rattle.setting_bytes.specs.Kinds.{kind_of}
use Rattle.header_layout.specs.Header.{remainder_of}
use Rattle.header_check.specs.Checking.{refusal_by}
use Rattle.header_check.proofs.Sevens.{seven_shows, beside_seven}
use Rattle.header_calls.specs.Calls.{call_refused, then_refused, read_refused, read_remainder}
use Rattle.header_calls.specs.Demands.{RemainderShown}
use Rattle.header_calls.proofs.ReadCall.{not_of_call}

seven : (packet setting : List ℕ) (pid kind : ℕ) → read_refused packet pid kind setting ≡ 7 → remainder_of packet ≡ 0 → ⊥
unfolding read_refused then_refused
seven packet setting pid kind e = by_call (ℕ_discrete call 0)
  where
    call : ℕ
    call = call_refused (length packet) (length setting) pid kind

    by_call : Dec (call ≡ 0) → remainder_of packet ≡ 0 → ⊥
    by_call (yes z) = seven_shows (kind_of kind) pid packet (rw z at e)
    by_call (no d) = absurd (not_of_call (length packet) (length setting) pid kind (rw (ne_eqb call 0 d) at e))

pub remainder_shown : RemainderShown
unfolding refusal_by read_remainder
remainder_shown packet setting pid kind = beside_seven (read_refused packet pid kind setting) packet (seven packet setting pid kind)
