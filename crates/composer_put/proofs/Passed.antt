-- What a put that was not refused had: the facts behind its checks. Assumes nothing.
use Prim.Native.Nat.{ℕ, ◌%◌}
use mathlib.Core.Path.{◌≡◌, refl}
use mathlib.Core.Bool.{false, not}
use mathlib.Core.List.{List, ◌∷◌, ◌++◌}
use native.Mathlib.Omega.{arith}
use borrow.Author.Tests.{eqb-true, not-false}
use lib.Dec.{eqb}
use lib.ListN.{length}
use Rattle.counters.specs.Counters.{first_stream, within}
use Rattle.setting.specs.Size.{slots_of, streams_of}
use Rattle.setting.specs.Refusal.{Check, NoneHolds}
use Rattle.setting.proofs.Refusals.{none_first, none_at, none_before, none_behind, numbered_append}
use Rattle.packet.specs.Packets.{packet_length, frame_length}
use Rattle.composer.specs.Slots.{some_unfit}
use Rattle.composer.specs.Composing.{Composer, state_checks, length_check, open_checks, stream_checks, put_refusal}
use Rattle.composer.proofs.Answers.{frame_lent}
use Rattle.composer.proofs.Refusals.{state_numbered, open_numbered}
use Rattle.composer.proofs.Passed.{none_drop, Passes, passes}
use Rattle.composer_put.proofs.Streams.{at_least}

-- a put: the frame's length, whole packets, a stream's number, an open state, and fit packets
pub record PutPassed (c : Composer) (r : ℕ) (stream : List ℕ) (lent : ℕ) : Type 0 where
  pub long : lent ≡ frame_length (slots_of c.kind)
  pub whole : length stream % packet_length ≡ 0
  pub number : r ≡ 0 → ⊥
  pub open_state : Passes c
  pub fit : some_unfit c.pid r c.setting.relative_ts_number c.filled stream ≡ false

pub put_passed : (c : Composer) (r : ℕ) (stream : List ℕ) (lent : ℕ) → put_refusal c r stream lent ≡ 0 → PutPassed c r stream lent
unfolding put_refusal stream_checks
put_passed c r stream lent e =
    record {
      long = frame_lent c lent _ e;
      whole = eqb-true (length stream % packet_length) 0 (not-false _ (none_at h 1));
      number = λ z. let l = at_least first_stream (streams_of c.kind) r (not-false _ (none_at behind 0)) in omega arith;
      open_state = passes c (none_before (state_checks c) (number ∷ rest) (none_drop h 2)) (none_before (open_checks c) (stream_checks c r stream) (none_drop behind 1));
      fit = none_at (none_behind (open_checks c) (none_drop behind 1)) 1;
    }
  where
    number : Check
    number = (17, not (within first_stream (streams_of c.kind) r))

    rest : List Check
    rest = open_checks c ++ stream_checks c r stream

    h : NoneHolds (length_check c lent ∷ (1, not (eqb (length stream % packet_length) 0)) ∷ (state_checks c ++ (number ∷ rest)))
    h = none_first (length_check c lent ∷ (1, not (eqb (length stream % packet_length) 0)) ∷ (state_checks c ++ (number ∷ rest)))
        (numbered_append (state_checks c) (number ∷ rest) (state_numbered c) (numbered_append (open_checks c) (stream_checks c r stream) (open_numbered c) refl)) e

    behind : NoneHolds (number ∷ rest)
    behind = none_behind (state_checks c) (none_drop h 2)
