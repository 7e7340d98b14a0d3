-- The checks before a frame is handed out, but for the room for its packets.
use Rattle.std.specs.Prelude.{ℕ, not, List, [], ◌∷◌, ◌++◌, eqb}
use Rattle.counters.specs.Counters.{first_stream, within}
use Rattle.setting.specs.Refusal.{Check}
use Rattle.setting.specs.Size.{slots_of, streams_of}
use Rattle.receiver.specs.Table.{is_ready}
use Rattle.receiver.specs.Store.{store_length}
use Rattle.receiver.specs.Receiving.{Receiver, receiver_checks}

-- all but 15, in the order of the table of refusals
unfoldable pub ready_checks : Receiver → ℕ → ℕ → List Check
ready_checks c r store =
    (1, not (eqb store (store_length (slots_of c.kind))))
    ∷ (receiver_checks c ++ ((17, not (within first_stream (streams_of c.kind) r)) ∷ (16, not (is_ready c.stage)) ∷ []))
