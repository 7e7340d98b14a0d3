-- What sort of packet arrives, and what it leaves in the store.
use Rattle.std.specs.Prelude.{ℕ, ◌*◌, cond, List, ltb, eqb}
use Rattle.slices.specs.Slices.{over}
use Rattle.setting.specs.declared.Kind.{Kind}
use Rattle.header_check.specs.Checking.{read_refusal, refusal_by}
use Rattle.packet.specs.Packets.{packet_length, unfit}
use Rattle.receiver.specs.declared.Stage.{Stage}
use Rattle.receiver.specs.Table.{Sort, good, broken, other, stored_of}

-- the remainder that the reader shows of a packet: 0, unless it refuses the packet by 7
abbrev pub shown_remainder : Kind → ℕ → List ℕ → ℕ
shown_remainder kind pid p = (refusal_by (read_refusal kind pid p) p).remainder

-- a good header is one that the reader accepts; a broken packet lacks 0x47 or bears the header PID without being one
unfoldable pub sort_of : Kind → ℕ → List ℕ → Sort
sort_of kind pid p =
    cond (eqb (read_refusal kind pid p) 0) good (cond (unfit pid p) (broken (shown_remainder kind pid p)) other)

-- the store afterwards: with k packets stored, one that is neither a header nor broken goes to slot k + 1, at byte 188 × k, if there is one
unfoldable pub store_after : ℕ → Stage → Sort → List ℕ → List ℕ → List ℕ
store_after slots stage good p store = store
store_after slots stage (broken remainder) p store = store
store_after slots stage other p store = cond (ltb (stored_of slots stage) slots) (over (packet_length * stored_of slots stage) p store) store
