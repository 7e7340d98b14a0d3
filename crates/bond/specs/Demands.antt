-- What demand 2 and K6 say of bonded super frames, as statements over what the calls answer and leave. The proofs stand apart.
use Rattle.std.specs.Prelude.{ℕ, ◌*◌, ◌≤◌, ◌<◌, ◌≡◌, true, false, List, ◌++◌, length, get_or, drop}
use Rattle.setting.specs.Refusal.{NoneHolds}
use Rattle.slices.specs.Slices.{Among}
use Rattle.header_check.specs.Checking.{bare}
use Rattle.header_check.specs.Demands.{OnlyBesideSeven}
use Rattle.packet.specs.Packets.{packet_length, slot, unfit}
use Rattle.bond_group.specs.declared.Bond.{Bond}
use Rattle.bond_places.specs.Order.{Rising, frame_packets}
use Rattle.bond_group.specs.Group.{packets_in, bonded, earlier, order}
use Rattle.bond_group.specs.Standing.{call_checks, group_checks, some_carries}
use Rattle.bond_group.specs.Plan.{planned_of}
use Rattle.bond.specs.Bonding.{spread_checks, gather_checks, spread_of, spread_group, gather_of, gather_buffer}

-- a group of well-formed super frames for a bond: no check of the call or of the headers refuses it, and some header carries the stream
pub record WellFormed (b : Bond) (group : List ℕ) : Type 0 where
  pub called : NoneHolds (call_checks b (length group))
  pub headers : NoneHolds (group_checks b group)
  pub carried : some_carries b group ≡ true

-- a stream of exactly as many good packets as the group has bonded slots
pub record Fitting (b : Bond) (group stream : List ℕ) : Type 0 where
  pub exact : length stream ≡ packet_length * length (order b group)
  pub good : (k : ℕ) → k < length (order b group) → unfit b.pid (slot k stream) ≡ false

-- 'a bonded stream comes back from its carriers in its first order': spread and then gathered, into a buffer that is large
-- enough, it stands at the front of the buffer, the rest of which stays as it was; both calls answer how many packets it has
abbrev pub ComesBack : Type 0
ComesBack =
    (b : Bond) (group stream out : List ℕ) → WellFormed b group → Fitting b group stream → length stream ≤ length out
    → (spread_of b group stream ≡ record { refusal = bare 0; packets = length (order b group) })
    × (gather_of b (spread_group b group stream) (length out) ≡ record { refusal = bare 0; packets = length (order b group) })
    × (gather_buffer b (spread_group b group stream) out ≡ stream ++ drop (length stream) out)

-- 'Spread writes a stream into the bonded slots in this order': the k-th of them carries the stream's k-th packet
abbrev pub InThisOrder : Type 0
InThisOrder =
    (b : Bond) (group stream : List ℕ) → WellFormed b group → Fitting b group stream
    → (k : ℕ) → k < length (order b group) → slot (get_or (order b group) k 0) (spread_group b group stream) ≡ slot k stream

-- 'and nothing else': headers and all other slots stay as they were, whatever the buffers hold
abbrev pub NothingElse : Type 0
NothingElse =
    (b : Bond) (group stream : List ℕ)
    → (length (spread_group b group stream) ≡ length group)
    × ((m : ℕ) → bonded b group m ≡ false → slot m (spread_group b group stream) ≡ slot m group)
    × ((j : ℕ) → slot (frame_packets * j) (spread_group b group stream) ≡ slot (frame_packets * j) group)

-- the order holds: each packet comes before all those behind it in the list, and the list has exactly the bonded packets
abbrev pub OrderHolds : Type 0
OrderHolds =
    (b : Bond) (group : List ℕ) → WellFormed b group
    → Rising (earlier group) (order b group)
    × ((m : ℕ) → Among m (order b group) → (m < packets_in group) × (bonded b group m ≡ true))
    × ((m : ℕ) → m < packets_in group → bonded b group m ≡ true → Among m (order b group))

-- a spread or a gather is refused exactly when the table says so
abbrev pub RefusedByTable : Type 0
RefusedByTable =
    (b : Bond) (group stream : List ℕ) (out : ℕ)
    → ((spread_of b group stream).refusal.number ≡ 0 → NoneHolds (spread_checks b group stream))
    × (NoneHolds (spread_checks b group stream) → (spread_of b group stream).refusal.number ≡ 0)
    × ((gather_of b group out).refusal.number ≡ 0 → NoneHolds (gather_checks b group out))
    × (NoneHolds (gather_checks b group out) → (gather_of b group out).refusal.number ≡ 0)

-- K6: for refusal 7 the remainder is not 0, and it is the one that reading the group's headers shows, which is that of the header which is
-- refused (`OfTheRefused`, bond_group). Beside any other answer it is 0
abbrev pub RemainderShown : Type 0
RemainderShown =
    (b : Bond) (group stream : List ℕ) (out : ℕ)
    → OnlyBesideSeven (spread_of b group stream).refusal
    × OnlyBesideSeven (gather_of b group out).refusal
    × ((spread_of b group stream).refusal.number ≡ 7 → (spread_of b group stream).refusal ≡ (planned_of b group).refusal)
    × ((gather_of b group out).refusal.number ≡ 7 → (gather_of b group out).refusal ≡ (planned_of b group).refusal)
