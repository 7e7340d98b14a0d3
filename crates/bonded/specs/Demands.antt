-- Demand 2 over bonded carriers, from the composers' calls to the gathered stream. The proofs stand apart.
use Rattle.std.specs.Prelude.{ℕ, ◌≤◌, ◌<◌, ◌≡◌, List, ◌++◌, length, drop}
use Rattle.header_check.specs.Checking.{bare}
use Rattle.runs.specs.Runs.{Each}
use Rattle.bond_group.specs.declared.Bond.{Bond}
use Rattle.bond_group.specs.Group.{order}
use Rattle.bond.specs.Bonding.{spread_group, gather_of, gather_buffer}
use Rattle.bond.specs.Demands.{WellFormed, Fitting}
use Rattle.bonded.specs.Carriers.{Carrier, group_at, sent_by, received, group_again}

-- some super frames in a row of a group of carriers, and for each of them a stream that fits: what a stream asks of the group
pub record Bonded (b : Bond) (carriers : List (Carrier b.pid)) (rounds : ℕ) (streams : ℕ → List ℕ) : Type 0 where
  pub each_carrier : Each (λ c. length c.supers ≡ rounds) carriers
  pub well_formed : (k : ℕ) → k < rounds → WellFormed b (group_at k carriers)
  pub fitting : (k : ℕ) → k < rounds → Fitting b (group_at k carriers) (streams k)

-- the groups once the streams were spread
abbrev pub spread_at : (b : Bond) → List (Carrier b.pid) → (ℕ → List ℕ) → ℕ → List ℕ
spread_at b carriers streams k = spread_group b (group_at k carriers) (streams k)

-- group k as the receivers bring it, each of which was started once and went on from super frame to super frame
abbrev pub brought_at : (b : Bond) → List (Carrier b.pid) → (ℕ → List ℕ) → ℕ → List ℕ
brought_at b carriers streams k = group_again k carriers (received carriers (sent_by carriers (spread_at b carriers streams)))

-- 'a bonded stream comes back from its carriers in its first order': spread over the frames that runs composed, sent and received carrier
-- by carrier without loss and with each run's next header behind, it is gathered again, super frame after super frame
abbrev pub BackFromItsCarriers : Type 0
BackFromItsCarriers =
    (b : Bond) (carriers : List (Carrier b.pid)) (rounds : ℕ) (streams : ℕ → List ℕ) → Bonded b carriers rounds streams
    → (k : ℕ) → k < rounds → (out : List ℕ) → length (streams k) ≤ length out
    → (gather_of b (brought_at b carriers streams k) (length out) ≡ record { refusal = bare 0; packets = length (order b (group_at k carriers)) })
    × (gather_buffer b (brought_at b carriers streams k) out ≡ streams k ++ drop (length (streams k)) out)

-- the conditions can be met: there are carriers composed by the calls, and streams for two super frames in a row, of a packet each
pub record Witness : Type 0 where
  pub bond : Bond
  pub carriers : List (Carrier bond.pid)
  pub streams : ℕ → List ℕ
  pub bonds : Bonded bond carriers 2 streams
  pub some : (k : ℕ) → k < 2 → 1 ≤ length (streams k)
