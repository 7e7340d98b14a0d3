-- What spreading and gathering answer, and what they leave.
use Rattle.std.specs.Prelude.{ℕ, Result, Ok, Err, ◌*◌, ◌%◌, cond, not, List, [], ◌∷◌, ◌++◌, ltb, eqb, length, take, drop}
use Rattle.slices.specs.Slices.{copied, over}
use Rattle.setting.specs.Refusal.{Check, first_of}
use Rattle.packet.specs.Packets.{packet_length, slot, some_unfit_in}
use Rattle.refusals.specs.Refusals.{number}
use Rattle.header_check.specs.declared.Refused.{Refused}
use Rattle.header_check.specs.OnPaper.{Refusal}
use Rattle.bond_group.specs.declared.Bond.{Bond}
use Rattle.bond_group.specs.Group.{order}
use Rattle.bond_group.specs.Standing.{plan_checks, group_refusal, some_carries}

-- the checks of a spread: 1 for the stream's length, all checks of the group, then 13, 15 and 12
unfoldable pub spread_checks : Bond → List ℕ → List ℕ → List Check
spread_checks b group stream =
    (1, not (eqb (length stream % packet_length) 0))
    ∷ (plan_checks b group
    ++ ((13, not (some_carries b group))
    ∷ (15, not (eqb (length stream) (packet_length * length (order b group))))
    ∷ (12, some_unfit_in b.pid stream)
    ∷ []))

-- the checks of a gather into a buffer of so many bytes: all checks of the group, then 13 and 15
unfoldable pub gather_checks : Bond → List ℕ → ℕ → List Check
gather_checks b group out =
    plan_checks b group ++ ((13, not (some_carries b group)) ∷ (15, ltb out (packet_length * length (order b group))) ∷ [])

-- ---- the calls

-- refusal 0 and the number of packets, or the refusal and 0
pub record Moved : Type 0 where
  pub refusal : Refusal
  pub packets : ℕ

-- those of a result
abbrev pub moved_in : Result ℕ Refused → Moved
moved_in (Ok packets) = record { refusal = record { number = 0; remainder = 0 }; packets = packets }
moved_in (Err why) = record { refusal = record { number = number why.refusal; remainder = why.remainder }; packets = 0 }

-- what is answered by a refusal's number: with 0 how many packets the group takes, with any other number none
abbrev pub answered : Bond → List ℕ → ℕ → Moved
answered b group n = record { refusal = group_refusal b group n; packets = cond (eqb n 0) (length (order b group)) 0 }

-- the stream's packets written to these packets of the group, one after another
unfoldable pub spread_over : List ℕ → List ℕ → List ℕ → List ℕ
spread_over [] stream group = group
spread_over (m ∷ ms) stream group =
    spread_over ms (drop packet_length stream) (over (packet_length * m) (take packet_length stream) group)

-- these packets of the group, one behind the other
unfoldable pub gathered : List ℕ → List ℕ → List ℕ
gathered [] group = []
gathered (m ∷ ms) group = slot m group ++ gathered ms group

-- what a spread answers
unfoldable pub spread_refusal : Bond → List ℕ → List ℕ → ℕ
spread_refusal b group stream = first_of (spread_checks b group stream)

unfoldable pub spread_of : Bond → List ℕ → List ℕ → Moved
spread_of b group stream = answered b group (spread_refusal b group stream)

-- what a spread leaves in the group
unfoldable pub spread_group : Bond → List ℕ → List ℕ → List ℕ
spread_group b group stream = cond (eqb (spread_refusal b group stream) 0) (spread_over (order b group) stream group) group

-- what a gather answers
unfoldable pub gather_refusal : Bond → List ℕ → ℕ → ℕ
gather_refusal b group out = first_of (gather_checks b group out)

unfoldable pub gather_of : Bond → List ℕ → ℕ → Moved
gather_of b group out = answered b group (gather_refusal b group out)

-- what a gather leaves in the output buffer
unfoldable pub gather_buffer : Bond → List ℕ → List ℕ → List ℕ
gather_buffer b group out =
    cond (eqb (gather_refusal b group (length out)) 0) (copied out (gathered (order b group) group)) out
