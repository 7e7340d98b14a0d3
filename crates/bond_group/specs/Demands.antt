-- What K6 says of the headers of a group, as statements. The proofs stand apart.
use Rattle.std.specs.Prelude.{ℕ, ◌*◌, ◌<◌, ◌≡◌, List}
use Rattle.setting.specs.declared.Kind.{Kind}
use Rattle.setting.specs.Refusal.{NoneHolds}
use Rattle.header_check.specs.OnPaper.{Refusal}
use Rattle.header_check.specs.Checking.{checked_of}
use Rattle.header_check.specs.Demands.{OnlyBesideSeven}
use Rattle.packet.specs.Packets.{slot}
use Rattle.bond_places.specs.Order.{frame_packets}
use Rattle.bond_group.specs.declared.Bond.{Bond}
use Rattle.bond_group.specs.Group.{frames_in}
use Rattle.bond_group.specs.Standing.{header_checks, refused_frame}
use Rattle.bond_group.specs.Plan.{planned_of}

-- the header of frame j is the one which is refused: no header before it is, and a check of it as a header answers this refusal
pub record Refuses (b : Bond) (group : List ℕ) (j : ℕ) (r : Refusal) : Type 0 where
  pub within : j < frames_in group
  pub passed : (i : ℕ) → i < j → NoneHolds (header_checks b group i)
  pub checked : (checked_of Kind.Extended b.pid (slot (frame_packets * j) group)).refusal ≡ r

-- 'That of the header which is refused': number and remainder are those of the first header that is refused, where it is refused by 7
abbrev pub OfTheRefused : Type 0
OfTheRefused =
    (b : Bond) (group : List ℕ) → (planned_of b group).refusal.number ≡ 7
    → Refuses b group (refused_frame b group) (planned_of b group).refusal

-- 'for refusal 7 the remainder is not zero'; beside any other answer it is 0
abbrev pub RemainderShown : Type 0
RemainderShown = (b : Bond) (group : List ℕ) → OnlyBesideSeven (planned_of b group).refusal
