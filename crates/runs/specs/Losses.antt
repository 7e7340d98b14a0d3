-- What happens to a run's frames on the way, and what a receiver is then to hand out.
use Rattle.std.specs.Prelude.{ℕ, ◌≤◌, ◌≡◌, Bool, true, false, cond, ◌&&◌, List, [], ◌∷◌, ◌++◌, length, take, drop}
use Rattle.setting.specs.declared.Kind.{Kind}
use Rattle.setting.specs.Size.{slots_of}
use Rattle.header_check.specs.Checking.{read_refusal}
use Rattle.header_read.specs.Reader.{read_of}
use Rattle.packet.specs.Packets.{packet_length, slot}
use Rattle.receiver.specs.Store.{numbered}
use Rattle.runs.specs.Runs.{Each}

-- ---- on the way

-- what becomes of a header: it arrives, it is lost, or it arrives as another packet
pub data Fate : Type 0 where
  kept : Fate
  lost : Fate
  spoiled : List ℕ → Fate

abbrev pub is_kept : Fate → Bool
is_kept kept = true
is_kept lost = false
is_kept (spoiled q) = false

-- a frame that was sent: what became of its header, and of each packet behind it whether it arrived
pub record Sent : Type 0 where
  pub frame : List ℕ
  pub fate : Fate
  pub arrived : List Bool

-- a spoiled header is a packet that the reader refuses
abbrev pub Refused : Kind → ℕ → Fate → Type 0
Refused kind pid kept = Unit {0}
Refused kind pid lost = Unit {0}
Refused kind pid (spoiled q) = (length q ≡ packet_length) × (read_refusal kind pid q ≡ 0 → ⊥)

abbrev pub MayHappen : Kind → ℕ → Sent → Type 0
MayHappen kind pid s = (length s.arrived ≡ slots_of kind) × Refused kind pid s.fate

-- 'never more than fifteen headers in a row lost or spoiled', with the fifteen as a parameter
abbrev pub InARowAtMost : ℕ → List Sent → Type 0
InARowAtMost limit sent =
    (before row after : List Sent) → sent ≡ before ++ (row ++ after) → Each (λ s. is_kept s.fate ≡ false) row → length row ≤ limit

-- what arrives of a header, and of the packets behind it
unfoldable pub header_arrives : Fate → List ℕ → List (List ℕ)
header_arrives kept p = p ∷ []
header_arrives lost p = []
header_arrives (spoiled q) p = q ∷ []

unfoldable pub packets_arrive : List Bool → List ℕ → List (List ℕ)
packets_arrive [] bytes = []
packets_arrive (a ∷ later) bytes =
    cond a (take packet_length bytes ∷ packets_arrive later (drop packet_length bytes)) (packets_arrive later (drop packet_length bytes))

-- the packets that arrive, in order
unfoldable pub arriving : List Sent → List (List ℕ)
arriving [] = []
arriving (s ∷ ss) =
    header_arrives s.fate (slot 0 s.frame) ++ (packets_arrive s.arrived (drop packet_length s.frame) ++ arriving ss)

-- ---- what is wanted

-- the slots' numbers by the frame's own header
abbrev pub numbers_in : Kind → ℕ → List ℕ → List ℕ
numbers_in kind pid frame = (read_of kind pid (slot 0 frame)).setting.relative_ts_number

abbrev pub entire : List Bool → Bool
entire [] = true
entire (a ∷ later) = a && entire later

-- the packets numbered r of the frames that arrived entire, their header unspoiled and the next frame's good header behind them
unfoldable pub wanted : Kind → ℕ → ℕ → List Sent → List ℕ
wanted kind pid r [] = []
wanted kind pid r (s ∷ []) = []
wanted kind pid r (s ∷ t ∷ ss) =
    cond (is_kept s.fate && (entire s.arrived && is_kept t.fate))
    (numbered r (numbers_in kind pid s.frame) (drop packet_length s.frame))
    []
    ++ wanted kind pid r (t ∷ ss)
