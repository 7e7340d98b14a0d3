-- A walk over the places of a group that visits them in their order. This is how the code finds the order; it is no part of what is
-- promised.
use Rattle.std.specs.Prelude.{ℕ, zero, suc, ◌+◌, ◌-◌, ◌*◌, ◌/◌, ◌%◌, ◌^◌, ◌≤◌, ◌<◌, ◌≡◌, ◌⊎◌, Bool, cond, ◌&&◌, List, [], ◌∷◌, ltb, eqb, length, get_or}
use Rattle.counters.specs.Counters.{last_position, last_carrier}
use Rattle.bond_places.specs.Order.{frame_packets, picked}

-- the most frames that a group can have
abbrev pub most_frames : ℕ
most_frames = last_carrier * last_position

-- A super frame is cut into 12 × 53 parts. Place p of a carrier with F frames stands at part p × 12 / F. So places come in the order of their
-- parts, and the places of one part in the order of the carriers

-- how many parts there are: each is a twelfth of the time that one packet of each frame takes
abbrev pub twelfths : ℕ
twelfths = 12 * frame_packets

-- how many parts a place takes on a carrier with so many frames: 12 / F
abbrev pub share : ℕ → ℕ
share frames = cond (eqb frames 3) 4 3

-- the place at a twelfth, or 0 if there is none
unfoldable pub place_at : ℕ → ℕ → ℕ
place_at twelfth frames = cond (eqb (twelfth % share frames) 0) (twelfth / share frames) 0

-- how many frames the first k carriers have
unfoldable pub frames_before : List ℕ → ℕ → ℕ
frames_before frames zero = 0
frames_before [] (suc k) = 0
frames_before (f ∷ frames) (suc k) = f + frames_before frames k

-- step u looks at twelfth u / 8 of carrier u % 8, counted from 0: at this packet of the group
unfoldable pub packet_at : List ℕ → ℕ → ℕ
packet_at frames u =
    frame_packets * frames_before frames (u % last_carrier) + place_at (u / last_carrier) (get_or frames (u % last_carrier) 0)

-- whether the walk stops there
unfoldable pub is_stop : ℕ → List ℕ → (ℕ → Bool) → ℕ → Bool
is_stop carriers frames test u = ltb (u % last_carrier) carriers && test (packet_at frames u)

-- whether packet m is marked
unfoldable pub is_marked : List ℕ → ℕ → Bool
is_marked slots m = eqb (get_or slots (m / frame_packets) 0 / 2 ^ (m % frame_packets) % 2) 1

-- the steps from u on at which the walk stops
unfoldable pub stops : ℕ → List ℕ → List ℕ → ℕ → List ℕ
stops carriers frames slots u = picked (is_stop carriers frames (is_marked slots)) u (last_carrier * twelfths - u)

-- what a walk needs: up to 8 carriers, each with 3 or 4 frames
pub record Walkable (carriers : ℕ) (frames : List ℕ) : Type 0 where
  pub few : carriers ≤ last_carrier
  pub for_each : length frames ≡ last_carrier
  pub short : (k : ℕ) → get_or frames k 0 ≤ last_position
  pub framed : (k : ℕ) → k < carriers → (get_or frames k 0 ≡ 3) ⊎ (get_or frames k 0 ≡ 4)
