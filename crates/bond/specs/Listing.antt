-- The places of a group, listed a round at a time. This is how the code finds their order; it is no part of what is promised.
use Rattle.std.specs.Prelude.{ℕ, zero, suc, ◌+◌, ◌-◌, ◌*◌, ◌/◌, ◌%◌, ◌≤◌, ◌<◌, ◌≡◌, Bool, true, false, cond, ◌&&◌, List, [], ◌∷◌, ◌++◌, map, ltb, eqb, length, get_or, drop}
use Rattle.slices.specs.Slices.{Among}
use Rattle.packet.specs.Packets.{packet_length}
use Rattle.bond_places.specs.Order.{frame_packets, picked}
use Rattle.counters.specs.Counters.{last_carrier}
use Rattle.bond.specs.declared.rounds.Note.{Note}
use Rattle.bond_places.specs.Walk.{most_frames, share, frames_before, packet_at, is_marked, stops, Walkable}

-- all of these packets lie in the group
abbrev pub Within : List ℕ → List ℕ → Type 0
Within ms group = (m : ℕ) → Among m ms → packet_length * m + packet_length ≤ length group

-- ---- a round

-- A round is twelve twelfths: the time in which one packet of each frame is sent. A carrier with F frames has F places in a round, at the
-- same twelfths in every round; from one round to the next each place moves on by F packets

-- how many twelfths a round has, and how many steps of the walk
abbrev pub round_twelfths : ℕ
round_twelfths = 12

abbrev pub round_steps : ℕ
round_steps = last_carrier * round_twelfths

-- the number of frames of the carrier that step v looks at
abbrev pub frames_of : List ℕ → ℕ → ℕ
frames_of frames v = get_or frames (v % last_carrier) 0

-- whether that carrier has a place at this step
unfoldable pub is_due : ℕ → List ℕ → ℕ → Bool
is_due carriers frames v = ltb (v % last_carrier) carriers && eqb (v / last_carrier % share (frames_of frames v)) 0

-- the steps of a round, from v on, that have a place
unfoldable pub due : ℕ → List ℕ → ℕ → List ℕ
due carriers frames v = picked (is_due carriers frames) v (round_steps - v)

-- what stands where nothing is noted
abbrev pub no_note : Note
no_note = record { packet = 0; further = 0 }

-- entry e of the notes is that of step v: its packet in the first round, and how many packets it moves on in each round
pub record Entry (carriers : ℕ) (frames : List ℕ) (notes : List Note) (e v : ℕ) : Type 0 where
  pub early : v < round_steps
  pub looks : is_due carriers frames v ≡ true
  pub is : get_or notes e no_note ≡ record { packet = packet_at frames v; further = frames_of frames v }

-- the n steps before v that have a place are noted
pub record Noted (carriers : ℕ) (frames : List ℕ) (notes : List Note) (n v : ℕ) : Type 0 where
  pub left : drop n (due carriers frames 0) ≡ due carriers frames v
  pub those : n ≤ length (due carriers frames 0)
  pub few : n ≤ v
  pub each : (e : ℕ) → e < n → Entry carriers frames notes e (get_or (due carriers frames 0) e 0)
  pub long : length notes ≡ round_steps

-- ---- its list

-- the packet of entry e in round q
abbrev pub packet_in : List Note → ℕ → ℕ → ℕ
packet_in notes q e = (get_or notes e no_note).packet + q * (get_or notes e no_note).further

-- the marked packets among n entries from e on, in round q
unfoldable pub marked_in : List ℕ → List Note → ℕ → ℕ → ℕ → List ℕ
marked_in slots notes q e zero = []
marked_in slots notes q e (suc n) =
    cond (is_marked slots (packet_in notes q e)) (packet_in notes q e ∷ []) [] ++ marked_in slots notes q (e + 1) n

-- the packets at which the walk stops from step u on
abbrev pub places_from : ℕ → List ℕ → List ℕ → ℕ → List ℕ
places_from carriers frames slots u = map (packet_at frames) (stops carriers frames slots u)

-- what the lists are made from: a walk, and marks for each frame, none of them on a header
pub record Listable (carriers : ℕ) (frames slots : List ℕ) : Type 0 where
  pub walk : Walkable carriers frames
  pub long : length slots ≡ most_frames
  pub headers : (k : ℕ) → k < carriers → is_marked slots (frame_packets * frames_before frames k) ≡ false
