-- The slots of a frame, one after another: emptied, filled from a stream, and numbered.
use Rattle.std.specs.Prelude.{ℕ, zero, suc, ◌*◌, ◌/◌, Bool, true, false, cond, not, ◌&&◌, ◌||◌, eqb, length, get_or, take, drop}
use mathlib.Core.List.{List, [], ◌∷◌, ◌++◌, zip_with}
use Rattle.slices.specs.Slices.{any_below}
use Rattle.packet.specs.Packets.{packet_length, null_packet, some_unfit_in}

-- n null packets, one behind the other
unfoldable pub nulls : ℕ → List ℕ
nulls zero = []
nulls (suc n) = null_packet ++ nulls n

-- a frame with null packets in its slots, so many behind slot 0, which is as it was
unfoldable pub cleared : ℕ → List ℕ → List ℕ
cleared slots frame = take packet_length frame ++ nulls slots

-- ---- put for stream r. A set of slots is a list with an entry for each slot, slot 1 first: true if the slot is in the set

-- the still empty slots planned for r
unfoldable pub empty_for : ℕ → List ℕ → List Bool → List Bool
empty_for r plan marks = zip_with (λ (n : ℕ) (m : Bool). eqb n r && not m) plan marks

-- the first n slots of a set
unfoldable pub first_slots : ℕ → List Bool → List Bool
first_slots n [] = []
first_slots n (false ∷ bs) = false ∷ first_slots n bs
first_slots zero (true ∷ bs) = false ∷ first_slots zero bs
first_slots (suc n) (true ∷ bs) = true ∷ first_slots n bs

-- how many slots a set has
unfoldable pub slots_in : List Bool → ℕ
slots_in [] = 0
slots_in (false ∷ bs) = slots_in bs
slots_in (true ∷ bs) = suc (slots_in bs)

-- the empty slots that a stream fills: one for each of its packets, in rising order, until slots or packets run out
unfoldable pub filled_by : List ℕ → List Bool → List Bool
filled_by stream empty = first_slots (length stream / packet_length) empty

-- how many packets are placed
unfoldable pub placed_by : ℕ → List ℕ → List Bool → List ℕ → ℕ
placed_by r plan marks stream = slots_in (filled_by stream (empty_for r plan marks))

-- whether any of the packets to place is unfit
unfoldable pub some_unfit : ℕ → ℕ → List ℕ → List Bool → List ℕ → Bool
some_unfit pid r plan marks stream = some_unfit_in pid (take (packet_length * placed_by r plan marks stream) stream)

-- the filled marks afterwards: filled before, or by this put
unfoldable pub marks_after : ℕ → List ℕ → List Bool → List ℕ → List Bool
marks_after r plan marks stream = zip_with ◌||◌ marks (filled_by stream (empty_for r plan marks))

-- the slots of a set, filled one after another with the packets of a stream from its front; all other slots stay as they are
unfoldable pub slots_with : List Bool → List ℕ → List ℕ → List ℕ
slots_with [] stream slots = slots
slots_with (false ∷ bs) stream slots = take packet_length slots ++ slots_with bs stream (drop packet_length slots)
slots_with (true ∷ bs) stream slots =
    take packet_length stream ++ slots_with bs (drop packet_length stream) (drop packet_length slots)

-- the frame afterwards. `false` stands for slot 0, the header, which a put does not fill
unfoldable pub frame_after : ℕ → List ℕ → List Bool → List ℕ → List ℕ → List ℕ
frame_after r plan marks stream frame = slots_with (false ∷ filled_by stream (empty_for r plan marks)) stream frame

-- ---- the marks and the plan

-- whether a slot that is planned for no stream is marked filled
unfoldable pub some_unplanned : List ℕ → List Bool → Bool
some_unplanned plan marks = any_below (length plan) (λ i. get_or marks i false && eqb (get_or plan i 0) 0)

-- the header's numbers: filled slots carry their number, empty ones 0
unfoldable pub numbers_of : List ℕ → List Bool → List ℕ
numbers_of [] ms = []
numbers_of (n ∷ ns) [] = []
numbers_of (n ∷ ns) (m ∷ ms) = cond m n 0 ∷ numbers_of ns ms
