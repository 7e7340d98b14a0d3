-- The order of the places of bonded carriers.
use Rattle.std.specs.Prelude.{ℕ, zero, suc, ◌+◌, ◌-◌, ◌*◌, ◌≤◌, ◌≡◌, ◌⊎◌, Bool, true, cond, ◌&&◌, ◌||◌, List, [], ◌∷◌, ◌++◌, ltb, eqb}
use Rattle.slices.specs.Slices.{Among}
use Rattle.counters.specs.Counters.{first_slot, last_slot, first_position}

-- the packets of a frame: slot 0, which is the header, and slots 1 to 52
abbrev pub frame_packets : ℕ
frame_packets = last_slot + 1

-- slot i of frame position f stands at p = 53 × (f − 1) + i
abbrev pub place_of : ℕ → ℕ → ℕ
place_of f i = frame_packets * (f - first_position) + i

-- a place: its carrier's sequence number, how many frames that carrier has, and where the place stands in it
pub record Place : Type 0 where
  pub carrier : ℕ
  pub frames : ℕ
  pub at : ℕ

-- place p of a carrier with F frames comes before place q of one with G frames when p × G < q × F; when equal, the lower
-- carrier_sequence comes first
unfoldable pub comes_before : Place → Place → Bool
comes_before a b =
    ltb (a.at * b.frames) (b.at * a.frames) || (eqb (a.at * b.frames) (b.at * a.frames) && ltb a.carrier b.carrier)

abbrev pub Before : Place → Place → Type 0
Before a b = comes_before a b ≡ true

-- a carrier has 3 frames or 4
abbrev pub Framed : Place → Type 0
Framed a = (a.frames ≡ 3) ⊎ (a.frames ≡ 4)

-- places of the same carrier have the same number of frames
abbrev pub OfOneGroup : Place → Place → Type 0
OfOneGroup a b = a.carrier ≡ b.carrier → a.frames ≡ b.frames

-- it is a strict total order
pub record StrictTotal : Type 0 where
  pub irreflexive : (a : Place) → Before a a → ⊥
  pub transitive : (a b c : Place) → Framed a → Framed b → Framed c → Before a b → Before b c → Before a c
  pub total : (a b : Place) → Framed a → Framed b → OfOneGroup a b → (a ≡ b → ⊥) → Before a b ⊎ Before b a

-- within a carrier it is the order of frame position, then slot
abbrev pub ByPositionThenSlot : Type 0
ByPositionThenSlot =
    (carrier frames f i g j : ℕ) → (frames ≡ 3) ⊎ (frames ≡ 4) → first_position ≤ f → first_position ≤ g → first_slot ≤ i → i ≤ last_slot → first_slot ≤ j → j ≤ last_slot
    → comes_before (record { carrier = carrier; frames = frames; at = place_of f i }) (record { carrier = carrier; frames = frames; at = place_of g j })
    ≡ ltb f g || (eqb f g && ltb i j)

-- ---- sorted by it

-- those of the n numbers from s on that pass the test, in rising order
unfoldable pub picked : (ℕ → Bool) → ℕ → ℕ → List ℕ
picked test s zero = []
picked test s (suc n) = cond (test s) (s ∷ []) [] ++ picked test (s + 1) n

-- m put in front of the first number that it comes before
unfoldable pub insert : (ℕ → ℕ → Bool) → ℕ → List ℕ → List ℕ
insert before m [] = m ∷ []
insert before m (n ∷ ns) = cond (before m n) (m ∷ n ∷ ns) (n ∷ insert before m ns)

-- the numbers, sorted by the order `before`
unfoldable pub sorted : (ℕ → ℕ → Bool) → List ℕ → List ℕ
sorted before [] = []
sorted before (m ∷ ms) = insert before m (sorted before ms)

-- strictly rising: each comes before all behind it
pub data Rising (before : ℕ → ℕ → Bool) : List ℕ → Type 0 where
  none : Rising before []
  more : {m : ℕ} {ms : List ℕ} → ((x : ℕ) → Among x ms → before m x ≡ true) → Rising before ms → Rising before (m ∷ ms)
