-- A stream's packets moved to and from listed packets of a group, some in each turn: what the loops need that do it. Assumes nothing.
use Prim.Native.Nat.{ℕ, ◌+◌, ◌-◌, ◌*◌, ◌≤◌, ◌<◌}
use mathlib.Core.Path.{◌≡◌, refl, sym, ap, ap₂, subst, ◌∙◌}
use mathlib.Core.List.{List, [], ◌∷◌, ◌++◌, append_assoc, append-nil}
use native.Mathlib.Omega.{arith}
use native.Mathlib.Numerals.{add-one}
use borrow.Rule.Slice.PartMut.{mid_len}
use lib.ListN.{length, get_or, take, drop, length-append, length-drop, take-append-drop}
use lib.Seq.{drop-cons, drop-drop, take-add, take_all, take_at, take-nil, take-append-le, take-append_seam, drop_at, drop-append-le, drop-append-add, length-take-le}
use Rattle.slices.specs.Slices.{copied, over, Among, here, there}
use Rattle.slices.proofs.Front.{put, copied-over, put-over}
use Rattle.packet.specs.Packets.{packet_length, slot}
use Rattle.bond.specs.Bonding.{spread_over, gathered}
use Rattle.bond_places.specs.Order.{frame_packets}
use Rattle.bond.specs.declared.rounds.Note.{Note}
use Rattle.bond.specs.Listing.{Within, round_steps, Noted, marked_in, places_from, Listable}
use Rattle.bond.proofs.ByRound.{places_none, round_is, front_is}

-- k bytes copied to k lent ones
pub copied-part : (to from k : ℕ) (into bytes : List ℕ) → to + k ≤ length into → from + k ≤ length bytes
    → copied (take (to + k - to) (drop to into)) (take (from + k - from) (drop from bytes)) ≡ take k (drop from bytes)
copied-part to from k into bytes h g =
    let there : to + k - to ≡ k = omega arith in
    let here : from + k - from ≡ k = omega arith in
    copied-over _ _ (mid_len to (to + k) into h ∙ there ∙ sym (mid_len from (from + k) bytes g ∙ here))
    ∙ ap (λ (n : ℕ). take n (drop from bytes)) here

-- ---- two lists, one behind the other

among_front : {x : ℕ} {xs : List ℕ} (ys : List ℕ) → Among x xs → Among x (xs ++ ys)
among_front ys here = here
among_front ys (there a) = there (among_front ys a)

among_behind : {x : ℕ} (xs : List ℕ) {ys : List ℕ} → Among x ys → Among x (xs ++ ys)
among_behind [] a = a
among_behind (y ∷ xs) a = there (among_behind xs a)

-- the packets of both are spread when those of the first are and then those of the second
spread_append : (xs ys stream group : List ℕ)
    → spread_over (xs ++ ys) stream group ≡ spread_over ys (drop (packet_length * length xs) stream) (spread_over xs stream group)
unfolding spread_over
spread_append [] ys stream group = refl
spread_append (m ∷ xs) ys stream group =
    let next = over (packet_length * m) (take packet_length stream) group in
    let e : packet_length + packet_length * length xs ≡ packet_length * length (m ∷ xs) = omega arith in
    spread_append xs ys (drop packet_length stream) next
    ∙ ap (λ (l : List ℕ). spread_over ys l (spread_over xs (drop packet_length stream) next))
    (drop-drop (packet_length * length xs) packet_length stream ∙ ap (λ (n : ℕ). drop n stream) e)

-- what a stream has beyond the packets that are asked for stays where it is
spread_surplus : (ms stream more group : List ℕ) → length stream ≡ packet_length * length ms → spread_over ms (stream ++ more) group ≡ spread_over ms stream group
unfolding spread_over
spread_surplus [] stream more group l = refl
spread_surplus (m ∷ ms) stream more group l =
    let h : packet_length ≤ length stream = omega (arith, l) in
    ap₂ (λ (s p : List ℕ). spread_over ms s (over (packet_length * m) p group)) (drop-append-le packet_length stream more h) (take-append-le packet_length stream more h)
    ∙ spread_surplus ms (drop packet_length stream) more (over (packet_length * m) (take packet_length stream) group) (length-drop packet_length stream ∙ omega (arith, l))

gathered_append : (xs ys group : List ℕ) → gathered (xs ++ ys) group ≡ gathered xs group ++ gathered ys group
unfolding gathered
gathered_append [] ys group = refl
gathered_append (m ∷ xs) ys group =
    ap (λ (l : List ℕ). slot m group ++ l) (gathered_append xs ys group) ∙ sym (append_assoc (slot m group) (gathered xs group) (gathered ys group))

length-gathered : (ms group : List ℕ) → Within ms group → length (gathered ms group) ≡ packet_length * length ms
unfolding gathered slot
length-gathered [] group w = refl
length-gathered (m ∷ ms) group w =
    let there-is = w m here in
    let one : length (slot m group) ≡ packet_length = length-take-le packet_length (drop (packet_length * m) group) (rw length-drop (omega arith)) in
    length-append (slot m group) (gathered ms group) ∙ omega (arith, one, length-gathered ms group (λ x a. w x (there a)))

-- what is put behind a copied front is copied with it
copied_append : (into xs ys : List ℕ) → length xs + length ys ≤ length into → over (length xs) ys (copied into xs) ≡ copied into (xs ++ ys)
unfolding copied over
copied_append into xs ys h =
    let n = length xs in
    let first : take (length into) xs ++ drop n into ≡ xs ++ drop n into = ap (λ (l : List ℕ). l ++ drop n into) (take_all (length into) xs (omega arith)) in
    let long : length (xs ++ ys) ≡ n + length ys = length-append xs ys in
    ap₂ (λ (a b : List ℕ). a ++ (ys ++ b)) (ap (take n) first ∙ take-append_seam xs (drop n into))
    (ap (drop (n + length ys)) first ∙ drop-append-add xs (drop n into) (length ys) ∙ drop-drop (length ys) n into)
    ∙ sym (append_assoc xs ys (drop (n + length ys) into))
    ∙ sym (ap₂ (λ (a : List ℕ) (k : ℕ). a ++ drop k into) (take_all (length into) (xs ++ ys) (omega arith)) long)

-- ---- a list, some of its packets moved in each turn

-- k packets of the list were moved; then come these n, and behind them the rest
pub record Turn (ms : List ℕ) (k n : ℕ) (these rest : List ℕ) : Type 0 where
  pub few : k ≤ length ms
  pub is : drop k ms ≡ these ++ rest
  pub long : length these ≡ n

module _ {ms these rest : List ℕ} {k n : ℕ} (t : Turn ms k n these rest) where
  done_more : take (k + n) ms ≡ take k ms ++ these
  done_more = take-add k n ms ∙ ap (λ (l : List ℕ). take k ms ++ l) (ap (take n) t.is ∙ take_at these rest n t.long)

  pub turn_few : k + n ≤ length ms
  turn_few = let few = t.few in let long = t.long in omega (arith, length-drop k ms, ap length t.is, length-append these rest)

  turn_more : Turn ms (k + n) 0 [] rest
  turn_more = record { few = turn_few; is = sym (drop-drop n k ms) ∙ ap (drop n) t.is ∙ drop_at these rest n t.long; long = refl }

  pub turn_within : (group : List ℕ) → Within ms group → Within these group
  turn_within group w x a =
      w x (subst (Among x) (take-append-drop k ms) (among_behind (take k ms) (subst (Among x) (sym t.is) (among_front rest a))))

  spread-more : {group : List ℕ} (stream group₀ : List ℕ) → group ≡ spread_over (take k ms) stream group₀
      → spread_over these (drop (packet_length * k) stream) group ≡ spread_over (take (k + n) ms) stream group₀
  spread-more stream group₀ g =
      ap₂ (λ (j : ℕ) (l : List ℕ). spread_over these (drop (packet_length * j) stream) l) (sym (length-take-le k ms t.few)) g
      ∙ sym (ap (λ (l : List ℕ). spread_over l stream group₀) done_more ∙ spread_append (take k ms) these stream group₀)

  gather_more : {out : List ℕ} (group out₀ : List ℕ) → out ≡ copied out₀ (gathered (take k ms) group)
      → Within ms group → packet_length * length ms ≤ length out₀
      → over (packet_length * k) (gathered these group) out ≡ copied out₀ (gathered (take (k + n) ms) group)
  gather_more group out₀ o w h =
      let done = gathered (take k ms) group in
      let first : length done ≡ packet_length * k =
      length-gathered (take k ms) group (λ x a. w x (subst (Among x) (take-append-drop k ms) (among_front (drop k ms) a)))
      ∙ ap (λ (j : ℕ). packet_length * j) (length-take-le k ms t.few) in
      let more = length-gathered these group (turn_within group w) in
      let few = turn_few in
      let long = t.long in
      ap₂ (λ (j : ℕ) (l : List ℕ). over j (gathered these group) l) (sym first) o
      ∙ copied_append out₀ done (gathered these group) (omega arith)
      ∙ ap (copied out₀) (sym (ap (λ (l : List ℕ). gathered l group) done_more ∙ gathered_append (take k ms) these group))

-- none is moved yet
pub gather_none : (group out : List ℕ) → out ≡ copied out (gathered [] group)
unfolding copied gathered
gather_none group out = sym (ap (λ (l : List ℕ). l ++ out) (take-nil (length out)))

-- ---- one packet in a turn

module _ (ms : List ℕ) (k : ℕ) (h : k < length ms) where
  one : Turn ms k 1 (get_or ms k 0 ∷ []) (drop (k + 1) ms)
  one = record { few = omega arith; is = drop-cons ms k 0 h ∙ ap (λ (j : ℕ). get_or ms k 0 ∷ drop j ms) (sym (add-one k)); long = refl }

  pub one-within : (group : List ℕ) → Within ms group → packet_length * get_or ms k 0 + packet_length ≤ length group
  one-within group w = turn_within one group w (get_or ms k 0) here

  pub spread-one : {group : List ℕ} (stream group₀ : List ℕ) → group ≡ spread_over (take k ms) stream group₀
      → over (packet_length * get_or ms k 0) (take packet_length (drop (packet_length * k) stream)) group ≡ spread_over (take (k + 1) ms) stream group₀
  unfolding spread_over
  spread-one = spread-more one

  pub gather_one : {out : List ℕ} (group out₀ : List ℕ) → out ≡ copied out₀ (gathered (take k ms) group)
      → Within ms group → packet_length * length ms ≤ length out₀
      → over (packet_length * k) (take packet_length (drop (packet_length * get_or ms k 0) group)) out ≡ copied out₀ (gathered (take (k + 1) ms) group)
  unfolding gathered slot
  gather_one {out} group out₀ o w l =
      ap (λ (p : List ℕ). over (packet_length * k) p out) (sym (append-nil (slot (get_or ms k 0) group))) ∙ gather_more one group out₀ o w l

-- ---- a part of a buffer lent for a turn

module _ {ms these rest : List ℕ} {k n : ℕ} (t : Turn ms k n these rest) where
  abbrev size : ℕ
  size = packet_length * (k + n) - packet_length * k

  pub part-long : (bytes : List ℕ) → packet_length * length ms ≤ length bytes
      → length (take (packet_length * (k + n) - packet_length * k) (drop (packet_length * k) bytes)) ≡ packet_length * length these
  part-long bytes h =
      let few = turn_few t in
      let long = t.long in
      length-take-le size (drop (packet_length * k) bytes) (rw length-drop (omega arith)) ∙ omega arith

  pub spread-part : {group : List ℕ} (stream group₀ : List ℕ) → group ≡ spread_over (take k ms) stream group₀ → packet_length * length ms ≤ length stream
      → spread_over these (take (packet_length * (k + n) - packet_length * k) (drop (packet_length * k) stream)) group ≡ spread_over (take (k + n) ms) stream group₀
  spread-part {group} stream group₀ g h =
      let left = drop (packet_length * k) stream in
      sym (spread_surplus these (take size left) (drop size left) group (part-long stream h))
      ∙ ap (λ (s : List ℕ). spread_over these s group) (take-append-drop size left) ∙ spread-more t stream group₀ g

  pub gather_part : {out ys : List ℕ} (group out₀ : List ℕ)
      → ys ≡ copied (take (packet_length * (k + n) - packet_length * k) (drop (packet_length * k) out)) (gathered these group)
      → out ≡ copied out₀ (gathered (take k ms) group) → length out ≡ length out₀ → Within ms group → packet_length * length ms ≤ length out₀
      → put (packet_length * k) (packet_length * (k + n) - packet_length * k) out ys ≡ copied out₀ (gathered (take (k + n) ms) group)
  gather_part {out} {ys} group out₀ y o e w h =
      let more = length-gathered these group (turn_within t group w) in
      let full = part-long out (rw e h) in
      let long = t.long in
      put-over (packet_length * k) size out (y ∙ copied-over (take size (drop (packet_length * k) out)) (gathered these group) (full ∙ sym more)) (omega arith)
      ∙ gather_more t group out₀ o w h

-- ---- a round in a turn

-- the rounds before q are done, and the list has room for a round
pub record Rounds (carriers : ℕ) (frames slots list : List ℕ) (moved q : ℕ) : Type 0 where
  pub turn : Turn (places_from carriers frames slots 0) moved 0 [] (places_from carriers frames slots (round_steps * q))
  pub early : q ≤ frame_packets
  pub room : length list ≡ round_steps + 1

pub rounds_none : (carriers : ℕ) (frames slots : List ℕ) {list : List ℕ} → length list ≡ round_steps + 1 → Rounds carriers frames slots list 0 0
rounds_none carriers frames slots l = record { turn = record { few = omega arith; is = refl; long = refl }; early = omega arith; room = l }

module _ {carriers : ℕ} {frames slots list : List ℕ} {moved q : ℕ} (a : Listable carriers frames slots) (r : Rounds carriers frames slots list moved q) where
  pub rounds_all : frame_packets ≤ q → take moved (places_from carriers frames slots 0) ≡ places_from carriers frames slots 0
  rounds_all h =
      let ms = places_from carriers frames slots 0 in
      let early = r.early in
      let none : drop moved ms ≡ [] = r.turn.is ∙ places_none carriers frames slots a q (omega arith) in
      take_all moved ms (omega (arith, length-drop moved ms, ap length none))

  -- what is listed of round q comes next
  pub rounds_turn : {notes : List Note} {noted : ℕ} (next : List ℕ) (n : ℕ) → Noted carriers frames notes noted round_steps → q < frame_packets
      → take n next ≡ marked_in slots (take noted notes) q 0 (length (take noted notes)) → n ≡ length (marked_in slots (take noted notes) q 0 (length (take noted notes)))
      → Turn (places_from carriers frames slots 0) moved n (take (n - 0) next) (places_from carriers frames slots (round_steps * (q + 1)))
  rounds_turn {notes} {noted} next n i h e l =
      let all : n - 0 ≡ n = omega arith in
      let few = i.few in
      let long = i.long in
      let is : take (n - 0) next ≡ marked_in slots notes q 0 noted = ap (λ (j : ℕ). take j next) all ∙ e ∙ front_is slots notes q noted (omega arith) in
      record {
        few = r.turn.few;
        is = r.turn.is ∙ round_is carriers frames slots a i q h ∙ ap (λ (ms : List ℕ). ms ++ places_from carriers frames slots (round_steps * (q + 1))) (sym is);
        long = ap length (ap (λ (j : ℕ). take j next) all ∙ e) ∙ sym l;
      }

  -- and then the next round
  pub rounds_more : {these next : List ℕ} {n : ℕ} → Turn (places_from carriers frames slots 0) moved n these (places_from carriers frames slots (round_steps * (q + 1)))
      → q < frame_packets → length next ≡ length list → Rounds carriers frames slots next (moved + n) (q + 1)
  rounds_more t h l = let room = r.room in record { turn = turn_more t; early = omega arith; room = omega arith }
