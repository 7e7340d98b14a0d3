-- Marked halves, gone through from the highest on: the next one stands behind as many halves as its number has zeros above, four each.
-- Assumes nothing.
use Prim.Native.Nat.{ℕ, zero, suc, ◌+◌, ◌-◌, ◌*◌, ◌/◌, ◌^◌, ◌≤◌, ◌<◌}
use mathlib.Core.Path.{◌≡◌, refl, sym, ap, ap₂, subst, ◌∙◌}
use mathlib.Core.Bool.{Bool, true, false, cond}
use mathlib.Core.List.{List, [], ◌∷◌, ◌++◌}
use native.Mathlib.Nat.{lt_of_not-le}
use native.Mathlib.Omega.{arith}
use lib.Count.{ones, ones_cat, count_leading_zeros, leading_unique}
use lib.Dec.{eqb}
use lib.ListN.{length, get_or, take, drop, replicate, length-drop}
use lib.Pow.{pow-add, pow_pos, shl-shr}
use Rattle.bits.proofs.Laws.{fit_drop}
use Rattle.packet.specs.Packets.{packet_length}
use Rattle.receiver.specs.Store.{numbered, slots_for, HasPackets, none, more}
use Rattle.receiver_hand_out.specs.Halves.{halves_of, marked}
use Rattle.receiver_hand_out.proofs.Joined.{joined, joined_lt, joined-from, joined_none, marked_fit, length-halves, halves_fit}
use Rattle.receiver_hand_out.proofs.Handing.{HandingOut, handing_passed}

-- ---- marks

-- one bit for each
marked_ones : (r : ℕ) (ns : List ℕ) → ones (joined 4 (marked r ns)) ≡ slots_for r ns
unfolding joined marked slots_for ones
marked_ones r [] = refl
marked_ones r (n ∷ ns) =
    ones_cat (length (marked r ns) * 4) (cond (eqb n r) 8 0) (joined 4 (marked r ns)) (joined_lt (marked_fit r ns))
    ∙ ap₂ ◌+◌ (one (eqb n r)) (marked_ones r ns)
  where
    one : (t : Bool) → ones (cond t 8 0) ≡ cond t 1 0
    one true = refl
    one false = refl

-- a mark is a half that is 8
eight : (t : Bool) → eqb (cond t 8 0) 8 ≡ t
eight true = refl
eight false = refl

marked_again : (r : ℕ) (ns : List ℕ) → marked 8 (marked r ns) ≡ marked r ns
unfolding marked
marked_again r [] = refl
marked_again r (n ∷ ns) = ap₂ (λ (t : Bool) (l : List ℕ). cond t 8 0 ∷ l) (eight (eqb n r)) (marked_again r ns)

-- a word that was marked is a word of marks, and so is one that has such marks in its four lowest halves
pub are_marked : (r m : ℕ) (hs : List ℕ) → halves_of m ≡ marked r hs → marked 8 (halves_of m) ≡ halves_of m
are_marked r m hs e = ap (marked 8) e ∙ marked_again r hs ∙ sym e

passed_again : (k : ℕ) {hs : List ℕ} → marked 8 hs ≡ hs → marked 8 (replicate k 0 ++ hs) ≡ replicate k 0 ++ hs
unfolding marked
passed_again zero e = e
passed_again (suc k) e = ap (λ (l : List ℕ). 0 ∷ l) (passed_again k e)

pub are_marked_last : (r m : ℕ) (hs : List ℕ) → halves_of m ≡ replicate 12 0 ++ marked r hs → marked 8 (halves_of m) ≡ halves_of m
are_marked_last r m hs e = ap (marked 8) e ∙ passed_again 12 (marked_again r hs) ∙ sym e

pub marked-slots : (r : ℕ) (ns : List ℕ) → slots_for 8 (marked r ns) ≡ slots_for r ns
unfolding marked slots_for
marked-slots r [] = refl
marked-slots r (n ∷ ns) = ap₂ (λ (t : Bool) (k : ℕ). cond t 1 0 + k) (eight (eqb n r)) (marked-slots r ns)

pub marked-numbered : (r : ℕ) (ns bytes : List ℕ) → numbered 8 (marked r ns) bytes ≡ numbered r ns bytes
unfolding marked numbered
marked-numbered r [] bytes = refl
marked-numbered r (n ∷ ns) bytes =
    ap₂ (λ (t : Bool) (l : List ℕ). cond t (take packet_length bytes ++ l) l) (eight (eqb n r)) (marked-numbered r ns (drop packet_length bytes))

pub marked-held : {r : ℕ} {ns bytes : List ℕ} → HasPackets r ns bytes → HasPackets 8 (marked r ns) bytes
unfolding marked
marked-held none = none
marked-held {r} (more {n = n} h t) = more (λ e. h (sym (eight (eqb n r)) ∙ e)) (marked-held t)

marked-at : (r : ℕ) (ns : List ℕ) (i : ℕ) → i < length ns → get_or (marked r ns) i 0 ≡ cond (eqb (get_or ns i 0) r) 8 0
unfolding marked
marked-at r [] i h = absurd (omega arith)
marked-at r (n ∷ ns) zero h = refl
marked-at r (n ∷ ns) (suc i) h = marked-at r ns i (omega arith)

pub marked-drop : (r n : ℕ) (ns : List ℕ) → marked r (drop n ns) ≡ drop n (marked r ns)
unfolding marked
marked-drop r zero ns = refl
marked-drop r (suc n) [] = refl
marked-drop r (suc n) (k ∷ ns) = marked-drop r n ns

-- ---- a number whose halves are marks

module _ (m : ℕ) (are : marked 8 (halves_of m) ≡ halves_of m) where
  abbrev ms : List ℕ
  ms = halves_of m

  -- half i and those behind it
  from : (i : ℕ) → i < 16 → {t : Bool} → eqb (get_or ms i 0) 8 ≡ t → joined 4 (drop i ms) ≡ cond t 8 0 * 2 ^ ((16 - (i + 1)) * 4) + joined 4 (drop (i + 1) ms)
  from i h e =
      let l = length-halves m in
      joined-from 4 ms l i h
      ∙ ap (λ (n : ℕ). n * 2 ^ ((16 - (i + 1)) * 4) + joined 4 (drop (i + 1) ms))
      (ap (λ (l : List ℕ). get_or l i 0) (sym are) ∙ marked-at 8 ms i (omega arith) ∙ ap (λ (t : Bool). cond t 8 0) e)

  -- where nothing is left of the number
  pub no_slot : (i : ℕ) → joined 4 (drop i ms) ≡ 0 → slots_for 8 (drop i ms) ≡ 0
  unfolding ones
  no_slot i z = sym (marked_ones 8 (drop i ms)) ∙ ap (λ (l : List ℕ). ones (joined 4 l)) (marked-drop 8 i ms ∙ ap (drop i) are) ∙ ap ones z

  module _ (store out₀ : List ℕ) (at₀ : ℕ) (out : List ℕ) (at : ℕ) where
    -- a half is the next that is marked, and `rest` are the marks from it on
    pub record Next (rest : ℕ) : Type 0 where
      pub place : ℕ
      pub handed : HandingOut 8 ms store out₀ at₀ out place at
      pub inside : place < 16
      pub here : eqb (get_or ms place 0) 8 ≡ true
      pub same : rest ≡ joined 4 (drop place ms)

    pub next : (k : ℕ) {i rest : ℕ} → 16 ≤ i + k → HandingOut 8 ms store out₀ at₀ out i at → rest ≡ joined 4 (drop i ms) → (rest ≡ 0 → ⊥) → Next rest
    next zero {i} h w e some =
        let l = length-halves m in
        absurd (some (e ∙ joined_none 4 ms i (omega arith)))
    next (suc k) {i} {rest} h w e some =
        let l = length-halves m in
        let inside : i < 16 = lt_of_not-le (λ g. some (e ∙ joined_none 4 ms i (omega arith))) in
        by_half (eqb (get_or ms i 0) 8) inside refl (e ∙ from i inside refl) (λ g e'. next k (omega arith) g e' some)
      where
        by_half : (t : Bool) → i < 16 → eqb (get_or ms i 0) 8 ≡ t → rest ≡ cond t 8 0 * 2 ^ ((16 - (i + 1)) * 4) + joined 4 (drop (i + 1) ms)
            → (HandingOut 8 ms store out₀ at₀ out (i + 1) at → rest ≡ joined 4 (drop (i + 1) ms) → Next rest)
            → Next rest
        by_half true inside d b later = record { place = i; handed = w; inside = inside; here = d; same = e }
        by_half false inside d b later =
            let l = length-halves m in
            later (handing_passed 8 ms store out₀ at₀ w (omega arith) d) (omega arith)

    module _ {rest : ℕ} (x : Next rest) where
      abbrev behind : ℕ
      behind = 16 - (x.place + 1)

      rest_is : rest ≡ 8 * 2 ^ (behind * 4) + joined 4 (drop (x.place + 1) ms)
      rest_is = x.same ∙ from x.place x.inside x.here

      small : joined 4 (drop (x.place + 1) ms) < 2 ^ (behind * 4)
      small =
          subst (λ (n : ℕ). joined 4 (drop (x.place + 1) ms) < 2 ^ (n * 4))
          (length-drop (x.place + 1) ms ∙ ap (λ (n : ℕ). n - (x.place + 1)) (length-halves m))
          (joined_lt (fit_drop (x.place + 1) (halves_fit m)))

      -- it has four zeros above for each half before it
      pub zeros : count_leading_zeros 64 rest ≡ 4 * x.place
      zeros =
          let l = x.inside in
          let e = rest_is in
          let s = small in
          let top = pow-add 2 (behind * 4) 4 in
          sym (leading_unique 64 rest (4 * x.place) (behind * 4 + 4) (omega arith) (omega arith) (omega arith))

      -- and is taken out
      mark : 2 ^ 63 / 2 ^ count_leading_zeros 64 rest ≡ 8 * 2 ^ (behind * 4)
      mark =
          let l = x.inside in
          let whole : 63 ≡ 3 + behind * 4 + 4 * x.place = omega arith in
          ap (λ (n : ℕ). 2 ^ 63 / 2 ^ n) zeros
          ∙ ap (λ (n : ℕ). 2 ^ n / 2 ^ (4 * x.place)) whole
          ∙ ap (λ (n : ℕ). n / 2 ^ (4 * x.place)) (pow-add 2 (3 + behind * 4) (4 * x.place))
          ∙ shl-shr (2 ^ (3 + behind * 4)) (4 * x.place)
          ∙ pow-add 2 3 (behind * 4)

      pub mark_in : (0 < 2 ^ 63 / 2 ^ count_leading_zeros 64 rest) × (2 ^ 63 / 2 ^ count_leading_zeros 64 rest ≤ rest)
      mark_in =
          let e = rest_is in
          let k = mark in
          let some = pow_pos (behind * 4) in
          (omega arith, omega arith)

      pub unmarked : rest - 2 ^ 63 / 2 ^ count_leading_zeros 64 rest ≡ joined 4 (drop (x.place + 1) ms)
      unmarked =
          let e = rest_is in
          let k = mark in
          omega arith
