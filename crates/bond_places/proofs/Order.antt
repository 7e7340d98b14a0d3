-- The order of places is a strict total order, and within a carrier that of frame position, then slot. Assumes nothing.
use Prim.Native.Nat.{ℕ, ◌-◌, ◌*◌, ◌≤◌, ◌<◌}
use mathlib.Core.Path.{◌≡◌, refl, sym, ap, ap₂, ◌∙◌}
use mathlib.Core.Logic.{◌⊎◌, inl, inr}
use mathlib.Core.Bool.{Bool, true, false, ◌&&◌, ◌||◌, or-true}
use native.Mathlib.Omega.{arith}
use native.Mathlib.Decide.{dec_lt}
use borrow.Author.Tests.{ltb-true, lt-ltb, le-ltb, eq-eqb, ne_eqb, eqb-true}
use lib.Dec.{ltb, eqb}
use Rattle.slices.proofs.Any.{both}
use Rattle.bond_places.specs.Order.{place_of, Place, comes_before, Before, Framed, OfOneGroup, StrictTotal, ByPositionThenSlot}

-- the order in words: less, or equal and on a lower carrier
pub data Less (x y k l : ℕ) : Type 0 where
  less : x < y → Less x y k l
  level : x ≡ y → k < l → Less x y k l

abbrev LessThan : Place → Place → Type 0
LessThan a b = Less (a.at * b.frames) (b.at * a.frames) a.carrier b.carrier

pub from-test : (a b : Place) → Before a b → LessThan a b
unfolding comes_before
from-test a b e = by_test (ltb (a.at * b.frames) (b.at * a.frames)) refl e
  where
    by_test : (t : Bool) → ltb (a.at * b.frames) (b.at * a.frames) ≡ t
        → t || (eqb (a.at * b.frames) (b.at * a.frames) && ltb a.carrier b.carrier) ≡ true → LessThan a b
    by_test true f g = less (ltb-true (a.at * b.frames) (b.at * a.frames) f)
    by_test false f g =
        let p = both (eqb (a.at * b.frames) (b.at * a.frames)) (ltb a.carrier b.carrier) g in
        level (eqb-true (a.at * b.frames) (b.at * a.frames) p.0) (ltb-true a.carrier b.carrier p.1)

pub to_test : (a b : Place) → LessThan a b → Before a b
unfolding comes_before
to_test a b (less h) = rw (lt-ltb (a.at * b.frames) (b.at * a.frames) h)
to_test a b (level e h) = rw (eq-eqb (a.at * b.frames) (b.at * a.frames) e, lt-ltb a.carrier b.carrier h) (or-true (ltb (a.at * b.frames) (b.at * a.frames)))

not-before : (a b : Place) → (LessThan a b → ⊥) → comes_before a b ≡ false
not-before a b d = by_test (comes_before a b) refl
  where
    by_test : (t : Bool) → comes_before a b ≡ t → t ≡ false
    by_test true e = absurd (d (from-test a b e))
    by_test false e = refl

irreflexive_less : (a : Place) → LessThan a a → ⊥
irreflexive_less a (less h) = omega arith
irreflexive_less a (level e h) = omega arith

-- ---- on a common scale

-- twelfths of a super frame: with 3 frames or 4, a place's share of it is a whole number of them
abbrev key : Place → ℕ
key a = a.at * (7 - a.frames)

abbrev Scaled : ℕ → ℕ → ℕ → ℕ → Type 0
Scaled p q f g =
    (p * g < q * f → p * (7 - f) < q * (7 - g)) × (p * g ≡ q * f → p * (7 - f) ≡ q * (7 - g))
    × (p * (7 - f) < q * (7 - g) → p * g < q * f) × (p * (7 - f) ≡ q * (7 - g) → p * g ≡ q * f)

scaled : (p q f g : ℕ) → (f ≡ 3) ⊎ (f ≡ 4) → (g ≡ 3) ⊎ (g ≡ 4) → Scaled p q f g
scaled p q f g (inl a) (inl b) = rw (a, b) ((λ h. omega arith), (λ h. omega arith), (λ h. omega arith), (λ h. omega arith))
scaled p q f g (inl a) (inr b) = rw (a, b) ((λ h. omega arith), (λ h. omega arith), (λ h. omega arith), (λ h. omega arith))
scaled p q f g (inr a) (inl b) = rw (a, b) ((λ h. omega arith), (λ h. omega arith), (λ h. omega arith), (λ h. omega arith))
scaled p q f g (inr a) (inr b) = rw (a, b) ((λ h. omega arith), (λ h. omega arith), (λ h. omega arith), (λ h. omega arith))

abbrev ByKey : Place → Place → Type 0
ByKey a b = Less (key a) (key b) a.carrier b.carrier

module _ (a b : Place) (fa : Framed a) (fb : Framed b) where
  to_key : LessThan a b → ByKey a b
  to_key (less h) = less ((scaled a.at b.at a.frames b.frames fa fb).0 h)
  to_key (level e h) = level ((scaled a.at b.at a.frames b.frames fa fb).1 e) h

  pub from_key : ByKey a b → LessThan a b
  from_key (less h) = less ((scaled a.at b.at a.frames b.frames fa fb).2 h)
  from_key (level e h) = level ((scaled a.at b.at a.frames b.frames fa fb).3 e) h

less_trans : (x y z k l m : ℕ) → Less x y k l → Less y z l m → Less x z k m
less_trans x y z k l m (less h) (less g) = less (omega arith)
less_trans x y z k l m (less h) (level e g) = less (omega arith)
less_trans x y z k l m (level e h) (less g) = less (omega arith)
less_trans x y z k l m (level e h) (level f g) = level (e ∙ f) (omega arith)

-- the same key on carriers of the same number of frames is the same place
same_at : (p q f g : ℕ) → (f ≡ 3) ⊎ (f ≡ 4) → f ≡ g → p * (7 - f) ≡ q * (7 - g) → p ≡ q
same_at p q f g (inl a) e h = omega (arith, rw (sym e ∙ a, a) at h)
same_at p q f g (inr a) e h = omega (arith, rw (sym e ∙ a, a) at h)

same_place : (a b : Place) → Framed a → a.carrier ≡ b.carrier → a.frames ≡ b.frames → key a ≡ key b → a ≡ b
same_place a b fa c f e = λ i. record { carrier = c i; frames = f i; at = same_at a.at b.at a.frames b.frames fa f e i }

-- one of two different places comes first
either : (a b : Place) → Framed a → OfOneGroup a b → (a ≡ b → ⊥) → ByKey a b ⊎ ByKey b a
either a b fa g d = by_key (dec_lt (key a) (key b)) (dec_lt (key b) (key a)) (dec_lt a.carrier b.carrier) (dec_lt b.carrier a.carrier)
  where
    by_key : Dec (key a < key b) → Dec (key b < key a) → Dec (a.carrier < b.carrier) → Dec (b.carrier < a.carrier) → ByKey a b ⊎ ByKey b a
    by_key (yes h) _ _ _ = inl (less h)
    by_key (no h) (yes q) _ _ = inr (less q)
    by_key (no h) (no q) (yes c) _ = inl (level (omega arith) c)
    by_key (no h) (no q) (no c) (yes e) = inr (level (omega arith) e)
    by_key (no h) (no q) (no c) (no e) =
        let k : a.carrier ≡ b.carrier = omega arith in
        let same : key a ≡ key b = omega arith in
        absurd (d (same_place a b fa k (g k) same))

back : (a b : Place) → Framed a → Framed b → ByKey a b ⊎ ByKey b a → Before a b ⊎ Before b a
back a b fa fb (inl h) = inl (to_test a b (from_key a b fa fb h))
back a b fa fb (inr h) = inr (to_test b a (from_key b a fb fa h))

pub strict_total : StrictTotal
strict_total =
    record {
      irreflexive = λ a e. irreflexive_less a (from-test a a e);
      transitive = λ a b c fa fb fc e f.
          to_test a c (from_key a c fa fc (less_trans (key a) (key b) (key c) a.carrier b.carrier c.carrier (to_key a b fa fb (from-test a b e)) (to_key b c fb fc (from-test b c f))));
      total = λ a b fa fb g d. back a b fa fb (either a b fa g d);
    }

-- ---- within a carrier

-- the cross products are in the order of the places
module _ (p q f : ℕ) (h : (f ≡ 3) ⊎ (f ≡ 4)) where
  same_less : p < q → p * f < q * f
  same_less l = by_frames h
    where
      by_frames : (f ≡ 3) ⊎ (f ≡ 4) → p * f < q * f
      by_frames (inl e) = rw e (omega arith)
      by_frames (inr e) = rw e (omega arith)

  same_not : q ≤ p → p * f < q * f → ⊥
  same_not l = by_frames h
    where
      by_frames : (f ≡ 3) ⊎ (f ≡ 4) → p * f < q * f → ⊥
      by_frames (inl e) = rw e (λ g. omega arith)
      by_frames (inr e) = rw e (λ g. omega arith)

module _ (carrier frames p q : ℕ) (h : (frames ≡ 3) ⊎ (frames ≡ 4)) where
  abbrev here : ℕ → Place
  here n = record { carrier = carrier; frames = frames; at = n }

  earlier : p < q → comes_before (here p) (here q) ≡ true
  earlier l = to_test (here p) (here q) (less (same_less p q frames h l))

  later : q ≤ p → comes_before (here p) (here q) ≡ false
  later l = not-before (here p) (here q) absurd_less
    where
      absurd_less : LessThan (record { carrier = carrier; frames = frames; at = p }) (record { carrier = carrier; frames = frames; at = q }) → ⊥
      absurd_less (less g) = same_not p q frames h l g
      absurd_less (level e g) = omega arith

pub by_position_then_slot : ByPositionThenSlot
by_position_then_slot carrier frames f i g j h f₁ g₁ i₁ i₂ j₁ j₂ = by_order (dec_lt f g) (dec_lt g f) (dec_lt i j)
  where
    by_order : Dec (f < g) → Dec (g < f) → Dec (i < j)
        → comes_before (record { carrier = carrier; frames = frames; at = place_of f i }) (record { carrier = carrier; frames = frames; at = place_of g j })
        ≡ ltb f g || (eqb f g && ltb i j)
    by_order (yes a) _ _ = earlier carrier frames (place_of f i) (place_of g j) h (omega arith) ∙ sym (ap (λ (t : Bool). t || (eqb f g && ltb i j)) (lt-ltb f g a))
    by_order (no a) (yes b) _ =
        later carrier frames (place_of f i) (place_of g j) h (omega arith)
        ∙ sym (ap₂ (λ (t s : Bool). t || (s && ltb i j)) (le-ltb f g (omega arith)) (ne_eqb f g (λ e. omega arith)))
    by_order (no a) (no b) (yes c) =
        earlier carrier frames (place_of f i) (place_of g j) h (omega arith)
        ∙ sym (rw (le-ltb f g (omega arith), eq-eqb f g (omega arith), lt-ltb i j c))
    by_order (no a) (no b) (no c) =
        later carrier frames (place_of f i) (place_of g j) h (omega arith)
        ∙ sym (rw (le-ltb f g (omega arith), eq-eqb f g (omega arith), le-ltb i j (omega arith)))
