-- Laws of the first check that holds. Assumes nothing.
use Prim.Native.Nat.{ℕ, zero, suc, ◌≤◌}
use mathlib.Core.Path.{◌≡◌, refl, sym, ap, ap₂, ◌∙◌}
use mathlib.Core.Bool.{Bool, true, false, cond, not, ◌&&◌, false≢true}
use mathlib.Core.List.{List, [], ◌∷◌, ◌++◌, append-nil}
use native.Mathlib.Omega.{arith}
use lib.Dec.{leb, eqb}
use lib.ListN.{get_or, drop}
use borrow.Author.Tests.{leb-true, ne_eqb, eq-eqb}
use Rattle.slices.proofs.Any.{both}
use Rattle.setting.specs.Refusal.{Check, first_of, NoneHolds, none, more, leaves, of_length}

-- ---- one check

-- one that holds answers
pub answers : (n : ℕ) {b : Bool} (cs : List Check) → b ≡ true → first_of ((n, b) ∷ cs) ≡ n
unfolding first_of
answers n cs e = rw e

-- one that does not hold is passed over
pub passed : (n : ℕ) {b : Bool} (cs : List Check) → b ≡ false → first_of ((n, b) ∷ cs) ≡ first_of cs
unfolding first_of
passed n cs e = rw e

-- the answer is that of the checks behind the first k, which do not hold
abbrev pub Past : ℕ → List Check → Type 0
Past k cs = first_of cs ≡ first_of (drop k cs)

-- ---- a fixed length

pub at_length : (fixed lent refusal : ℕ) → lent ≡ fixed → of_length fixed lent refusal ≡ refusal
unfolding of_length
at_length fixed lent refusal l = rw (eq-eqb lent fixed l)

pub off_length : (fixed lent refusal : ℕ) → (lent ≡ fixed → ⊥) → of_length fixed lent refusal ≡ 1
unfolding of_length
off_length fixed lent refusal d = rw (ne_eqb lent fixed d)

-- ---- none

pub first_none : {cs : List Check} → NoneHolds cs → first_of cs ≡ 0
unfolding first_of
first_none none = refl
first_none (more e rest) = rw e (first_none rest)

-- no check has the number 0, which says that none holds
abbrev pub numbered : List Check → Bool
numbered [] = true
numbered (c ∷ cs) = leb 1 c.0 && numbered cs

one_more : (n : ℕ) (b : Bool) (cs : List Check) → 1 ≤ n → cond b n (first_of cs) ≡ 0 → (first_of cs ≡ 0 → NoneHolds cs) → NoneHolds ((n, b) ∷ cs)
one_more n true cs h e rest = absurd (omega arith)
one_more n false cs h e rest = more refl (rest e)

pub none_first : (cs : List Check) → numbered cs ≡ true → first_of cs ≡ 0 → NoneHolds cs
unfolding first_of
none_first [] t e = none
none_first (c ∷ cs) t e =
    let p = both (leb 1 c.0) (numbered cs) t in
    one_more c.0 c.1 cs (leb-true 1 c.0 p.0) e (none_first cs p.1)

pub numbered_append : (cs ds : List Check) → numbered cs ≡ true → numbered ds ≡ true → numbered (cs ++ ds) ≡ true
numbered_append [] ds e f = f
numbered_append (c ∷ cs) ds e f =
    let p = both (leb 1 c.0) (numbered cs) e in
    ap₂ ◌&&◌ p.0 (numbered_append cs ds p.1 f)

pub none_at : {cs : List Check} → NoneHolds cs → (k : ℕ) → (get_or cs k (0, false)).1 ≡ false
none_at none k = refl
none_at (more e rest) zero = e
none_at (more e rest) (suc k) = none_at rest k

-- ---- checks behind checks

pub none_append : {cs ds : List Check} → NoneHolds cs → NoneHolds ds → NoneHolds (cs ++ ds)
none_append none q = q
none_append (more e p) q = more e (none_append p q)

pub none_before : (cs ds : List Check) → NoneHolds (cs ++ ds) → NoneHolds cs
none_before [] ds p = none
none_before (c ∷ cs) ds (more e p) = more e (none_before cs ds p)

pub none_behind : (cs : List Check) {ds : List Check} → NoneHolds (cs ++ ds) → NoneHolds ds
none_behind [] p = p
none_behind (c ∷ cs) (more e p) = none_behind cs p

-- the first leave the answer to the others
pub onward : {cs : List Check} (ds : List Check) → NoneHolds cs → first_of (cs ++ ds) ≡ first_of ds
onward ds none = refl
onward ds (more e p) = passed _ _ e ∙ onward ds p

-- the first answer for all
pub at_once : (cs ds : List Check) → (first_of cs ≡ 0 → ⊥) → first_of (cs ++ ds) ≡ first_of cs
unfolding first_of
at_once [] ds h = absurd (h refl)
at_once ((n, true) ∷ cs) ds h = refl
at_once ((n, false) ∷ cs) ds h = at_once cs ds h

-- ---- a number that no check answers

-- no check with the number n holds
abbrev pub idle : ℕ → List Check → Bool
idle n [] = true
idle n (c ∷ cs) = not (eqb c.0 n && c.1) && idle n cs

pub idle_append : (n : ℕ) (cs ds : List Check) → idle n cs ≡ true → idle n ds ≡ true → idle n (cs ++ ds) ≡ true
idle_append n [] ds e f = f
idle_append n (c ∷ cs) ds e f =
    let p = both (not (eqb c.0 n && c.1)) (idle n cs) e in
    ap₂ ◌&&◌ p.0 (idle_append n cs ds p.1 f)

-- n is then answered by the checks behind them, or by those before them
pub idle-before : (n : ℕ) (cs ds : List Check) → idle n cs ≡ true → first_of (cs ++ ds) ≡ n → first_of ds ≡ n
unfolding first_of
idle-before n [] ds i e = e
idle-before n ((m, true) ∷ cs) ds i e = absurd (false≢true (sym (rw (eq-eqb m n e) refl) ∙ (both (not (eqb m n && true)) (idle n cs) i).0))
idle-before n ((m, false) ∷ cs) ds i e = idle-before n cs ds (both (not (eqb m n && false)) (idle n cs) i).1 e

pub never_first : (n : ℕ) (cs : List Check) → (n ≡ 0 → ⊥) → idle n cs ≡ true → first_of cs ≡ n → ⊥
unfolding first_of
never_first n cs z i e = z (sym (idle-before n cs [] i (ap first_of (append-nil cs) ∙ e)))

pub idle-behind : (n : ℕ) (cs ds : List Check) → (n ≡ 0 → ⊥) → idle n ds ≡ true → first_of (cs ++ ds) ≡ n → first_of cs ≡ n
unfolding first_of
idle-behind n [] ds z i e = absurd (never_first n ds z i e)
idle-behind n ((m, true) ∷ cs) ds z i e = e
idle-behind n ((m, false) ∷ cs) ds z i e = idle-behind n cs ds z i e

-- ---- what a call leaves, where n is the refusal and m what the code found it to be

module _ {m n : ℕ} (e : m ≡ n) where
  pub kept : (new old : List ℕ) → (m ≡ 0 → ⊥) → old ≡ leaves n new old
  unfolding leaves
  kept new old h = rw (sym e, ne_eqb m 0 h)

  pub written : (new old : List ℕ) → m ≡ 0 → new ≡ leaves n new old
  unfolding leaves
  written new old z = rw (sym e ∙ z)
