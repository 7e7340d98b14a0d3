-- Lists of numbers sorted by a test, picked by one, and mapped: their members, and that they rise. Assumes nothing.
use Prim.Native.Nat.{ℕ, zero, suc, ◌+◌, ◌≤◌, ◌<◌}
use mathlib.Core.Path.{◌≡◌, refl, sym, ap, ap₂, subst, ◌∙◌}
use mathlib.Core.Logic.{◌⊎◌, inl, inr}
use mathlib.Core.Bool.{Bool, true, false, cond, true≢false}
use mathlib.Core.List.{List, [], ◌∷◌, ◌++◌, map, append_assoc}
use native.Mathlib.Omega.{arith}
use native.Mathlib.Decide.{ℕ_discrete}
use borrow.Author.Tests.{ltb-true, lt-ltb}
use lib.Dec.{ltb}
use lib.ListN.{length}
use Rattle.slices.specs.Slices.{Among, here, there}
use Rattle.bond_places.specs.Order.{picked, insert, sorted, Rising, none, more}

-- ---- members

-- none is among none
among_none : {x : ℕ} → Among x [] → ⊥
among_none h = elim h [ ]

-- a member is the head or stands behind it
among_split : {x m : ℕ} {ms : List ℕ} → Among x (m ∷ ms) → (x ≡ m) ⊎ Among x ms
among_split here = inl refl
among_split (there a) = inr a

-- what equals the head is a member
among_head : {x m : ℕ} (ms : List ℕ) → x ≡ m → Among x (m ∷ ms)
among_head {x} ms e = subst (λ (y : ℕ). Among x (y ∷ ms)) e here

-- what a member is mapped to is a member
pub map_among : (f : ℕ → ℕ) {u : ℕ} (us : List ℕ) → Among u us → Among (f u) (map f us)
map_among f [] a = absurd (among_none a)
map_among f {u} (v ∷ us) a = by_split (λ b. map_among f us b) (among_split a)
  where
    by_split : (Among u us → Among (f u) (map f us)) → (u ≡ v) ⊎ Among u us → Among (f u) (f v ∷ map f us)
    by_split below (inl e) = among_head (map f us) (ap f e)
    by_split below (inr b) = there (below b)

-- a member of a mapped list comes from a member
pub record Origin (f : ℕ → ℕ) (x : ℕ) (us : List ℕ) : Type 0 where
  pub from : ℕ
  pub member : Among from us
  pub is : f from ≡ x

pub among_map : (f : ℕ → ℕ) {x : ℕ} (us : List ℕ) → Among x (map f us) → Origin f x us
among_map f [] a = absurd (among_none a)
among_map f {x} (v ∷ us) a = by_split (λ b. among_map f us b) (among_split a)
  where
    by_split : (Among x (map f us) → Origin f x us) → (x ≡ f v) ⊎ Among x (map f us) → Origin f x (v ∷ us)
    by_split below (inl e) = record { from = v; member = here; is = sym e }
    by_split below (inr b) = let o = below b in record { from = o.from; member = there o.member; is = o.is }

-- ---- rising lists

-- the head comes before all behind it, and those rise too
first_rising : {before : ℕ → ℕ → Bool} {m : ℕ} {ms : List ℕ} → Rising before (m ∷ ms) → (x : ℕ) → Among x ms → before m x ≡ true
first_rising (more h r) = h

rest_rising : {before : ℕ → ℕ → Bool} {m : ℕ} {ms : List ℕ} → Rising before (m ∷ ms) → Rising before ms
rest_rising (more h r) = r

-- a rising list is known by its members
module _ (before : ℕ → ℕ → Bool) (asymmetric : (x y : ℕ) → before x y ≡ true → before y x ≡ true → ⊥) where
  -- two rising lists with the same members have the same head
  same_head : (a b : ℕ) (as₁ bs : List ℕ) → Rising before (a ∷ as₁) → Rising before (b ∷ bs) → Among a (b ∷ bs) → Among b (a ∷ as₁) → a ≡ b
  same_head a b as₁ bs p q f g = by_split (among_split f) (among_split g)
    where
      by_split : (a ≡ b) ⊎ Among a bs → (b ≡ a) ⊎ Among b as₁ → a ≡ b
      by_split (inl e) _ = e
      by_split (inr h) (inl e) = sym e
      by_split (inr h) (inr k) = absurd (asymmetric a b (first_rising p b k) (first_rising q a h))

  -- what is behind the head is not the head
  behind : (a b x : ℕ) (as₁ bs : List ℕ) → a ≡ b → Rising before (a ∷ as₁) → Among x (b ∷ bs) → Among x as₁ → Among x bs
  behind a b x as₁ bs e p f h = by_split (among_split f)
    where
      by_split : (x ≡ b) ⊎ Among x bs → Among x bs
      by_split (inl g) =
          let l = subst (λ (z : ℕ). before a z ≡ true) (g ∙ sym e) (first_rising p x h) in
          absurd (asymmetric a a l l)
      by_split (inr k) = k

  -- so they are the same
  pub same_rising : (xs ys : List ℕ) → Rising before xs → Rising before ys
      → ((x : ℕ) → Among x xs → Among x ys) → ((x : ℕ) → Among x ys → Among x xs) → xs ≡ ys
  same_rising [] [] p q f g = refl
  same_rising [] (y ∷ ys) p q f g = absurd (among_none (g y here))
  same_rising (x ∷ xs) [] p q f g = absurd (among_none (f x here))
  same_rising (x ∷ xs) (y ∷ ys) p q f g =
      let e = same_head x y xs ys p q (f x here) (g y here) in
      ap₂ (λ (z : ℕ) (zs : List ℕ). z ∷ zs) e
      (same_rising xs ys (rest_rising p) (rest_rising q)
      (λ z h. behind x y z xs ys e p (f z (there h)) h)
      (λ z h. behind y x z ys xs (sym e) q (g z (there h)) h))

-- a rising list mapped by what keeps the order
pub map_rising : (before : ℕ → ℕ → Bool) (f : ℕ → ℕ) (us : List ℕ)
    → ((u v : ℕ) → Among u us → Among v us → u < v → before (f u) (f v) ≡ true) → Rising ltb us → Rising before (map f us)
map_rising before f [] h r = none
map_rising before f (u ∷ us) h r =
    more (λ x a. first x (among_map f us a)) (map_rising before f us (λ v w a b. h v w (there a) (there b)) (rest_rising r))
  where
    first : (x : ℕ) → Origin f x us → before (f u) x ≡ true
    first x o =
        let l = h u o.from here (there o.member) (ltb-true u o.from (first_rising r o.from o.member)) in
        rw o.is at l

-- ---- sorted lists

-- the members with one inserted are that one and the others
among_insert : (before : ℕ → ℕ → Bool) (x m : ℕ) (ms : List ℕ) → Among x (insert before m ms) → (x ≡ m) ⊎ Among x ms
unfolding insert
among_insert before x m [] a = among_split a
among_insert before x m (n ∷ ns) a = by_test (before m n) a (among_insert before x m ns)
  where
    further : (x ≡ m) ⊎ Among x ns → (x ≡ m) ⊎ Among x (n ∷ ns)
    further (inl e) = inl e
    further (inr b) = inr (there b)

    by_split : (Among x (insert before m ns) → (x ≡ m) ⊎ Among x ns) → (x ≡ n) ⊎ Among x (insert before m ns) → (x ≡ m) ⊎ Among x (n ∷ ns)
    by_split below (inl e) = inr (among_head ns e)
    by_split below (inr b) = further (below b)

    by_test : (t : Bool) → Among x (cond t (m ∷ n ∷ ns) (n ∷ insert before m ns)) → (Among x (insert before m ns) → (x ≡ m) ⊎ Among x ns)
        → (x ≡ m) ⊎ Among x (n ∷ ns)
    by_test true b below = among_split b
    by_test false b below = by_split below (among_split b)

insert_among : (before : ℕ → ℕ → Bool) (x m : ℕ) (ms : List ℕ) → Among x (m ∷ ms) → Among x (insert before m ms)
unfolding insert
insert_among before x m [] a = a
insert_among before x m (n ∷ ns) a = by_test (before m n) (insert_among before x m ns)
  where
    by_split : (Among x (m ∷ ns) → Among x (insert before m ns)) → (x ≡ m) ⊎ Among x (n ∷ ns) → Among x (n ∷ insert before m ns)
    by_split below (inl e) = there (below (among_head ns e))
    by_split below (inr b) = by_next (among_split b)
      where
        by_next : (x ≡ n) ⊎ Among x ns → Among x (n ∷ insert before m ns)
        by_next (inl e) = among_head (insert before m ns) e
        by_next (inr c) = there (below (there c))

    by_test : (t : Bool) → (Among x (m ∷ ns) → Among x (insert before m ns)) → Among x (cond t (m ∷ n ∷ ns) (n ∷ insert before m ns))
    by_test true below = a
    by_test false below = by_split below (among_split a)

-- sorting keeps the members, none lost and none new
pub among_sorted : (before : ℕ → ℕ → Bool) (x : ℕ) (ms : List ℕ) → Among x (sorted before ms) → Among x ms
unfolding sorted
among_sorted before x [] a = a
among_sorted before x (m ∷ ms) a = by_split (among_insert before x m (sorted before ms) a) (among_sorted before x ms)
  where
    by_split : (x ≡ m) ⊎ Among x (sorted before ms) → (Among x (sorted before ms) → Among x ms) → Among x (m ∷ ms)
    by_split (inl e) below = among_head ms e
    by_split (inr b) below = there (below b)

pub sorted_among : (before : ℕ → ℕ → Bool) (x : ℕ) (ms : List ℕ) → Among x ms → Among x (sorted before ms)
unfolding sorted
sorted_among before x [] a = a
sorted_among before x (m ∷ ms) a = insert_among before x m (sorted before ms) (by_split (among_split a) (sorted_among before x ms))
  where
    by_split : (x ≡ m) ⊎ Among x ms → (Among x ms → Among x (sorted before ms)) → Among x (m ∷ sorted before ms)
    by_split (inl e) below = among_head (sorted before ms) e
    by_split (inr b) below = there (below b)

-- and their number
length-insert : (before : ℕ → ℕ → Bool) (m : ℕ) (ms : List ℕ) → length (insert before m ms) ≡ suc (length ms)
unfolding insert
length-insert before m [] = refl
length-insert before m (n ∷ ns) = by_test (before m n) (length-insert before m ns)
  where
    by_test : (t : Bool) → length (insert before m ns) ≡ suc (length ns)
        → length (cond t (m ∷ n ∷ ns) (n ∷ insert before m ns)) ≡ suc (suc (length ns))
    by_test true e = refl
    by_test false e = ap suc e

pub length-sorted : (before : ℕ → ℕ → Bool) (ms : List ℕ) → length (sorted before ms) ≡ length ms
unfolding sorted
length-sorted before [] = refl
length-sorted before (m ∷ ms) = length-insert before m (sorted before ms) ∙ ap suc (length-sorted before ms)

-- where the test orders the numbers below a bound, a list of such in which none stands twice is sorted to a rising one
module _ (before : ℕ → ℕ → Bool) (bound : ℕ)
    (transitive : (x y z : ℕ) → x < bound → y < bound → z < bound → before x y ≡ true → before y z ≡ true → before x z ≡ true)
    (total : (x y : ℕ) → x < bound → y < bound → (x ≡ y → ⊥) → (before x y ≡ true) ⊎ (before y x ≡ true)) where
  abbrev Below : List ℕ → Type 0
  Below ms = (x : ℕ) → Among x ms → x < bound

  -- m in front of what it comes before
  in_front : (m n : ℕ) (ns : List ℕ) → m < bound → Below (n ∷ ns) → before m n ≡ true → Rising before (n ∷ ns) → Rising before (m ∷ n ∷ ns)
  in_front m n ns h b e r = more (λ x a. by_split x (among_split a)) r
    where
      by_split : (x : ℕ) → (x ≡ n) ⊎ Among x ns → before m x ≡ true
      by_split x (inl f) = rw f e
      by_split x (inr a) = transitive m n x h (b n here) (b x (there a)) e (first_rising r x a)

  -- m behind what it does not come before
  further_on : (m n : ℕ) (ns : List ℕ) → m < bound → n < bound → (m ≡ n → ⊥) → before m n ≡ false → Rising before (n ∷ ns)
      → Rising before (insert before m ns) → Rising before (n ∷ insert before m ns)
  further_on m n ns h k d e r below = more (λ x a. by_split x (among_insert before x m ns a)) below
    where
      by_total : (before m n ≡ true) ⊎ (before n m ≡ true) → before n m ≡ true
      by_total (inl f) = absurd (true≢false (sym f ∙ e))
      by_total (inr f) = f

      by_split : (x : ℕ) → (x ≡ m) ⊎ Among x ns → before n x ≡ true
      by_split x (inl f) = rw f (by_total (total m n h k d))
      by_split x (inr a) = first_rising r x a

  -- a new one inserted, the list still rises
  insert_rising : (m : ℕ) (ms : List ℕ) → m < bound → Below ms → (Among m ms → ⊥) → Rising before ms → Rising before (insert before m ms)
  unfolding insert
  insert_rising m [] h b d r = more (λ x a. absurd (among_none a)) none
  insert_rising m (n ∷ ns) h b d r = by_test (before m n) refl (insert_rising m ns h (λ x a. b x (there a)) (λ a. d (there a)) (rest_rising r))
    where
      by_test : (t : Bool) → before m n ≡ t → Rising before (insert before m ns) → Rising before (cond t (m ∷ n ∷ ns) (n ∷ insert before m ns))
      by_test true e below = in_front m n ns h b e r
      by_test false e below = further_on m n ns h (b n here) (λ f. d (among_head ns f)) e r below

  -- numbers that rise as numbers, so none twice, are sorted to a list that rises by the test
  pub sort_rising : (ms : List ℕ) → Below ms → Rising ltb ms → Rising before (sorted before ms)
  unfolding sorted
  sort_rising [] b r = none
  sort_rising (m ∷ ms) b r =
      insert_rising m (sorted before ms) (b m here) (λ x a. b x (there (among_sorted before x ms a)))
      (λ a. once (first_rising r m (among_sorted before m ms a)))
      (sort_rising ms (λ x a. b x (there a)) (rest_rising r))
    where
      once : ltb m m ≡ true → ⊥
      once e = let l = ltb-true m m e in omega arith

-- ---- picked numbers

-- what is picked is in the range and passes the test, and all that does is picked
pub among_picked : (test : ℕ → Bool) (x s n : ℕ) → Among x (picked test s n) → (s ≤ x) × (x < s + n) × (test x ≡ true)
unfolding picked
among_picked test x s zero a = absurd (among_none a)
among_picked test x s (suc n) a = by_test (test s) refl a (among_picked test x (s + 1) n)
  where
    wider : (s + 1 ≤ x) × (x < s + 1 + n) × (test x ≡ true) → (s ≤ x) × (x < s + suc n) × (test x ≡ true)
    wider (l, h, e) = (omega arith, omega arith, e)

    by_split : test s ≡ true → (x ≡ s) ⊎ Among x (picked test (s + 1) n)
        → (Among x (picked test (s + 1) n) → (s + 1 ≤ x) × (x < s + 1 + n) × (test x ≡ true))
        → (s ≤ x) × (x < s + suc n) × (test x ≡ true)
    by_split e (inl f) below = (omega arith, omega arith, ap test f ∙ e)
    by_split e (inr b) below = wider (below b)

    by_test : (t : Bool) → test s ≡ t → Among x (cond t (s ∷ []) [] ++ picked test (s + 1) n)
        → (Among x (picked test (s + 1) n) → (s + 1 ≤ x) × (x < s + 1 + n) × (test x ≡ true)) → (s ≤ x) × (x < s + suc n) × (test x ≡ true)
    by_test true e b below = by_split e (among_split b) below
    by_test false e b below = wider (below b)

pub picked_among : (test : ℕ → Bool) (x s n : ℕ) → s ≤ x → x < s + n → test x ≡ true → Among x (picked test s n)
unfolding picked
picked_among test x s zero l h e = absurd (omega arith)
picked_among test x s (suc n) l h e = by_test (ℕ_discrete x s) (λ k. picked_among test x (s + 1) n k (omega arith) e)
  where
    later : (t : Bool) → Among x (picked test (s + 1) n) → Among x (cond t (s ∷ []) [] ++ picked test (s + 1) n)
    later true a = there a
    later false a = a

    by_test : Dec (x ≡ s) → (s + 1 ≤ x → Among x (picked test (s + 1) n)) → Among x (cond (test s) (s ∷ []) [] ++ picked test (s + 1) n)
    by_test (yes f) below =
        subst (λ (t : Bool). Among x (cond t (s ∷ []) [] ++ picked test (s + 1) n)) (sym e ∙ ap test f) (among_head (picked test (s + 1) n) f)
    by_test (no d) below = later (test s) (below (omega arith))

-- it is picked in the order of the numbers
pub picked_rising : (test : ℕ → Bool) (s n : ℕ) → Rising ltb (picked test s n)
unfolding picked
picked_rising test s zero = none
picked_rising test s (suc n) = by_test (test s) (picked_rising test (s + 1) n)
  where
    after : (x : ℕ) → (s + 1 ≤ x) × (x < s + 1 + n) × (test x ≡ true) → ltb s x ≡ true
    after x (l, h, e) = lt-ltb s x (omega arith)

    by_test : (t : Bool) → Rising ltb (picked test (s + 1) n) → Rising ltb (cond t (s ∷ []) [] ++ picked test (s + 1) n)
    by_test true r = more (λ x a. after x (among_picked test x (s + 1) n a)) r
    by_test false r = r

-- of some numbers, and of those behind them
pub picked_append : (t : ℕ → Bool) (s m n : ℕ) → picked t s (m + n) ≡ picked t s m ++ picked t (s + m) n
unfolding picked
picked_append t s zero n =
    let a : zero + n ≡ n = omega arith in
    let b : s ≡ s + zero = omega arith in
    λ i. picked t (b i) (a i)
picked_append t s (suc m) n =
    let a : suc m + n ≡ suc (m + n) = omega arith in
    let b : s + 1 + m ≡ s + suc m = omega arith in
    ap (picked t s) a
    ∙ ap (λ (l : List ℕ). cond (t s) (s ∷ []) [] ++ l) (picked_append t (s + 1) m n ∙ ap (λ (x : ℕ). picked t (s + 1) m ++ picked t x n) b)
    ∙ sym (append_assoc (cond (t s) (s ∷ []) []) (picked t (s + 1) m) (picked t (s + suc m) n))
