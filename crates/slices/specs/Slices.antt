-- Slices of bytes: copied, filled, tested.
use Rattle.std.specs.Prelude.{ℕ, zero, suc, ◌+◌, Bool, false, not, ◌||◌, List, ◌∷◌, ◌++◌, leb, eqb, length, get_or, take, drop}

-- the list `into` with the elements of `from` over its front, as many as there is room for
unfoldable pub copied : List ℕ → List ℕ → List ℕ
copied into from = take (length into) from ++ drop (length from) into

-- the list `bytes` with the elements of `p` over it, from place `at` on
unfoldable pub over : ℕ → List ℕ → List ℕ → List ℕ
over at p bytes = take at bytes ++ (p ++ drop (at + length p) bytes)

-- whether the test holds of some number below n
unfoldable pub any_below : ℕ → (ℕ → Bool) → Bool
any_below zero test = false
any_below (suc n) test = any_below n test || test n

-- whether some element is `limit` or more
unfoldable pub some_at_least : ℕ → List ℕ → Bool
some_at_least limit xs = any_below (length xs) (λ i. leb limit (get_or xs i 0))

-- whether two lists of the same length differ somewhere
unfoldable pub some_differ : List ℕ → List ℕ → Bool
some_differ xs ys = any_below (length xs) (λ i. not (eqb (get_or xs i 0) (get_or ys i 0)))

-- whether two lists differ, in their lengths or somewhere
unfoldable pub unlike : List ℕ → List ℕ → Bool
unlike xs ys = not (eqb (length xs) (length ys)) || some_differ xs ys

-- whether k is among the numbers
pub data Among (k : ℕ) : List ℕ → Type 0 where
  here : {ks : List ℕ} → Among k (k ∷ ks)
  there : {j : ℕ} {ks : List ℕ} → Among k ks → Among k (j ∷ ks)
