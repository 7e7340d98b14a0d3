-- Values of 4 bits, two a byte, a byte a turn: what the loop that reads them needs. Assumes nothing.
use Prim.Native.Nat.{ℕ, ◌+◌, ◌*◌, ◌/◌, ◌%◌, ◌≤◌, ◌<◌, ◌^◌}
use mathlib.Core.Path.{◌≡◌, refl, sym, ap, ap₂, subst, ◌∙◌}
use mathlib.Core.List.{List, [], ◌∷◌, ◌++◌, append-nil}
use native.Mathlib.Omega.{arith}
use native.Mathlib.Numerals.{add-one}
use lib.ListN.{length, take, get_or, set}
use lib.Seq.{take_all, take-suc}
use Rattle.slices.proofs.Front.{stored_behind}
use Rattle.bits.specs.Fields.{Fit, none, more, bits_of, run, cut}
use Rattle.bits.proofs.Laws.{run_append, run-one, run_cons, fit_append, cut-run}
use Rattle.header_layout.proofs.Bytes.{byte, beside}

-- two values are a byte
halves : (a b : ℕ) → run 4 (a ∷ b ∷ []) ≡ run 8 ((a % 16 * 16 + b % 16) ∷ [])
halves a b =
    run_cons 4 a (b ∷ []) ∙ ap (λ (l : List ℕ). bits_of 4 a ++ l) (run-one 4 b) ∙ beside 4 4 a b
    ∙ byte (a * 16 + b % 16) (a % 16 * 16 + b % 16) (omega arith) ∙ sym (run-one 8 (a % 16 * 16 + b % 16))

-- two stores, one behind the other
two_stored : (l : List ℕ) (at a b : ℕ) → at + 2 ≤ length l → take (at + 2) (set (set l at a) (at + 1) b) ≡ take at l ++ (a ∷ b ∷ [])
two_stored l at a b h = rw (add-one at) (stored_behind (a ∷ b ∷ []) l at h)

-- after k turns of the loop that reads
pub record Halved (vs part : List ℕ) (k : ℕ) : Type 0 where
  pub same : run 4 (take (2 * k) vs) ≡ run 8 (take k part)
  pub fit : Fit 4 (take (2 * k) vs)

pub halved_none : (vs part : List ℕ) → Halved vs part 0
unfolding run
halved_none vs part = record { same = refl; fit = none }

-- a byte less than 256 is its halves
pub halved_next : (vs part : List ℕ) (k : ℕ) → k < length part → length vs ≡ 2 * length part → get_or part k 0 < 2 ^ 8 → Halved vs part k
    → Halved (set (set vs (2 * k) (get_or part k 0 / 16)) (2 * k + 1) (get_or part k 0 % 16)) part (k + 1)
halved_next vs part k h long byte turn =
    let x = get_or part k 0 in
    let next : 2 * (k + 1) ≡ 2 * k + 2 = omega arith in
    let whole : x / 16 % 16 * 16 + x % 16 % 16 ≡ x = omega arith in
    let front =
    ap (λ (n : ℕ). take n (set (set vs (2 * k) (x / 16)) (2 * k + 1) (x % 16))) next ∙ two_stored vs (2 * k) (x / 16) (x % 16) (omega arith) in
    record {
      same =
          ap (run 4) front ∙ run_append 4 (take (2 * k) vs) (x / 16 ∷ x % 16 ∷ [])
          ∙ ap₂ (λ (l r : List ℕ). l ++ r) turn.same (halves (x / 16) (x % 16) ∙ ap (λ (n : ℕ). run 8 (n ∷ [])) whole)
          ∙ sym (run_append 8 (take k part) (x ∷ [])) ∙ ap (run 8) (sym (take-suc part k 0 h) ∙ ap (λ (n : ℕ). take n part) (sym (add-one k)));
      fit = subst (Fit 4) (sym front) (fit_append turn.fit (more (omega arith) (more (omega arith) none)));
    }

-- all values
pub halved_all : (vs part : List ℕ) → length vs ≡ 2 * length part → Halved vs part (length part) → vs ≡ cut 4 (length vs) (run 8 part)
halved_all vs part long turn =
    let every : take (2 * length part) vs ≡ vs = take_all (2 * length part) vs (omega arith) in
    sym (cut-run (subst (Fit 4) every turn.fit) [])
    ∙ ap (cut 4 (length vs)) (append-nil (run 4 vs) ∙ ap (run 4) (sym every) ∙ turn.same ∙ ap (run 8) (take_all (length part) part (omega arith)))
