-- Laws of rows, over any layout. Assumes nothing.
use Prim.Native.Nat.{ℕ, zero, suc, ◌+◌, ◌*◌, ◌≤◌, ◌<◌}
use mathlib.Core.Path.{◌≡◌, refl, sym, ap, ap₂, ◌∙◌, subst}
use mathlib.Core.List.{List, [], ◌∷◌, ◌++◌, append_assoc}
use native.Mathlib.Omega.{arith}
use native.Mathlib.Nat.{suc_inj, le_of_suc-le-suc}
use native.Mathlib.Decide.{ℕ_discrete}
use lib.Arith.{lt_of_le-ne}
use lib.ListN.{length, get_or, take, drop, length-append, length-drop}
use lib.Seq.{take-add, drop-drop, drop_at}
use Rattle.bits.specs.Fields.{Fit, none, run, cut}
use Rattle.bits.proofs.Laws.{length_run, length_cut, fit_run, fit_cut, fit_append, fit_drop, cut-run, run-cut}
use Rattle.setting.specs.Setting.{Array}
use Rattle.header_layout.specs.Rows.{Row, pack, place, row_at}

-- the bits of all rows
abbrev pub size : List Row → ℕ
size rs = place rs (length rs)

abbrev pub row_of : List Row → ℕ → Row
row_of rs k = get_or rs k (0, 0)

-- the values fill the row: they are as many, and each fits
abbrev pub Fills : Row → List ℕ → Type 0
Fills r vs = Array r.1 r.0 vs

-- the values fill all rows
pub record Suits (rs : List Row) (vss : List (List ℕ)) : Type 0 where
  pub count : length vss ≡ length rs
  pub each : (k : ℕ) → k < length rs → Fills (row_of rs k) (get_or vss k [])

-- P holds of each number from j on and below n
pub data Each (P : ℕ → Type 0) (n : ℕ) : ℕ → Type 0 where
  done : Each P n n
  next : {j : ℕ} → P j → Each P n (suc j) → Each P n j

pub each_at : {P : ℕ → Type 0} {n j : ℕ} → Each P n j → (k : ℕ) → j ≤ k → k < n → P k
each_at done k h l = absurd (omega arith)
each_at {P} (next {j} p rest) k h l = at (λ m. each_at rest k m l) (ℕ_discrete j k)
  where
    at : (j < k → P k) → Dec (j ≡ k) → P k
    at later (yes e) = subst P e p
    at later (no d) = later (lt_of_le-ne h d)

-- ---- packed

behind : {r : Row} {rs : List Row} {vs : List ℕ} {vss : List (List ℕ)} → Suits (r ∷ rs) (vs ∷ vss) → Suits rs vss
behind s = record { count = suc_inj s.count; each = λ k h. s.each (suc k) (omega arith) }

length-row : (r : Row) (vs : List ℕ) → Fills r vs → length (run r.0 vs) ≡ r.1 * r.0
length-row r vs f = length_run r.0 vs ∙ ap (λ (n : ℕ). n * r.0) f.0

pub fit_pack : (rs : List Row) (vss : List (List ℕ)) → Fit 1 (pack rs vss)
unfolding pack
fit_pack [] vss = none
fit_pack (r ∷ rs) [] = none
fit_pack (r ∷ rs) (vs ∷ vss) = fit_append (fit_run r.0 vs) (fit_pack rs vss)

pub length-pack : (rs : List Row) (vss : List (List ℕ)) → Suits rs vss → length (pack rs vss) ≡ size rs
unfolding pack place
length-pack [] vss s = refl
length-pack (r ∷ rs) [] s = absurd (let e = s.count in omega arith)
length-pack (r ∷ rs) (vs ∷ vss) s =
    length-append (run r.0 vs) (pack rs vss)
    ∙ ap₂ ◌+◌ (length-row r vs (s.each 0 (omega arith))) (length-pack rs vss (behind s))

-- a row of packed values is its values, whatever stands behind them all
pub row-pack : (rs : List Row) (vss : List (List ℕ)) → Suits rs vss → (rest : List ℕ) (k : ℕ) → k < length rs
    → row_at rs k (pack rs vss ++ rest) ≡ get_or vss k []
unfolding pack place row_at
row-pack [] vss s rest k h = absurd (omega arith)
row-pack (r ∷ rs) [] s rest k h = absurd (let e = s.count in omega arith)
row-pack (r ∷ rs) (vs ∷ vss) s rest zero h =
    ap₂ (λ (n : ℕ) (l : List ℕ). cut r.0 n l) (sym (s.each 0 h).0) (append_assoc (run r.0 vs) (pack rs vss) rest)
    ∙ cut-run (s.each 0 h).1 (pack rs vss ++ rest)
row-pack (r ∷ rs) (vs ∷ vss) s rest (suc k) h =
    ap (cut (row_of rs k).0 (row_of rs k).1)
    (sym (drop-drop (place rs k) (r.1 * r.0) ((run r.0 vs ++ pack rs vss) ++ rest))
    ∙ ap (drop (place rs k)) (ap (drop (r.1 * r.0)) (append_assoc (run r.0 vs) (pack rs vss) rest)
    ∙ drop_at (run r.0 vs) (pack rs vss ++ rest) (r.1 * r.0) (length-row r vs (s.each 0 (omega arith)))))
    ∙ row-pack rs vss (behind s) rest k (le_of_suc-le-suc h)

-- ---- cut

-- a row ends where all rows end, or before
place_le : (rs : List Row) (k : ℕ) → k < length rs → place rs k + (row_of rs k).1 * (row_of rs k).0 ≤ size rs
unfolding place
place_le [] k h = absurd (omega arith)
place_le (r ∷ rs) zero h = omega arith
place_le (r ∷ rs) (suc k) h = let l = place_le rs k (le_of_suc-le-suc h) in omega arith

-- what is cut fills its row
pub row_fills : (rs : List Row) (bs : List ℕ) → Fit 1 bs → size rs ≤ length bs → (k : ℕ) → k < length rs → Fills (row_of rs k) (row_at rs k bs)
unfolding row_at
row_fills rs bs bits long k h =
    let w = (row_of rs k).0 in
    let n = (row_of rs k).1 in
    let at = place rs k in
    (length_cut w n (drop at bs), fit_cut w n (drop at bs) (fit_drop at bits) (rw length-drop (let l = place_le rs k h in omega arith)))

-- the rows that are cut from bits, packed, are the bits
pub pack-rows : (rs : List Row) (vss : List (List ℕ)) (bs : List ℕ) → Fit 1 bs → size rs ≤ length bs → length vss ≡ length rs
    → ((k : ℕ) → k < length rs → get_or vss k [] ≡ row_at rs k bs)
    → pack rs vss ≡ take (size rs) bs
unfolding pack place row_at
pack-rows [] vss bs bits long e same = refl
pack-rows (r ∷ rs) [] bs bits long e same = absurd (omega arith)
pack-rows (r ∷ rs) (vs ∷ vss) bs bits long e same =
    ap₂ (λ (x y : List ℕ). x ++ y)
    (ap (run r.0) (same 0 (omega arith)) ∙ run-cut r.0 r.1 bs bits (omega arith))
    (pack-rows rs vss (drop (r.1 * r.0) bs) (fit_drop (r.1 * r.0) bits) (rw length-drop (omega arith)) (suc_inj e)
    (λ k h. same (suc k) (omega arith) ∙ ap (cut (row_of rs k).0 (row_of rs k).1) (sym (drop-drop (place rs k) (r.1 * r.0) bs))))
    ∙ sym (take-add (r.1 * r.0) (size rs) bs)
