-- Numbers packed and taken out again. Assumes nothing.
use Prim.Native.Nat.{ℕ, zero, suc, ◌+◌, ◌-◌, ◌*◌, ◌^◌, ◌≤◌}
use mathlib.Core.Path.{◌≡◌, refl, sym, ap, ◌∙◌}
use mathlib.Core.Bool.{false}
use native.Mathlib.Nat.{le_of_eq, add_comm, zero-add, suc-add, zero-mul, suc-mul}
use native.Mathlib.Omega.{arith}
use mathlib.Core.List.{List, [], ◌∷◌, ◌++◌, append-nil}
use lib.ListN.{length, take, drop, length-drop, take-append-drop}
use lib.Seq.{take_all, drop-drop, length-take-le}
use Rattle.bits.specs.Fields.{Fit, number, run, cut}
use Rattle.bits.proofs.Laws.{length_run, length_cut, fit_run, fit_cut, cut-run, run-cut, run_append, run_drop, cut-front}
use Rattle.setting.specs.declared.Kind.{Kind}
use Rattle.setting.specs.Refusal.{NoneHolds, none, more}
use Rattle.setting.specs.Rules.{number_checks}
use Rattle.setting.specs.Setting.{Array}
use Rattle.setting.specs.Size.{size_of}
use Rattle.slices.specs.Slices.{some_at_least}
use Rattle.counters.specs.Counters.{last_slot}
use Rattle.setting.proofs.Fields.{some_fit, none_left}
use Rattle.receiver.specs.Packed.{packed_length, packed, unpacked}

-- n values of v bits, as many bits as m of w, cut into those and cut again
back : (v w n m : ℕ) (xs : List ℕ) → Array n v xs → m * w ≡ n * v → cut v n (run w (cut w m (run v xs))) ≡ xs
back v w n m xs (l, f) e =
    let bits : length (run v xs) ≡ n * v = length_run v xs ∙ ap (λ (k : ℕ). k * v) l in
    let whole : run w (cut w m (run v xs)) ≡ run v xs =
    run-cut w m (run v xs) (fit_run v xs) (le_of_eq (e ∙ sym bits)) ∙ take_all (m * w) (run v xs) (le_of_eq (bits ∙ sym e)) in
    ap (cut v n) (whole ∙ sym (append-nil (run v xs))) ∙ ap (λ (k : ℕ). cut v k (run v xs ++ [])) (sym l) ∙ cut-run f []

pub unpacked-packed : (ns : List ℕ) → Array last_slot 4 ns → unpacked (packed ns) ≡ ns
unfolding packed unpacked
unpacked-packed ns a = back 4 8 last_slot packed_length ns a refl

pub packed-unpacked : (bs : List ℕ) → Array packed_length 8 bs → packed (unpacked bs) ≡ bs
unfolding packed unpacked
packed-unpacked bs a = back 8 4 packed_length last_slot bs a refl

pub length-packed : (ns : List ℕ) → length (packed ns) ≡ packed_length
unfolding packed
length-packed ns = length_cut 8 packed_length (run 4 ns)

pub length-unpacked : (bs : List ℕ) → length (unpacked bs) ≡ last_slot
unfolding unpacked
length-unpacked bs = length_cut 4 last_slot (run 8 bs)

-- no number is too large for its bits
pub unpacked_fit : (bs : List ℕ) → length bs ≡ packed_length → Fit 4 (unpacked bs)
unfolding unpacked
unpacked_fit bs l = fit_cut 4 last_slot (run 8 bs) (fit_run 8 bs) (rw (length_run, l) (le_of_eq refl))

none_past_last : (bs : List ℕ) → length bs ≡ packed_length → some_at_least (2 ^ 4) (unpacked bs) ≡ false
none_past_last bs l = some_fit 4 (unpacked bs) (unpacked_fit bs l)

-- the kinds whose numbers have four bits and that have all slots
pub data Long : Kind → Type 0 where
  plain : Long Kind.Plain
  extended : Long Kind.Extended

-- their numbers need no check
pub none_wrong : {kind : Kind} → Long kind → (bs : List ℕ) → length bs ≡ packed_length → NoneHolds (number_checks (size_of kind) (unpacked bs))
unfolding size_of
none_wrong plain bs l = more (none_past_last bs l) (more (none_left 1 last_slot (unpacked bs) (length-unpacked bs)) none)
none_wrong extended bs l = more (none_past_last bs l) (more (none_left 1 last_slot (unpacked bs) (length-unpacked bs)) none)

-- ---- the numbers that some of the bytes say

drop-cut : (w k n : ℕ) (bs : List ℕ) → drop k (cut w (k + n) bs) ≡ cut w n (drop (k * w) bs)
unfolding cut
drop-cut w zero n bs = rw (zero-add, zero-mul) refl
drop-cut w (suc k) n bs =
    ap (λ (m : ℕ). drop (suc k) (cut w m bs)) (suc-add k n)
    ∙ drop-cut w k n (drop w bs)
    ∙ ap (cut w n) (drop-drop (k * w) w bs ∙ ap (λ (m : ℕ). drop m bs) (add_comm w (k * w) ∙ sym (suc-mul k w)))

take-cut : (w k n : ℕ) (bs : List ℕ) → take k (cut w (k + n) bs) ≡ cut w k bs
unfolding cut
take-cut w zero n bs = refl
take-cut w (suc k) n bs = ap (λ (m : ℕ). take (suc k) (cut w m bs)) (suc-add k n) ∙ ap (λ (l : List ℕ). number (take w bs) ∷ l) (take-cut w k n (drop w bs))

-- n of them, from one on
pub unpacked-part : (at n : ℕ) (bs : List ℕ) → at + n ≤ packed_length → length bs ≡ packed_length
    → cut 4 (2 * n) (run 8 (take n (drop at bs))) ≡ take (2 * n) (drop (2 * at) (unpacked bs))
unfolding unpacked
unpacked-part at n bs h l =
    let part = take n (drop at bs) in
    let rest = drop n (drop at bs) in
    let left = last_slot - (2 * at + 2 * n) in
    let whole : 2 * at + (2 * n + left) ≡ last_slot = omega arith in
    let bits : 2 * at * 4 ≡ at * 8 = omega arith in
    let long : length (run 8 part) ≡ n * 8 =
    length_run 8 part ∙ ap (λ (k : ℕ). k * 8) (length-take-le n (drop at bs) (rw length-drop (omega arith))) in
    sym (ap (λ (k : ℕ). take (2 * n) (drop (2 * at) (cut 4 k (run 8 bs)))) (sym whole)
    ∙ ap (take (2 * n)) (drop-cut 4 (2 * at) (2 * n + left) (run 8 bs))
    ∙ take-cut 4 (2 * n) left (drop (2 * at * 4) (run 8 bs))
    ∙ ap (λ (k : ℕ). cut 4 (2 * n) (drop k (run 8 bs))) bits
    ∙ ap (cut 4 (2 * n)) (sym (run_drop 8 at bs) ∙ ap (run 8) (sym (take-append-drop n (drop at bs))) ∙ run_append 8 part rest)
    ∙ cut-front 4 (2 * n) (run 8 part) (run 8 rest) (omega arith))
