-- The control information, as byte-wise code writes it. Assumes nothing.
use Prim.Native.Nat.{ℕ, suc, ◌+◌, ◌*◌, ◌%◌, ◌^◌, ◌≤◌, ◌<◌}
use mathlib.Core.Path.{◌≡◌, refl, sym, ap, ◌∙◌}
use mathlib.Core.List.{List, [], ◌∷◌, ◌++◌, append_assoc, append-nil}
use native.Mathlib.Omega.{arith}
use native.Mathlib.Numerals.{add-one, add-two, add-three}
use lib.ListN.{length, take, drop, get_or, set}
use lib.Seq.{drop-cons, take-add, take-suc-set}
use Rattle.bits.specs.Fields.{bits_of, run}
use Rattle.bits.proofs.Laws.{run_append}
use Rattle.setting.specs.declared.Size.{Size}
use Rattle.setting.specs.declared.Setting.{Setting}
use Rattle.setting.proofs.Sizes.{resized-take}
use Rattle.header_layout.specs.Rows.{pack}
use Rattle.header_layout.specs.Layout.{control_table}
use Rattle.header_layout.specs.Bytes.{quarters}
use Rattle.header_layout.specs.Header.{held, line_bits}
use Rattle.header_layout.proofs.Bytes.{byte, beside, joined}

quarters_bits : (a b c d : ℕ) → bits_of 8 (quarters a b c d) ≡ bits_of 2 a ++ (bits_of 2 b ++ (bits_of 2 c ++ bits_of 2 d))
quarters_bits a b c d =
    let three = (a * 2 ^ 2 + b % 2 ^ 2) * 2 ^ 2 + c % 2 ^ 2 in
    byte (quarters a b c d) (three * 2 ^ 2 + d % 2 ^ 2) (omega arith)
    ∙ sym (joined 2 2 a b refl ∙ joined 4 2 (a * 2 ^ 2 + b % 2 ^ 2) c refl ∙ beside 6 2 three d)

-- three and four values from value k on
three_on : (k n : ℕ) (r : List ℕ) → k + 3 ≤ length r → take (3 + n) (drop k r) ≡ get_or r k 0 ∷ get_or r (k + 1) 0 ∷ get_or r (k + 2) 0 ∷ take n (drop (k + 3) r)
three_on k n r h =
    let three : 3 + n ≡ suc (suc (suc n)) = omega arith in
    rw (add-one k, add-two k, add-three k)
    (ap (take (3 + n)) (drop-cons r k 0 (omega arith) ∙ ap (λ (l : List ℕ). get_or r k 0 ∷ l) (drop-cons r (suc k) 0 (omega arith) ∙ ap (λ (l : List ℕ). get_or r (suc k) 0 ∷ l) (drop-cons r (suc (suc k)) 0 (omega arith))))
    ∙ ap (λ (m : ℕ). take m (get_or r k 0 ∷ get_or r (suc k) 0 ∷ get_or r (suc (suc k)) 0 ∷ drop (suc (suc (suc k))) r)) three)

four_on : (k n : ℕ) (r : List ℕ) → k + 4 ≤ length r
    → take (4 + n) (drop k r) ≡ get_or r k 0 ∷ get_or r (k + 1) 0 ∷ get_or r (k + 2) 0 ∷ get_or r (k + 3) 0 ∷ take n (drop (k + 4) r)
four_on k n r h =
    let more : 4 + n ≡ 3 + suc n = omega arith in
    let next : k + 4 ≡ suc (k + 3) = omega arith in
    ap (λ (m : ℕ). take m (drop k r)) more ∙ three_on k (suc n) r (omega arith)
    ∙ ap (λ (l : List ℕ). get_or r k 0 ∷ get_or r (k + 1) 0 ∷ get_or r (k + 2) 0 ∷ l) (ap (take (suc n)) (drop-cons r (k + 3) 0 (omega arith)) ∙ ap (λ (m : ℕ). get_or r (k + 3) 0 ∷ take n (drop m r)) (sym next))

-- what stands behind the statuses
abbrev behind : ℕ → List ℕ
behind em = bits_of 1 1 ++ bits_of 1 em

-- one byte more of four statuses
pub control-next : (part r : List ℕ) (k : ℕ) → k < length part → 4 * k + 4 ≤ length r → run 8 (take k part) ≡ run 2 (take (4 * k) r)
    → run 8 (take (k + 1) (set part k (quarters (get_or r (4 * k) 0) (get_or r (4 * k + 1) 0) (get_or r (4 * k + 2) 0) (get_or r (4 * k + 3) 0)))) ≡ run 2 (take (4 * (k + 1)) r)
unfolding run
control-next part r k h room e =
    let q = quarters (get_or r (4 * k) 0) (get_or r (4 * k + 1) 0) (get_or r (4 * k + 2) 0) (get_or r (4 * k + 3) 0) in
    let more : 4 * (k + 1) ≡ 4 * k + 4 = omega arith in
    rw (more, add-one k, take-suc-set part k q h, run_append 8 (take k part) (q ∷ []), e, take-add (4 * k) 4 r, run_append 2 (take (4 * k) r) (take 4 (drop (4 * k) r)), four_on (4 * k) 0 r room)
    (simp (quarters_bits, append_assoc, append-nil) refl)

-- the last byte behind k of them
pub control-last : (front r : List ℕ) (k em : ℕ) → 4 * k + 3 ≤ length r → run 8 front ≡ run 2 (take (4 * k) r)
    → run 8 (front ++ (quarters (get_or r (4 * k) 0) (get_or r (4 * k + 1) 0) (get_or r (4 * k + 2) 0) (2 + em % 2) ∷ [])) ≡ run 2 (take (4 * k + 3) r) ++ behind em
unfolding run
control-last front r k em room e =
    let q = quarters (get_or r (4 * k) 0) (get_or r (4 * k + 1) 0) (get_or r (4 * k + 2) 0) (2 + em % 2) in
    let last : bits_of 2 (2 + em % 2) ≡ behind em = sym (beside 1 1 1 em) in
    rw (run_append 8 front (q ∷ []), e, take-add (4 * k) 3 r, run_append 2 (take (4 * k) r) (take 3 (drop (4 * k) r)), three_on (4 * k) 0 r room)
    (simp (quarters_bits, last, append_assoc, append-nil) refl)

-- the control information of a size with so many streams
pub control_bits : (z : Size) (pid : ℕ) (s : Setting) → z.streams ≤ length s.receive_status
    → run 2 (take z.streams s.receive_status) ++ behind s.emergency_indicator ≡ line_bits z pid s (control_table z)
unfolding line_bits pack control_table held run
control_bits z pid s h =
    ap (λ (l : List ℕ). run 2 l ++ behind s.emergency_indicator) (sym (resized-take z.streams s.receive_status h)) ∙ simp append-nil refl
