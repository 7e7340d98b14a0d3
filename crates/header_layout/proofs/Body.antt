-- The header before its CRC, as its parts are written one behind the other. Assumes nothing.
use Prim.Native.Nat.{ℕ, ◌+◌, ◌-◌, ◌≤◌}
use mathlib.Core.Path.{◌≡◌, refl, sym, ap, ap₂, ◌∙◌, subst}
use mathlib.Core.List.{List, [], ◌∷◌, ◌++◌, append_assoc, append-nil}
use native.Mathlib.Omega.{arith}
use lib.ListN.{length}
use Rattle.bits.specs.Fields.{run}
use Rattle.bits.proofs.Laws.{run_append}
use Rattle.slices.proofs.Front.{Front, put, front_none, front-part, front-all}
use Rattle.setting.specs.declared.Kind.{Kind}
use Rattle.setting.specs.declared.Size.{Size}
use Rattle.setting.specs.declared.Setting.{Setting}
use Rattle.setting.specs.Size.{size_of, resized}
use Rattle.header_layout.specs.Rows.{pack}
use Rattle.header_layout.specs.Layout.{Line, start_table, stream_table, identifier_table, control_table, number_table, private_table, table_of, table}
use Rattle.header_layout.specs.Header.{paired, held, line_bits, body}

line_bits_append : (z : Size) (pid : ℕ) (s : Setting) (ls ms : List Line) → line_bits z pid s (ls ++ ms) ≡ line_bits z pid s ls ++ line_bits z pid s ms
unfolding line_bits pack
line_bits_append z pid s [] ms = refl
line_bits_append z pid s (l ∷ ls) ms =
    ap (λ (bs : List ℕ). run l.1.0 (held z pid s l) ++ bs) (line_bits_append z pid s ls ms)
    ∙ sym (append_assoc (run l.1.0 (held z pid s l)) (line_bits z pid s ls) (line_bits z pid s ms))

-- the body is its six parts
body_is : (kind : Kind) (pid : ℕ) (s : Setting)
    → let z = size_of kind in body kind pid s
    ≡ line_bits z pid s start_table ++ (line_bits z pid s (stream_table z) ++ (line_bits z pid s (identifier_table z) ++ (line_bits z pid s (control_table z)
    ++ (line_bits z pid s (number_table z) ++ line_bits z pid s (private_table kind)))))
unfolding body table table_of
body_is kind pid s =
    let z = size_of kind in
    line_bits_append z pid s start_table _
    ∙ ap (λ (l : List ℕ). line_bits z pid s start_table ++ l)
    (line_bits_append z pid s (stream_table z) _
    ∙ ap (λ (l : List ℕ). line_bits z pid s (stream_table z) ++ l)
    (line_bits_append z pid s (identifier_table z) _
    ∙ ap (λ (l : List ℕ). line_bits z pid s (identifier_table z) ++ l)
    (line_bits_append z pid s (control_table z) _
    ∙ ap (λ (l : List ℕ). line_bits z pid s (control_table z) ++ l) (line_bits_append z pid s (number_table z) (private_table kind)))))

-- a part of a list that is filled up to there
next : (part done d ys : List ℕ) (i j : ℕ) → Front part done d i → i ≤ j → length ys ≡ j - i → Front part (done ++ ys) (put i (j - i) d ys) j
next part done d ys i j f h l =
    let there : i + (j - i) ≡ j = omega arith in
    subst (Front part (done ++ ys) (put i (j - i) d ys)) there (front-part part done d ys i (j - i) f l)

-- six parts of a list of 184 bytes, filled one after the other: from byte 0, h, i, j, k and l on
pub body_parts : (kind : Kind) (pid : ℕ) (s : Setting) (part a b c d e f : List ℕ) (h i j k l : ℕ)
    → length part ≡ 184 → length a ≡ h - 0 → length b ≡ i - h → length c ≡ j - i → length d ≡ k - j → length e ≡ l - k → length f ≡ 184 - l
    → (h ≤ i) × (i ≤ j) × (j ≤ k) × (k ≤ l) × (l ≤ 184)
    → let z = size_of kind in run 8 a ≡ line_bits z pid s start_table
    → run 8 b ≡ line_bits z pid s (stream_table z)
    → run 8 c ≡ run 16 (paired (resized z.streams s.ts_id) (resized z.streams s.original_network_id))
    → run 8 d ≡ line_bits z pid s (control_table z)
    → run 8 e ≡ run z.number_bits (resized z.slots s.relative_ts_number)
    → run 8 f ≡ line_bits z pid s (private_table kind)
    → run 8 (put l (184 - l) (put k (l - k) (put j (k - j) (put i (j - i) (put h (i - h) (put 0 (h - 0) part a) b) c) d) e) f) ≡ body kind pid s
unfolding identifier_table number_table held line_bits pack
body_parts kind pid s part a b c d e f h i j k l whole fa fb fc fd fe ff ends pa pb pc pd pe pf =
    let f₁ = next part [] part a 0 h (front_none part) (omega arith) fa in
    let f₂ = next part a _ b h i f₁ ends.0 fb in
    let f₃ = next part (a ++ b) _ c i j f₂ ends.1 fc in
    let f₄ = next part (a ++ b ++ c) _ d j k f₃ ends.2 fd in
    let f₅ = next part (a ++ b ++ c ++ d) _ e k l f₄ ends.3 fe in
    let f₆ = next part (a ++ b ++ c ++ d ++ e) _ f l 184 f₅ ends.4 ff in
    ap (run 8) (front-all part (a ++ b ++ c ++ d ++ e ++ f) _ 184 f₆ (omega arith) ∙ simp append_assoc)
    ∙ run_append 8 a (b ++ (c ++ (d ++ (e ++ f)))) ∙ ap₂ (λ (x y : List ℕ). x ++ y) pa
    (run_append 8 b (c ++ (d ++ (e ++ f))) ∙ ap₂ (λ (x y : List ℕ). x ++ y) pb
    (run_append 8 c (d ++ (e ++ f)) ∙ ap₂ (λ (x y : List ℕ). x ++ y) (pc ∙ sym (append-nil _))
    (run_append 8 d (e ++ f) ∙ ap₂ (λ (x y : List ℕ). x ++ y) pd
    (run_append 8 e f ∙ ap₂ (λ (x y : List ℕ). x ++ y) (pe ∙ sym (append-nil _)) pf))))
    ∙ sym (body_is kind pid s)
