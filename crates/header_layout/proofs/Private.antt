-- The private data, as byte-wise code writes them. Assumes nothing.
use Prim.Native.Nat.{ℕ, ◌+◌, ◌*◌, ◌%◌, ◌≤◌}
use mathlib.Core.Path.{◌≡◌, refl, sym, ap, ap₂, ◌∙◌}
use mathlib.Core.List.{List, [], ◌∷◌, ◌++◌, append_assoc, append-nil}
use native.Mathlib.Omega.{arith}
use lib.ListN.{length, take, drop, replicate, length-drop, drop_of_length-le}
use lib.Seq.{take_all, length-take-le}
use Rattle.bits.specs.Fields.{bits_of, run}
use Rattle.bits.proofs.Laws.{run_append}
use Rattle.slices.specs.Slices.{copied}
use Rattle.slices.proofs.Front.{put, front_none, front-part, front_length, front-all}
use Rattle.setting.specs.declared.Kind.{Kind}
use Rattle.setting.specs.declared.Size.{Size}
use Rattle.setting.specs.declared.Setting.{Setting}
use Rattle.header_layout.specs.Rows.{pack}
use Rattle.header_layout.specs.Layout.{private_table}
use Rattle.header_layout.specs.Bytes.{bonding_bytes}
use Rattle.header_layout.specs.Header.{held, line_bits}
use Rattle.header_layout.proofs.Bytes.{byte, joined}

-- a copy over a list of the same length is what was copied
pub copied_all : (into from : List ℕ) → length into ≡ length from → copied into from ≡ from
unfolding copied
copied_all into from e =
    let whole : length into ≤ length from = omega arith in
    ap₂ (λ (x y : List ℕ). x ++ y) (take_all (length into) from (omega arith)) (drop_of_length-le into whole) ∙ append-nil from

-- the bonding fields are their four bytes
bonding_bits : (g c q f p : ℕ) (rest : List ℕ)
    → run 8 (g ∷ c ∷ q ∷ (f % 16 * 16 + p % 16) ∷ []) ++ rest
    ≡ run 8 (g ∷ []) ++ (run 8 (c ∷ []) ++ (run 8 (q ∷ []) ++ (run 4 (f ∷ []) ++ (run 4 (p ∷ []) ++ rest))))
unfolding run
bonding_bits g c q f p rest =
    let last = ap (λ (l : List ℕ). l ++ rest) (byte (f % 16 * 16 + p % 16) (f * 16 + p % 16) (omega arith)) in
    simp (append-nil, append_assoc) (ap (λ (l : List ℕ). bits_of 8 g ++ (bits_of 8 c ++ (bits_of 8 q ++ l))) (last ∙ sym (joined 4 4 f p refl)))

pub extended_bits : (z : Size) (pid : ℕ) (s : Setting)
    → run 8 ((s.auxiliary ++ bonding_bytes s) ++ replicate 53 0xFF) ≡ line_bits z pid s (private_table Kind.Extended)
unfolding private_table held line_bits pack
extended_bits z pid s =
    let aux = s.auxiliary in
    let bonding = bonding_bytes s in
    run_append 8 (aux ++ bonding) (replicate 53 0xFF) ∙ ap (λ (l : List ℕ). l ++ run 8 (replicate 53 0xFF)) (run_append 8 aux bonding)
    ∙ append_assoc (run 8 aux) (run 8 bonding) (run 8 (replicate 53 0xFF))
    ∙ ap (λ (l : List ℕ). run 8 aux ++ l)
    (ap (λ (l : List ℕ). run 8 bonding ++ l) (sym (append-nil (run 8 (replicate 53 0xFF))))
    ∙ bonding_bits s.group_id s.number_of_carriers s.carrier_sequence s.number_of_frames s.frame_position.0 (run 8 (replicate 53 0xFF) ++ []))

-- three parts of the private data, filled one after the other
pub extended_parts : (z : Size) (pid : ℕ) (s : Setting) (part aux bonding ones : List ℕ) → length part ≡ 85 → length s.auxiliary ≡ 28
    → aux ≡ s.auxiliary → bonding ≡ bonding_bytes s → ones ≡ replicate (length (take 53 (drop 32 (put 28 4 (put 0 28 part aux) bonding)))) 0xFF
    → run 8 (put 32 53 (put 28 4 (put 0 28 part aux) bonding) ones) ≡ line_bits z pid s (private_table Kind.Extended)
extended_parts z pid s part aux bonding ones l a p q r =
    let two = put 28 4 (put 0 28 part aux) bonding in
    let front = front-part part aux (put 0 28 part aux) bonding 28 4 (front-part part [] part aux 0 28 (front_none part) (ap length p ∙ a)) (ap length q) in
    let whole : length two ≡ length part = front_length part (aux ++ bonding) two 32 front (omega arith) in
    let behind : 53 ≤ length (drop 32 two) = rw length-drop (omega arith) in
    let all : ones ≡ replicate 53 0xFF = r ∙ ap (λ (n : ℕ). replicate n 0xFF) (length-take-le 53 (drop 32 two) behind) in
    ap (run 8) (front-all part ((aux ++ bonding) ++ ones) _ 85 (front-part part (aux ++ bonding) two ones 32 53 front (ap length all)) (omega arith))
    ∙ ap (run 8) (ap₂ (λ (x y : List ℕ). x ++ y) (ap₂ (λ (x y : List ℕ). x ++ y) p q) all) ∙ extended_bits z pid s
