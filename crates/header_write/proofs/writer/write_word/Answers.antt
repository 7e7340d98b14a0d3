-- `write_word` meets its contract: what is copied are the number's bytes. Assumes nothing.
use Prim.Native.Nat.{ℕ, ◌/◌, ◌%◌}
use mathlib.Core.Path.{◌≡◌, sym, ap, ◌∙◌}
use mathlib.Core.List.{List, [], ◌∷◌, ◌++◌, append-nil}
use native.Mathlib.Omega.{arith}
use Rattle.bits.specs.Fields.{bits_of, run}
use Rattle.bits.proofs.Laws.{bits_of_split}
use Rattle.header_layout.proofs.Bytes.{split}
use Rattle.header_write.proofs.writer.write_word.Goals as goal

pub returns : goal.returns
unfolding run
returns c =
    let w = c.args.word in
    let top : w / 16777216 % 256 ≡ w / 16777216 = omega arith in
    ap (run 8) (c.copy_from_slice.ensures.after ∙ c.to_be_bytes.ensures ∙ ap (λ (x : ℕ). x ∷ w / 65536 % 256 ∷ w / 256 % 256 ∷ w % 256 ∷ []) top)
    ∙ sym
    (bits_of_split 16 16 w
    ∙ split (w / 65536) (w / 16777216) (w / 65536 % 256) (omega arith) (omega arith) (bits_of 16 w)
    ∙ ap (λ (l : List ℕ). bits_of 8 (w / 16777216) ++ (bits_of 8 (w / 65536 % 256) ++ l))
    (sym (append-nil (bits_of 16 w)) ∙ split w (w / 256 % 256) (w % 256) (omega arith) (omega arith) []))
