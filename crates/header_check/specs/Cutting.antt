-- Values of a few bits each, cut from bytes.
use Rattle.std.specs.Prelude.{ℕ, ◌*◌, Bool, cond, ◌&&◌, List, leb, length}
use Rattle.bits.specs.Fields.{run, cut}

-- whether so many values of so many bits can be cut from so many bytes: at most 255 values of at most 8 bits
abbrev pub can_cut : ℕ → ℕ → ℕ → Bool
can_cut width n bytes = leb width 8 && (leb n 255 && leb (n * width) (bytes * 8))

-- the values afterwards: those of the part, or what was there
unfoldable pub cut_into : ℕ → List ℕ → List ℕ → List ℕ
cut_into width values part = cond (can_cut width (length values) (length part)) (cut width (length values) (run 8 part)) values
