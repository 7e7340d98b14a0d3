-- Numbers of 16 bits as bytes, the high byte first.
use Rattle.std.specs.Prelude.{ℕ, ◌+◌, ◌*◌, ◌/◌, ◌%◌, cond, List, [], ◌∷◌, eqb, length, get_or}

-- each number's two bytes, one behind the other
unfoldable pub word_bytes : List ℕ → List ℕ
word_bytes [] = []
word_bytes (n ∷ ns) = n / 256 ∷ n % 256 ∷ word_bytes ns

-- the number of the two bytes at place k
abbrev pub word_at : ℕ → List ℕ → ℕ
word_at k bytes = get_or bytes k 0 * 256 + get_or bytes (k + 1) 0

-- the numbers of the bytes, two by two
unfoldable pub words_of : List ℕ → List ℕ
words_of [] = []
words_of (h ∷ []) = []
words_of (h ∷ l ∷ bytes) = (h * 256 + l) ∷ words_of bytes

-- the numbers after a part is read into them: those of the part, if it is twice as long as they are; else as before
unfoldable pub words_read : List ℕ → List ℕ → List ℕ
words_read words bytes = cond (eqb (length bytes) (2 * length words)) (words_of bytes) words
