-- What was decoded is encoded again, where every element is a byte. Assumes nothing.
use Prim.Native.Nat.{ℕ, zero, suc, ◌+◌, ◌-◌, ◌*◌, ◌≤◌, ◌<◌}
use mathlib.Core.Path.{◌≡◌, refl, sym, ap, ◌∙◌}
use mathlib.Core.List.{List, [], ◌∷◌, ◌++◌, append_assoc}
use native.Mathlib.Omega.{arith}
use native.Mathlib.Numerals.{add-one}
use borrow.Author.Tests.{eq-eqb}
use lib.ListN.{length, get_or, take, drop}
use lib.Seq.{take-add, take_all, take-take, drop-cons, drop-drop}
use Rattle.bits.specs.Fields.{Fit}
use Rattle.bits.proofs.Laws.{fit_take, fit_drop}
use Rattle.counters.specs.Counters.{last_stream, last_slot}
use Rattle.setting.specs.Setting.{private_bytes, auxiliary_bytes}
use Rattle.setting.specs.Announcing.{announced}
use Rattle.setting_bytes.specs.Words.{word_bytes, word_at, words_of}
use Rattle.setting_bytes.proofs.Numbers.{bytes_same}
use Rattle.setting_bytes.specs.Settings.{part, slot_type_at, frame_type_at, availability_at, ts_id_at, network_id_at, statuses_at, emergency_at, announced_length, announced_bytes, announced_of}
use Rattle.setting_bytes.specs.Settings.{counter_at, version_at, announced_at, numbers_at, private_at, auxiliary_at, group_at, carriers_at, sequence_at, frames_at, position_at}
use Rattle.setting_bytes.specs.Settings.{setting_length, setting_from, setting_bytes, setting_of}
use Rattle.setting_bytes.proofs.Parts.{length_part}

-- two parts side by side are one
pub part-joined : (k n m : ℕ) (b : List ℕ) → part k n b ++ part (k + n) m b ≡ part k (n + m) b
part-joined k n m b = ap (λ (l : List ℕ). part k n b ++ take m l) (sym (drop-drop n k b)) ∙ sym (take-add n m (drop k b))

-- and so they are before others
pub part-joined-before : (k n m : ℕ) (b r : List ℕ) → part k n b ++ (part (k + n) m b ++ r) ≡ part k (n + m) b ++ r
part-joined-before k n m b r = sym (append_assoc (part k n b) (part (k + n) m b) r) ∙ ap (λ (l : List ℕ). l ++ r) (part-joined k n m b)

-- a part of a part is one of the whole
pub part_inside : (j n k m : ℕ) (b : List ℕ) → j + n ≤ m → part j n (part k m b) ≡ part (k + j) n b
part_inside j n k m b h = front j n m (drop k b) h ∙ ap (take n) (drop-drop j k b)
  where
    front : (j n m : ℕ) (l : List ℕ) → j + n ≤ m → part j n (take m l) ≡ part j n l
    front zero n m l h = take-take n m l (omega arith)
    front (suc j) n zero l h = absurd (omega arith)
    front (suc j) n (suc m) [] h = refl
    front (suc j) n (suc m) (x ∷ l) h = front j n m l (omega arith)

-- a part is its first byte and the part behind it
pub part_first_byte : (k n : ℕ) (b : List ℕ) → k < length b → get_or b k 0 ∷ part (k + 1) n b ≡ part k (suc n) b
part_first_byte k n b h = ap (λ (j : ℕ). get_or b k 0 ∷ part j n b) (add-one k) ∙ sym (ap (take (suc n)) (drop-cons b k 0 h))

-- a part of bytes is of bytes
pub fit_part : (k n : ℕ) (b : List ℕ) → Fit 8 b → Fit 8 (part k n b)
fit_part k n b fit = fit_take n (fit_drop k fit)

-- the numbers of a part's bytes say the part
pub words_same : (k n : ℕ) (b : List ℕ) → k + 2 * n ≤ length b → Fit 8 b → word_bytes (words_of (part k (2 * n) b)) ≡ part k (2 * n) b
words_same k n b h fit = bytes_same (part k (2 * n) b) n (length_part k (2 * n) b h) (fit_part k (2 * n) b fit)

-- the number of two bytes says the two
pub word_same : (k : ℕ) (b : List ℕ) → k + 2 ≤ length b → Fit 8 b → word_bytes (word_at k b ∷ []) ≡ part k 2 b
unfolding words_of
word_same k b h fit =
    let two : get_or b k 0 ∷ get_or b (k + 1) 0 ∷ [] ≡ part k 2 b =
    ap (λ (l : List ℕ). get_or b k 0 ∷ l) (part_first_byte (k + 1) 0 b (omega arith)) ∙ part_first_byte k 1 b (omega arith) in
    ap (λ (l : List ℕ). word_bytes (words_of l)) two ∙ words_same k 1 b h fit

-- how many bytes of what is announced stand from place k on
abbrev announced_from : ℕ → ℕ
announced_from k = announced_length - k

-- what bytes announce says the bytes
pub announced_same : (b : List ℕ) → length b ≡ announced_length → Fit 8 b → announced_bytes (announced_of b) ≡ b
unfolding announced_bytes announced_of
announced_same b long fit =
    rw (
      eq-eqb (length b) announced_length long,
      word_same availability_at b (omega arith) fit,
      words_same ts_id_at last_stream b (omega arith) fit,
      words_same network_id_at last_stream b (omega arith) fit,
      part_first_byte emergency_at (announced_from announced_length) b (omega arith),
      part-joined statuses_at last_stream (announced_from emergency_at) b,
      part-joined network_id_at (2 * last_stream) (announced_from statuses_at) b,
      part-joined ts_id_at (2 * last_stream) (announced_from network_id_at) b,
      part-joined availability_at 2 (announced_from ts_id_at) b,
      part_first_byte frame_type_at (announced_from availability_at) b (omega arith),
      part_first_byte slot_type_at (announced_from frame_type_at) b (omega arith),
    ) (take_all announced_length b (omega arith))

-- what a setting's bytes announce stands in a part of them, behind its counter and its version
pub announced-part : (b : List ℕ) → length b ≡ setting_length → announced (setting_of b) ≡ announced_of (part announced_at announced_length b)
unfolding setting_of announced
announced-part b long = rw (eq-eqb (length b) setting_length long) refl

-- and says that part
pub announced_part_same : (b : List ℕ) → length b ≡ setting_length → Fit 8 b → announced_bytes (announced (setting_of b)) ≡ part announced_at announced_length b
announced_part_same b long fit =
    ap announced_bytes (announced-part b long) ∙ announced_same (part announced_at announced_length b) (length_part announced_at announced_length b (omega arith)) (fit_part announced_at announced_length b fit)

-- the setting that bytes say says the bytes
pub setting_same : (b : List ℕ) → length b ≡ setting_length → Fit 8 b → setting_bytes (setting_of b) ≡ b
unfolding setting_bytes setting_of
setting_same b long fit =
    rw (
      announced_part_same b long fit,
      eq-eqb (length b) setting_length long,
      part_first_byte position_at (setting_from setting_length) b (omega arith),
      part_first_byte frames_at (setting_from position_at) b (omega arith),
      part_first_byte sequence_at (setting_from frames_at) b (omega arith),
      part_first_byte carriers_at (setting_from sequence_at) b (omega arith),
      part_first_byte group_at (setting_from carriers_at) b (omega arith),
      part-joined auxiliary_at auxiliary_bytes (setting_from group_at) b,
      part-joined private_at private_bytes (setting_from auxiliary_at) b,
      part-joined numbers_at last_slot (setting_from private_at) b,
      part-joined announced_at announced_length (setting_from numbers_at) b,
      part_first_byte version_at (setting_from announced_at) b (omega arith),
      part_first_byte counter_at (setting_from version_at) b (omega arith),
    ) (take_all setting_length b (omega arith))
