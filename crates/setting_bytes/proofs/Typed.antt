-- What bytes say as a setting is of a setting's types. Assumes nothing.
use Prim.Native.Nat.{ℕ, zero, suc, ◌+◌, ◌*◌, ◌^◌, ◌≤◌, ◌<◌}
use mathlib.Core.Path.{◌≡◌, refl, ap}
use mathlib.Core.List.{List, [], ◌∷◌}
use native.Mathlib.Omega.{arith}
use native.Mathlib.Decide.{ℕ_discrete}
use borrow.Author.Tests.{eq-eqb, ne_eqb}
use lib.Dec.{lit<}
use lib.Pow.{pow_pos}
use lib.ListN.{length, replicate}
use Rattle.bits.specs.Fields.{Fit, none, more}
use Rattle.bits.proofs.Laws.{fit_get_d}
use Rattle.counters.specs.Counters.{last_slot, last_stream}
use Rattle.setting.specs.Setting.{private_bytes, auxiliary_bytes, Array, blank, OfItsTypes}
use Rattle.setting_bytes.specs.Words.{words_of}
use Rattle.setting_bytes.specs.Settings.{part, announced_at, announced_length, ts_id_at, network_id_at, statuses_at, numbers_at, private_at, auxiliary_at, group_at, setting_length, announced_of, setting_of}
use Rattle.setting_bytes.proofs.Parts.{length_part}
use Rattle.setting_bytes.proofs.Same.{fit_part}

-- zeros fit
zeros_fit : (w n : ℕ) → Fit w (replicate n 0)
zeros_fit w zero = none
zeros_fit w (suc n) = more (pow_pos w) (zeros_fit w n)

pub blank_types : OfItsTypes blank
unfolding blank
blank_types =
    record {
      ts_ids = (refl, zeros_fit 16 last_stream);
      network_id = (refl, zeros_fit 16 last_stream);
      statuses = (refl, zeros_fit 8 last_stream);
      numbers = (refl, zeros_fit 8 last_slot);
      privates = (refl, zeros_fit 8 private_bytes);
      auxiliaries = (refl, zeros_fit 8 auxiliary_bytes);
      group = lit< tt;
    }

words_fit : (b : List ℕ) → Fit 8 b → Fit 16 (words_of b)
unfolding words_of
words_fit [] none = none
words_fit (h ∷ []) f = none
words_fit (h ∷ l ∷ b) (more p (more q f)) = let below : h * 256 + l < 2 ^ 16 = omega arith in more below (words_fit b f)

length_words : (b : List ℕ) (n : ℕ) → length b ≡ 2 * n → length (words_of b) ≡ n
unfolding words_of
length_words [] n e = omega arith
length_words (h ∷ []) n e = absurd (omega arith)
length_words (h ∷ l ∷ b) zero e = absurd (omega arith)
length_words (h ∷ l ∷ b) (suc n) e = ap suc (length_words b n (omega arith))

-- a part of bytes is an array, and so are the numbers of such a part
array_part : (k n : ℕ) (b : List ℕ) → Fit 8 b → k + n ≤ length b → Array n 8 (part k n b)
array_part k n b f h = (length_part k n b h, fit_part k n b f)

words_part : (k n : ℕ) (b : List ℕ) → Fit 8 b → k + 2 * n ≤ length b → Array n 16 (words_of (part k (2 * n) b))
words_part k n b f h = (length_words (part k (2 * n) b) n (length_part k (2 * n) b h), words_fit (part k (2 * n) b) (fit_part k (2 * n) b f))

module _ (b : List ℕ) (f : Fit 8 b) where
  abbrev a : List ℕ
  a = part announced_at announced_length b

  of_its_length : length b ≡ setting_length → OfItsTypes (setting_of b)
  unfolding setting_of announced_of
  of_its_length l =
      let la : length a ≡ announced_length = length_part announced_at announced_length b (omega arith) in
      let fa = fit_part announced_at announced_length b f in
      rw (eq-eqb (length b) setting_length l, eq-eqb (length a) announced_length la)
      (record {
        ts_ids = words_part ts_id_at last_stream a fa (omega arith);
        network_id = words_part network_id_at last_stream a fa (omega arith);
        statuses = array_part statuses_at last_stream a fa (omega arith);
        numbers = array_part numbers_at last_slot b f (omega arith);
        privates = array_part private_at private_bytes b f (omega arith);
        auxiliaries = array_part auxiliary_at auxiliary_bytes b f (omega arith);
        group = fit_get_d f group_at;
      })

  of_another : (length b ≡ setting_length → ⊥) → OfItsTypes (setting_of b)
  unfolding setting_of
  of_another d = rw (ne_eqb (length b) setting_length d) blank_types

  pub setting_typed : OfItsTypes (setting_of b)
  setting_typed = by_length (ℕ_discrete (length b) setting_length)
    where
      by_length : Dec (length b ≡ setting_length) → OfItsTypes (setting_of b)
      by_length (yes l) = of_its_length l
      by_length (no d) = of_another d
