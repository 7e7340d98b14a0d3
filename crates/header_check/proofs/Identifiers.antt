-- The identifiers in a header: those of a stream are four bytes, its TS_id and its original_network_id. Assumes nothing.
use Prim.Native.Nat.{ℕ, zero, suc, ◌+◌, ◌-◌, ◌*◌, ◌/◌, ◌%◌, ◌^◌, ◌≤◌, ◌<◌}
use mathlib.Core.Path.{◌≡◌, refl, sym, ap, ap₂, ◌∙◌}
use mathlib.Core.Bool.{Bool, false, ◌&&◌, ◌||◌, and-false}
use mathlib.Core.List.{List, [], ◌∷◌}
use native.Mathlib.Omega.{arith}
use native.Mathlib.Nat.{zero-mod, zero-div, mul-mod_left}
use native.Mathlib.Decide.{dec_lt, dec_le}
use borrow.Author.Tests.{lt-leb}
use lib.Dec.{leb, eqb}
use lib.Pow.{field, mod-mod-pow}
use lib.ListN.{length, get_or, take, drop}
use lib.Seq.{get_or-take, get_or-drop}
use Rattle.bits.specs.Fields.{Fit, bits_of, run, cut}
use Rattle.bits.proofs.Laws.{fit_drop, fit_take}
use Rattle.slices.specs.Slices.{any_below}
use Rattle.counters.specs.Counters.{first_stream, last_stream, within, available}
use Rattle.setting.specs.declared.Kind.{Kind}
use Rattle.setting.specs.Size.{size_of, streams_of, resized}
use Rattle.setting.specs.Rules.{same_pair, pair_twice}
use Rattle.setting.proofs.Sizes.{sized, length-resized}
use Rattle.setting_pairs.specs.Identifiers.{ids_apart}
use Rattle.setting_pairs.proofs.Apart.{length_apart, apart_at}
use Rattle.header_layout.specs.Layout.{Field, identifiers_start}
use Rattle.header_layout.specs.Header.{header_length, firsts, seconds, value, reading}
use Rattle.header_layout.proofs.Cut.{number-word_at, length_part}
use Rattle.header_layout.proofs.LaidOut.{private_before}
use Rattle.header_layout.proofs.Said.{identifiers}

-- the TS_id of each of n streams
first-ids : (n : ℕ) (b : List ℕ) → Fit 8 b → length b ≡ 4 * n → ids_apart 4 n b ≡ firsts (cut 16 (2 * n) (run 8 b))
unfolding ids_apart firsts cut run bits_of
first-ids zero b f h = refl
first-ids (suc n) (w ∷ x ∷ y ∷ z ∷ b) f h =
    let two : 2 * suc n ≡ suc (suc (2 * n)) = omega arith in
    rw two
    (ap₂ (λ (i : ℕ) (l : List ℕ). i ∷ l) (sym (number-word_at (w ∷ x ∷ y ∷ z ∷ b) 0 f (omega arith))) (first-ids n b (fit_drop 4 f) (omega arith)))
first-ids (suc n) [] f h = absurd (omega arith)
first-ids (suc n) (w ∷ []) f h = absurd (omega arith)
first-ids (suc n) (w ∷ x ∷ []) f h = absurd (omega arith)
first-ids (suc n) (w ∷ x ∷ y ∷ []) f h = absurd (omega arith)

-- and its original_network_id
second-ids : (n : ℕ) (b : List ℕ) → Fit 8 b → length b ≡ 4 * n → ids_apart 4 n (drop 2 b) ≡ seconds (cut 16 (2 * n) (run 8 b))
unfolding ids_apart seconds cut run bits_of
second-ids zero b f h = refl
second-ids (suc n) (w ∷ x ∷ y ∷ z ∷ b) f h =
    let two : 2 * suc n ≡ suc (suc (2 * n)) = omega arith in
    rw two
    (ap₂ (λ (i : ℕ) (l : List ℕ). i ∷ l) (sym (number-word_at (w ∷ x ∷ y ∷ z ∷ b) 2 f (omega arith))) (second-ids n b (fit_drop 4 f) (omega arith)))
second-ids (suc n) [] f h = absurd (omega arith)
second-ids (suc n) (w ∷ []) f h = absurd (omega arith)
second-ids (suc n) (w ∷ x ∷ []) f h = absurd (omega arith)
second-ids (suc n) (w ∷ x ∷ y ∷ []) f h = absurd (omega arith)

-- where they stand in a header
module _ (kind : Kind) (p : List ℕ) (f : Fit 8 p) (h : length p ≡ header_length) where
  abbrev n : ℕ
  n = streams_of kind

  abbrev at : ℕ
  at = identifiers_start (size_of kind)

  room : at + 4 * n ≤ length p
  room = let e = private_before kind in omega arith

  pub ts_ids_in : resized last_stream (ids_apart 4 (streams_of kind) (take (4 * streams_of kind) (drop (identifiers_start (size_of kind)) p))) ≡ (reading kind p).ts_id
  unfolding reading
  ts_ids_in =
      ap (resized last_stream)
      (first-ids n (take (4 * n) (drop at p)) (fit_take (4 * n) (fit_drop at f)) (length_part p at (4 * n) room) ∙ ap firsts (identifiers p f h kind))

  pub network_ids_in : resized last_stream (ids_apart 4 (streams_of kind) (drop 2 (take (4 * streams_of kind) (drop (identifiers_start (size_of kind)) p)))) ≡ (reading kind p).original_network_id
  unfolding reading
  network_ids_in =
      ap (resized last_stream)
      (second-ids n (take (4 * n) (drop at p)) (fit_take (4 * n) (fit_drop at f)) (length_part p at (4 * n) room) ∙ ap seconds (identifiers p f h kind))

-- ---- compared

-- a stream beyond the size is not available
beyond : (availability n k : ℕ) → n ≤ k → availability % 2 ^ (last_stream - n) ≡ 0 → available availability (k + 1) ≡ false
unfolding available
beyond availability n k h e = by (dec_le (k + 1) last_stream)
  where
    bit : k + 1 ≤ last_stream → availability / 2 ^ (last_stream - (k + 1)) % 2 ≡ 0
    bit l =
        let c = last_stream - (k + 1) in
        let j = last_stream - n - (1 + c) in
        let all : last_stream - n ≡ j + (1 + c) = omega arith in
        let none : availability % 2 ^ (1 + c) ≡ 0 =
        sym (mod-mod-pow availability j (1 + c)) ∙ ap (λ (w : ℕ). availability % 2 ^ w % 2 ^ (1 + c)) (sym all) ∙ ap (λ (x : ℕ). x % 2 ^ (1 + c)) e ∙ zero-mod (2 ^ (1 + c)) in
        sym (field availability 1 c) ∙ ap (λ (x : ℕ). x / 2 ^ c) none ∙ zero-div (2 ^ c)

    by : Dec (k + 1 ≤ last_stream) → within first_stream last_stream (k + 1) && eqb (availability / 2 ^ (last_stream - (k + 1)) % 2) 1 ≡ false
    by (yes l) = rw (bit l) (and-false (within first_stream last_stream (k + 1)))
    by (no l) = rw (lt-leb (k + 1) last_stream (omega arith), and-false (leb first_stream (k + 1))) refl

any_alike : (n : ℕ) (f g : ℕ → Bool) → ((k : ℕ) → k < n → f k ≡ g k) → any_below n f ≡ any_below n g
unfolding any_below
any_alike zero f g same = refl
any_alike (suc n) f g same = ap₂ ◌||◌ (any_alike n f g (λ k h. same k (omega arith))) (same n (omega arith))

-- lists that agree in the identifiers of the first n streams have the same pairs twice, if no other stream is available
module _ (availability n : ℕ) (ts us os vs : List ℕ) (left : availability % 2 ^ (last_stream - n) ≡ 0) (same_ts : (k : ℕ) → k < n → get_or ts k 0 ≡ get_or us k 0) (same_os : (k : ℕ) → k < n → get_or os k 0 ≡ get_or vs k 0) where
  same_pair-alike : (j i : ℕ) → i < j → same_pair availability ts os i j ≡ same_pair availability us vs i j
  same_pair-alike j i h = by (dec_lt j n)
    where
      by : Dec (j < n) → same_pair availability ts os i j ≡ same_pair availability us vs i j
      by (yes l) = rw (same_ts i (omega arith), same_ts j l, same_os i (omega arith), same_os j l) refl
      by (no l) = rw (beyond availability n j (omega arith) left, and-false (available availability (i + 1)), and-false (eqb (get_or os i 0) (get_or os j 0)), and-false (eqb (get_or vs i 0) (get_or vs j 0)), and-false (eqb (get_or ts i 0) (get_or ts j 0)), and-false (eqb (get_or us i 0) (get_or us j 0))) refl

  pub pairs_alike : length ts ≡ length us → pair_twice availability ts os ≡ pair_twice availability us vs
  unfolding pair_twice
  pairs_alike e =
      any_alike (length ts) _ _ (λ j l. any_alike j _ _ (λ i h. same_pair-alike j i h))
      ∙ ap (λ (m : ℕ). any_below m (λ j. any_below j (λ i. same_pair availability us vs i j))) e

-- ---- in a header

get_d_resized : (m k : ℕ) (vs : List ℕ) → k < m → get_or (resized m vs) k 0 ≡ get_or vs k 0
unfolding resized
get_d_resized zero k vs h = absurd (omega arith)
get_d_resized (suc m) zero [] h = refl
get_d_resized (suc m) (suc k) [] h = get_d_resized m k [] (omega arith)
get_d_resized (suc m) zero (v ∷ vs) h = refl
get_d_resized (suc m) (suc k) (v ∷ vs) h = get_d_resized m k vs (omega arith)

-- identifier k of bytes that agree where it stands
same_id : (n k : ℕ) (a b : List ℕ) → k < n → n ≤ last_stream → ((i : ℕ) → i < 4 * n - 2 → get_or a i 0 ≡ get_or b i 0)
    → get_or (ids_apart 4 last_stream a) k 0 ≡ get_or (resized last_stream (ids_apart 4 n b)) k 0
same_id n k a b h l e =
    apart_at 4 last_stream k a (omega arith) ∙ ap₂ (λ (x y : ℕ). x * 256 + y) (e (4 * k) (omega arith)) (e (4 * k + 1) (omega arith))
    ∙ sym (get_d_resized last_stream k (ids_apart 4 n b) (omega arith) ∙ apart_at 4 n k b h)

-- the identifiers of fifteen streams, read from a header that may have fewer: those that it does not have are not compared
module _ (kind : Kind) (p : List ℕ) (f : Fit 8 p) (h : length p ≡ header_length) where
  abbrev m : ℕ
  m = streams_of kind

  abbrev from : ℕ
  from = identifiers_start (size_of kind)

  few : streams_of kind ≤ last_stream
  few = (sized kind).streams

  none_beyond : (reading kind p).availability % 2 ^ (last_stream - streams_of kind) ≡ 0
  unfolding reading
  none_beyond = mul-mod_left (value kind p Field.streams) (2 ^ (last_stream - m))

  pub pairs_in : pair_twice (reading kind p).availability (ids_apart 4 last_stream (take 60 (drop (identifiers_start (size_of kind)) p))) (ids_apart 4 last_stream (take 58 (drop (identifiers_start (size_of kind) + 2) p)))
      ≡ pair_twice (reading kind p).availability (reading kind p).ts_id (reading kind p).original_network_id
  pairs_in =
      pairs_alike (reading kind p).availability m a (resized last_stream (ids_apart 4 m c)) b (resized last_stream (ids_apart 4 m (drop 2 c))) none_beyond
      (λ k l. same_id m k (take 60 (drop from p)) c l few (λ i j. let few = few in get_or-take 60 (drop from p) i 0 (omega arith) ∙ sym (get_or-take (4 * m) (drop from p) i 0 (omega arith))))
      (λ k l. same_id m k (take 58 (drop (from + 2) p)) (drop 2 c) l few (λ i j. second i j))
      (length_apart 4 last_stream (take 60 (drop from p)) ∙ sym (length-resized last_stream (ids_apart 4 m c)))
      ∙ ap₂ (pair_twice (reading kind p).availability) (ts_ids_in kind p f h) (network_ids_in kind p f h)
    where
      c : List ℕ
      c = take (4 * m) (drop from p)

      a : List ℕ
      a = ids_apart 4 last_stream (take 60 (drop from p))

      b : List ℕ
      b = ids_apart 4 last_stream (take 58 (drop (from + 2) p))

      second : (i : ℕ) → i < 4 * m - 2 → get_or (take 58 (drop (from + 2) p)) i 0 ≡ get_or (drop 2 (take (4 * m) (drop from p))) i 0
      second i j =
          let l = few in
          get_or-take 58 (drop (from + 2) p) i 0 (omega arith) ∙ get_or-drop (from + 2) p i 0
          ∙ sym (get_or-drop 2 (take (4 * m) (drop from p)) i 0 ∙ get_or-take (4 * m) (drop from p) (2 + i) 0 (omega arith) ∙ get_or-drop from p (2 + i) 0 ∙ ap (λ (n : ℕ). get_or p n 0) (omega arith))
