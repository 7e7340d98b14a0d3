-- What a packet says in the parts that a check asks for, as byte-wise code reads them, and what is answered of them by the refusal.
-- Assumes nothing.
use Prim.Native.Nat.{ℕ, ◌+◌, ◌-◌, ◌*◌, ◌/◌, ◌%◌, ◌^◌, ◌≤◌, ◌<◌}
use Rattle.std.specs.Prelude.{Ok, Err}
use mathlib.Core.Path.{◌≡◌, refl, sym, ap, ◌∙◌, subst}
use mathlib.Core.List.{List, ◌++◌}
use borrow.Author.Tests.{ne_eqb}
use native.Mathlib.Omega.{arith}
use lib.ListN.{length, get_or, take, drop, replicate, length-replicate, replicate-append-replicate}
use lib.Pow.{shr_lt, shl_exact}
use lib.Seq.{drop_at}
use Rattle.bits.specs.Fields.{Fit, run, cut}
use Rattle.bits.proofs.Laws.{fit_get_d, length_cut}
use Rattle.slices.proofs.Front.{put}
use Rattle.setting.specs.declared.Kind.{Kind}
use Rattle.counters.specs.Counters.{last_slot, last_stream}
use Rattle.setting.specs.Setting.{blank}
use Rattle.setting.specs.Size.{size_of, streams_of, resized}
use Rattle.setting.proofs.Sizes.{sized, resized_same, resized_longer}
use Rattle.header_layout.specs.Header.{header_length, reading}
use Rattle.header_layout.proofs.Cut.{word_at, length_part}
use Rattle.header_layout.proofs.Said.{fields_are, streams_are, numbers_are}
use Rattle.refusals.specs.declared.Refusal.{Refusal as Why}
use Rattle.refusals.specs.Refusals.{number}
use Rattle.header_check.specs.declared.Refused.{Refused}
use Rattle.header_check.specs.declared.Said.{Said}
use Rattle.header_check.specs.OnPaper.{Refusal}
use Rattle.header_check.specs.OnPaper.{Checked, on_paper}
use Rattle.header_check.specs.Checking.{read_refusal, bare, refusal_by, parts_of, parts_beside, checked_of}

-- the counter and the frame type, which stand in the same place in every kind
module _ (kind : Kind) (p : List ℕ) (f : Fit 8 p) (h : length p ≡ header_length) where
  pub counter_is : get_or p 3 0 % 16 ≡ (reading kind p).continuity_counter
  counter_is = (fields_are p f h kind).0

  pub type_is : get_or p 6 0 % 16 ≡ (reading kind p).frame_type
  type_is = (fields_are p f h kind).3

-- the availability, shifted to where a setting has it
pub streams_shifted : (kind : Kind) (p : List ℕ) → Fit 8 p → length p ≡ header_length
    → word_at p 7 / 2 ^ (16 - streams_of kind) * 2 ^ (last_stream - streams_of kind) % 2 ^ 16 ≡ (reading kind p).availability
streams_shifted kind p f h =
    let n = streams_of kind in
    let few : n ≤ last_stream = (sized kind).streams in
    let all : 16 ≡ n + (16 - n) = omega arith in
    let word : word_at p 7 < 2 ^ (n + (16 - n)) = subst (λ (w : ℕ). word_at p 7 < 2 ^ w) all (omega (arith, fit_get_d f 7, fit_get_d f 8)) in
    shl_exact n (last_stream - n) 16 (shr_lt n (16 - n) word) (omega arith) ∙ streams_are p f h kind

-- values written over the front of zeros
pub over_zeros : (m n : ℕ) (vs : List ℕ) → length vs ≡ n → n ≤ m → put 0 n (replicate m 0) vs ≡ resized m vs
over_zeros m n vs e h =
    let zeros : drop {A = ℕ} n (replicate m 0) ≡ replicate (m - n) 0 =
    let both : n + (m - n) ≡ m = omega arith in
    sym (ap (λ (l : List ℕ). drop n l) (replicate-append-replicate n (m - n) 0 ∙ ap (λ (k : ℕ). replicate k 0) both))
    ∙ drop_at (replicate n 0) (replicate (m - n) 0) n (length-replicate {A = ℕ} n 0) in
    let fits : length vs ≤ m = omega arith in
    ap (λ (l : List ℕ). vs ++ l) zeros ∙ ap (λ (k : ℕ). vs ++ replicate (m - k) 0) (sym e) ∙ sym (resized_longer m vs fits)

-- how many numbers stand two to a byte
pub long_numbers : (p : List ℕ) → length p ≡ header_length → cut 4 (2 * length (take 26 (drop 73 p))) (run 8 (take 26 (drop 73 p))) ≡ cut 4 52 (run 8 (take 26 (drop 73 p)))
long_numbers p h = ap (λ (n : ℕ). cut 4 (2 * n) (run 8 (take 26 (drop 73 p)))) (length_part p 73 26 (omega arith))

-- the slots' numbers of each kind, as they are read: two from a byte, or three bits each into the front of zeros
module _ (p : List ℕ) (f : Fit 8 p) (h : length p ≡ header_length) where
  pub plain_numbers : cut 4 52 (run 8 (take 26 (drop 73 p))) ≡ (reading Kind.Plain p).relative_ts_number
  unfolding size_of
  plain_numbers = sym (resized_same last_slot _ (length_cut 4 52 (run 8 (take 26 (drop 73 p))))) ∙ numbers_are p f h Kind.Plain

  pub extended_numbers : cut 4 52 (run 8 (take 26 (drop 73 p))) ≡ (reading Kind.Extended p).relative_ts_number
  unfolding size_of
  extended_numbers = sym (resized_same last_slot _ (length_cut 4 52 (run 8 (take 26 (drop 73 p))))) ∙ numbers_are p f h Kind.Extended

  pub short_numbers : put 0 40 (replicate last_slot 0) (cut 3 40 (run 8 (take 15 (drop 38 p)))) ≡ (reading Kind.Short p).relative_ts_number
  unfolding size_of
  short_numbers = over_zeros last_slot 40 _ (length_cut 3 40 (run 8 (take 15 (drop 38 p)))) (omega arith) ∙ numbers_are p f h Kind.Short

-- what is answered tells the refusal, and beside 0 what the packet says
module _ (kind : Kind) (pid : ℕ) (p : List ℕ) (r : Checked) (e : r ≡ checked_of kind pid p) where
  pub refusal-shown : r.refusal ≡ refusal_by (read_refusal kind pid p) p
  unfolding checked_of parts_beside parts_of
  refusal-shown = ap (λ (x : Checked). x.refusal) e

  pub refusal_is : read_refusal kind pid p ≡ r.refusal.number
  unfolding refusal_by
  refusal_is = sym (ap (λ (x : Refusal). x.number) refusal-shown)

  pub parts_are : r.refusal.number ≡ 0 → r ≡ parts_of (bare 0) (reading kind p)
  unfolding checked_of parts_beside refusal_by
  parts_are z = e ∙ rw (refusal_is ∙ z)

-- beside any number but 7 no remainder is shown
pub bare_is : (n : ℕ) (p : List ℕ) → (n ≡ 7 → ⊥) → bare n ≡ refusal_by n p
unfolding refusal_by
bare_is n p h = rw (ne_eqb n 7 h) refl

pub refused_bare : (n : ℕ) {m : ℕ} (p : List ℕ) {r : Refusal} → r ≡ bare n → (n ≡ 7 → ⊥) → n ≡ m → r ≡ refusal_by m p
refused_bare n p e h s = e ∙ bare_is n p h ∙ ap (λ (k : ℕ). refusal_by k p) s

pub refused_from : (refusal : Why) {m : ℕ} (p : List ℕ) {why : Refused} → why ≡ record { refusal = refusal; remainder = 0 } → (number refusal ≡ 7 → ⊥) → number refusal ≡ m → record { number = number why.refusal; remainder = why.remainder } ≡ refusal_by m p
refused_from refusal p e h s = refused_bare (number refusal) p (ap (λ (w : Refused). record { number = number w.refusal; remainder = w.remainder }) e) h s

-- n is the refusal's number, and m what the code found it to be
module _ (kind : Kind) (p : List ℕ) {m n : ℕ} (e : n ≡ m) where
  pub refused : (m ≡ 0 → ⊥) → (why : Refused) → record { number = number why.refusal; remainder = why.remainder } ≡ refusal_by m p → on_paper (Err why) ≡ parts_beside n kind p
  unfolding parts_beside parts_of blank
  refused h why f = rw (e, ne_eqb m 0 h) (ap (λ (x : Refusal). parts_of x blank) f)

  pub accepted : m ≡ 0 → (said : Said) → on_paper (Ok said) ≡ parts_of (bare 0) (reading kind p) → on_paper (Ok said) ≡ parts_beside n kind p
  unfolding parts_beside refusal_by
  accepted z said s = rw (e ∙ z) s
