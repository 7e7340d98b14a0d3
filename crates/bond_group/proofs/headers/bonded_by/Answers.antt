-- `bonded_by` meets its contract: the marks are those of the header, of which it has up to 53. Assumes nothing.
use Prim.Native.Nat.{ℕ, zero, suc, ◌≤◌}
use mathlib.Core.Path.{◌≡◌, refl, sym, ap, ◌∙◌}
use mathlib.Core.Bool.{true, false, not, true≢false}
use Rattle.std.specs.Prelude.{Result, Ok, Err, Option, Some, None, is_some, is_none, unwrap_or}
use Rattle.std.specs.Result.{result_ok}
use Rattle.refusals.specs.declared.Refusal.{Refusal}
use Rattle.refusals.proofs.Refusals.{is_some_number}
use Rattle.counters.specs.declared.RelativeNumber.{RelativeNumber}
use mathlib.Core.List.{List}
use native.Mathlib.Omega.{arith}
use borrow.Author.Tests.{eq-eqb, ne_eqb}
use lib.Count.{ones}
use lib.Dec.{eqb}
use lib.ListN.{length, take, drop}
use lib.Seq.{drop-drop}
use Rattle.counters.specs.Counters.{first_stream, last_stream, within, checked, answered}
use Rattle.counters.proofs.Within.{between, checked_in, checked_out}
use Rattle.setting.specs.declared.Kind.{Kind}
use Rattle.setting.specs.Size.{size_of}
use Rattle.setting.proofs.Sizes.{resized_same}
use Rattle.setting_pairs.specs.Identifiers.{ids_apart}
use Rattle.setting_pairs.proofs.Apart.{length_apart}
use Rattle.bits.specs.Fields.{Fit}
use Rattle.bits.proofs.Laws.{fit_of}
use Rattle.slices.proofs.Front.{drop-take}
use Rattle.header_layout.specs.Header.{header_length, reading}
use Rattle.header_check.specs.OnPaper.{Checked}
use Rattle.header_check.specs.Checking.{parts_of, numbers_into}
use Rattle.header_check.proofs.Identifiers.{ts_ids_in, network_ids_in}
use Rattle.bond_places.specs.Order.{frame_packets}
use Rattle.bond_group.specs.Group.{number_of, carries}
use Rattle.bond_group.proofs.Uncarried.{marked, no_marks, no_ones}
use Rattle.bond_group.proofs.Marks.{picked_few, marks_ones}
use borrow.Author.Rules.{rules}
use Rattle.bond_group.proofs.headers.bonded_by.Goals as goal
use Rattle.bond_group.proofs.headers.bonded_by.Goals.{After-number_of-number}

-- the identifiers stand where an extended header has them
module _ (p : List ℕ) (f : Fit 8 p) (h : length p ≡ header_length) where
  ts_ids_of : ids_apart 4 last_stream (take 60 (drop 9 p)) ≡ (reading Kind.Extended p).ts_id
  unfolding size_of
  ts_ids_of = sym (resized_same last_stream _ (length_apart 4 last_stream (take 60 (drop 9 p)))) ∙ ts_ids_in Kind.Extended p f h

  -- the same bytes without the first two
  behind_two : ids_apart 4 last_stream (take 58 (drop 11 p)) ≡ ids_apart 4 last_stream (drop 2 (take 60 (drop 9 p)))
  behind_two = ap (ids_apart 4 last_stream) (sym (drop-take 2 58 (drop 9 p) ∙ ap (take 58) (drop-drop 2 9 p)))

  network_ids_of : ids_apart 4 last_stream (take 58 (drop 11 p)) ≡ (reading Kind.Extended p).original_network_id
  unfolding size_of
  network_ids_of =
      behind_two ∙ sym (resized_same last_stream _ (length_apart 4 last_stream (drop 2 (take 60 (drop 9 p))))) ∙ network_ids_in Kind.Extended p f h

-- so the number is the stream's in it
numbered : (c : After-number_of-number) → c.number_of-number.result ≡ number_of c.args.b (reading Kind.Extended c.args.packet.now)
unfolding parts_of
numbered c =
    let p = c.args.packet.now in
    let bytes = fit_of 8 p (λ i. (c.type_inv.packet i).fits) in
    c.number_of-number.ensures.value (reading Kind.Extended p) (sym (ap (λ (x : Checked). x.availability) c.requires.said_value))
    (sym (ts_ids_of p bytes c.requires.packet_len))
    (sym (network_ids_of p bytes c.requires.packet_len))

-- of the numbers up to the last stream's only 0 is refused
none : (n : ℕ) → n ≤ last_stream → within first_stream last_stream n ≡ false → n ≡ 0
none zero h e = refl
none (suc n) h e = absurd (true≢false (sym (between first_stream last_stream (suc n) (omega arith) h) ∙ e))

some : (n : ℕ) → within first_stream last_stream n ≡ true → not (eqb n 0) ≡ true
some zero e = absurd (true≢false (sym e))
some (suc n) e = ap not (ne_eqb (suc n) 0 (λ z. omega arith))

-- what is left of a checked number's refusal, and of its value
no_number : (r : Result RelativeNumber Refusal) (n : ℕ) → None ≡ result_ok r → answered (λ (v : RelativeNumber). v.0) r ≡ checked first_stream last_stream n → within first_stream last_stream n ≡ false
no_number (Ok v) n e told = absurd (true≢false (ap is_none e))
no_number (Err refusal) n e told = (checked_out first_stream last_stream n told (is_some_number refusal)).0

a_number : (r : Result RelativeNumber Refusal) (n : ℕ) (v : RelativeNumber) → Some v ≡ result_ok r → answered (λ (v : RelativeNumber). v.0) r ≡ checked first_stream last_stream n → (within first_stream last_stream n ≡ true) × (v.0 ≡ n)
a_number (Ok w) n v e told =
    let same : v.0 ≡ w.0 = ap (λ (o : Option RelativeNumber). (unwrap_or o w).0) e in
    let inside = checked_in first_stream last_stream n told in
    (inside.0, same ∙ inside.1)
a_number (Err refusal) n v e told = absurd (true≢false (ap is_some e))

pub returns-in_err-r : goal.returns-in_err-r
unfolding carries
returns-in_err-r c =
    let s = reading Kind.Extended c.args.packet.now in
    let outside = no_number c.new.result c.number_of-number.result c.in_err-r.ensures.value c.new.ensures in
    let zero_is = sym (none _ c.number_of-number.ensures.upper_bound outside) ∙ numbered (goal.at.returns-in_err-r c).After-number_of-number in
    let nothing : c.from_residual.result ≡ None = search rules in
    let few : ones 0 ≤ frame_packets = omega (arith, no_ones) in
    record {
      is_carried = ap is_some nothing ∙ ap (λ (n : ℕ). not (eqb n 0)) zero_is;
      marks = ap (λ (o : Option ℕ). unwrap_or o 0) nothing ∙ sym (no_marks s.relative_ts_number) ∙ marked c.args.b s refl zero_is;
      marks_bound = rw nothing few;
    }

pub returns : goal.returns
unfolding carries numbers_into
returns c =
    let p = c.args.packet.now in
    let numbers : c.read_numbers.new.numbers ≡ (reading Kind.Extended p).relative_ts_number = rw (eq-eqb (length p) header_length c.requires.packet_len) at c.read_numbers.ensures in
    let inside = a_number c.new.result c.number_of-number.result c.in_ok-r.r c.in_ok-r.ensures.value c.new.ensures in
    record {
      is_carried = sym (some c.number_of-number.result inside.0) ∙ ap (λ (n : ℕ). not (eqb n 0)) (numbered (goal.at.returns c).After-number_of-number);
      marks = c.marks_of.ensures ∙ marked c.args.b (reading Kind.Extended p) numbers (inside.1 ∙ numbered (goal.at.returns c).After-number_of-number);
      marks_bound = rw (c.marks_of.ensures, marks_ones _ refl) (picked_few _ 0 frame_packets);
    }
