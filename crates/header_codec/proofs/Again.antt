-- A header that the reader accepts, written again, is the same. Assumes nothing.
use Prim.Native.Nat.{ℕ, ◌+◌, ◌-◌, ◌^◌, ◌≤◌, ◌<◌}
use mathlib.Core.Path.{◌≡◌, refl, sym, ap, ap₂, ◌∙◌, subst}
use mathlib.Core.Bool.{false}
use mathlib.Core.List.{List, [], ◌∷◌, ◌++◌}
use native.Mathlib.Omega.{arith}
use lib.Dec.{lit<}
use lib.ListN.{length, get_or, take, drop, take-append-drop, length-drop, length-replicate}
use lib.Pow.{shl-shr}
use Rattle.bits.specs.Fields.{Fit, bits_of, number, run}
use Rattle.bits.proofs.Laws.{fit_run, fit_drop, length_run, bits_of-number, number_lt}
use Rattle.slices.proofs.Differing.{same_lists}
use Rattle.crc.proofs.Laws.{own_bits_only}
use Rattle.setting.specs.declared.Kind.{Kind}
use Rattle.counters.specs.Counters.{last_slot, last_stream}
use Rattle.setting.specs.Setting.{private_bytes}
use Rattle.setting.specs.Size.{size_of, slots_of, streams_of}
use Rattle.setting.proofs.Sizes.{sized, resized_again}
use Rattle.setting.proofs.Refusals.{none_at}
use Rattle.header_layout.specs.Layout.{layout, reserved_from}
use Rattle.header_layout.specs.Header.{one, paired, firsts, seconds, all_ones, streams_beyond, content, line_bits, body, header, row, reading, zero_check, reserved_checks}
use Rattle.header_write.specs.Writing.{written}
use Rattle.header_read.specs.Reader.{read_of}
use Rattle.header_codec.specs.Demands.{WrittenAgain}
use Rattle.header_layout.proofs.Rows.{row_of, Fills, Suits, Each, next, done, each_at, pack-rows}
use Rattle.header_layout.proofs.LaidOut.{laid_out, body_bits, size-layout, length-content}
use Rattle.header_write.proofs.Calls.{not_refused}
use Rattle.header_layout.proofs.Whole.{crc_of, crc_lt, header_only, register_behind}
use Rattle.header_check.specs.Checking.{refusal_by}
use Rattle.header_check.proofs.Accepted.{Shown, shown, length-firsts, length-seconds, long, row_filled, meets}

-- ---- row by row

-- a list of one value, and one of pairs, put together again
single : (xs : List ℕ) → length xs ≡ 1 → one (get_or xs 0 0) ≡ xs
single [] e = absurd (omega arith)
single (x ∷ []) e = refl
single (x ∷ y ∷ xs) e = absurd (omega arith)

halves : (xs : List ℕ) (n : ℕ) → length xs ≡ n + n → paired (firsts xs) (seconds xs) ≡ xs
unfolding paired firsts seconds
halves [] n e = refl
halves (x ∷ []) n e = absurd (omega arith)
halves (x ∷ y ∷ xs) n e = ap (λ (l : List ℕ). x ∷ y ∷ l) (halves xs (n - 1) (omega arith))

-- what is written again in row k is what was read there
abbrev Kept : Kind → ℕ → List ℕ → ℕ → Type 0
Kept kind pid p k = get_or (content kind pid (reading kind p)) k [] ≡ row kind p k

module _ (kind : Kind) (pid : ℕ) (p : List ℕ) (a : Shown kind pid p) where
  -- a row of one value is that value
  sole : (k : ℕ) → k < length (layout kind) → (row_of (layout kind) k).1 ≡ 1 → one (get_or (row kind p k) 0 0) ≡ row kind p k
  sole k h e = single (row kind p k) ((row_filled kind p a.whole k h).0 ∙ e)

  -- a reserved row has no bit at 0, so it is all ones
  ones : (k : ℕ) → k < length (layout kind) → (zero_check kind p k).1 ≡ false
      → all_ones (row_of (layout kind) k) ≡ row kind p k
  ones k h e =
      sym (same_lists (row kind p k) (all_ones (row_of (layout kind) k)) ((row_filled kind p a.whole k h).0 ∙ sym (length-replicate (row_of (layout kind) k).1 _)) e)

  common : Each (Kept kind pid p) (length (layout kind)) 17 → Each (Kept kind pid p) (length (layout kind)) 0
  unfolding laid_out reading reserved_checks reserved_from
  common behind =
      next (ap one (sym a.sync) ∙ sole 0 (omega arith) refl)
      (next (ap one (sym a.zeros) ∙ sole 1 (omega arith) refl)
      (next (ap one (sym a.pid-row) ∙ sole 2 (omega arith) refl)
      (next (ap one (sym a.payload) ∙ sole 3 (omega arith) refl)
      (next (sole 4 (omega arith) refl)
      (next (ones 5 (omega arith) (none_at a.reserved 0))
      (next (ap one (sym a.tsmf) ∙ sole 6 (omega arith) refl)
      (next (sole 7 (omega arith) refl)
      (next (sole 8 (omega arith) refl)
      (next (sole 9 (omega arith) refl)
      (next (ap one (shl-shr (get_or (row kind p 10) 0 0) (streams_beyond (size_of kind))) ∙ sole 10 (omega arith) refl)
      (next (ones 11 (omega arith) (none_at a.reserved 1))
      (next (ap₂ paired (resized_again n last_stream (firsts (row kind p 12)) (length-firsts (row kind p 12) n pairs) few) (resized_again n last_stream (seconds (row kind p 12)) (length-seconds (row kind p 12) n pairs) few) ∙ halves (row kind p 12) n pairs)
      (next (resized_again n last_stream (row kind p 13) (filled_row 13 (omega arith)).0 few)
      (next (ones 14 (omega arith) (none_at a.reserved 2))
      (next (sole 15 (omega arith) refl)
      (next (resized_again (slots_of kind) last_slot (row kind p 16) (filled_row 16 (omega arith)).0 (sized kind).slots) behind))))))))))))))))
    where
      n : ℕ
      n = streams_of kind

      few : streams_of kind ≤ last_stream
      few = (sized kind).streams

      filled_row : (k : ℕ) → k < length (layout kind) → Fills (row_of (layout kind) k) (row kind p k)
      filled_row = row_filled kind p a.whole

      pairs : length (row kind p 12) ≡ n + n
      pairs = (filled_row 12 (omega arith)).0 ∙ omega arith

private_rows : (kind : Kind) (pid : ℕ) (p : List ℕ) → Shown kind pid p → Each (Kept kind pid p) (length (layout kind)) 17
unfolding laid_out reading reserved_checks reserved_from
private_rows Kind.Plain pid p a =
    next (resized_again (size_of Kind.Plain).private_bytes private_bytes (row Kind.Plain p 17) (row_filled Kind.Plain p a.whole 17 (lit< tt)).0 (sized Kind.Plain).privates) done
private_rows Kind.Short pid p a =
    next (resized_again (size_of Kind.Short).private_bytes private_bytes (row Kind.Short p 17) (row_filled Kind.Short p a.whole 17 (lit< tt)).0 (sized Kind.Short).privates) done
private_rows Kind.Extended pid p a =
    next refl (next (only 18 (lit< tt) refl) (next (only 19 (lit< tt) refl) (next (only 20 (lit< tt) refl)
    (next (only 21 (lit< tt) refl) (next (only 22 (lit< tt) refl) (next (ones Kind.Extended pid p a 23 (lit< tt) (none_at a.reserved 3)) done))))))
  where
    only : (k : ℕ) → k < length (layout Kind.Extended) → (row_of (layout Kind.Extended) k).1 ≡ 1
        → one (get_or (row Kind.Extended p k) 0 0) ≡ row Kind.Extended p k
    only = sole Kind.Extended pid p a

-- ---- all rows

module _ (kind : Kind) (pid : ℕ) (p : List ℕ) (a : Shown kind pid p) where
  kept : (k : ℕ) → k < length (layout kind) → Kept kind pid p k
  kept k h = each_at (common kind pid p a (private_rows kind pid p a)) k (omega arith) h

  filled : Suits (layout kind) (content kind pid (reading kind p))
  filled =
      record {
        count = length-content kind pid (reading kind p);
        each = λ k h. subst (Fills (row_of (layout kind) k)) (sym (kept k h)) (row_filled kind p a.whole k h);
      }

  same_body : body kind pid (reading kind p) ≡ take body_bits (run 8 p)
  unfolding body line_bits
  same_body =
      pack-rows (layout kind) (content kind pid (reading kind p)) (run 8 p) (fit_run 8 p) (long kind p a.whole) (length-content kind pid (reading kind p)) kept
      ∙ ap (λ (n : ℕ). take n (run 8 p)) (size-layout kind)

  -- the 32 bits behind the body bring the register to zero, so they are the CRC
  same_bytes : Fit 8 p → header kind pid (reading kind p) ≡ p
  same_bytes bytes =
      header_only kind pid (reading kind p) p bytes a.whole (bits ∙ ap (λ (n : ℕ). body kind pid (reading kind p) ++ bits_of 32 n) crc)
    where
      last : List ℕ
      last = drop body_bits (run 8 p)

      last-long : length last ≡ 32
      last-long = length-drop body_bits (run 8 p) ∙ (let e = length_run 8 p in let l = a.whole in omega arith)

      bits : run 8 p ≡ body kind pid (reading kind p) ++ bits_of 32 (number last)
      bits =
          sym (take-append-drop body_bits (run 8 p))
          ∙ ap₂ (λ (x y : List ℕ). x ++ y) (sym same_body)
          (sym (bits_of-number (fit_drop body_bits (fit_run 8 p))) ∙ ap (λ (n : ℕ). bits_of n (number last)) last-long)

      crc : number last ≡ crc_of kind pid (reading kind p)
      crc =
          own_bits_only (crc_of kind pid (reading kind p)) (number last) (crc_lt kind pid (reading kind p))
          (subst (λ (n : ℕ). number last < 2 ^ n) last-long (number_lt (fit_drop body_bits (fit_run 8 p))))
          (sym (register_behind kind pid (reading kind p) filled p (number last) bits) ∙ a.register)

pub written_again : WrittenAgain
unfolding read_of refusal_by written
written_again kind pid p buffer bytes e l =
    let a = shown kind pid p e in
    let granted = not_refused kind pid (length buffer) (reading kind p) (meets kind pid p a) l in
    rw (e, granted) (refl, same_bytes kind pid p a bytes)
