-- The reserved rows of a packet, as byte-wise code asks for them. Assumes nothing.
use Prim.Native.Nat.{ℕ, ◌-◌, ◌/◌, ◌%◌, ◌<◌}
use mathlib.Core.Path.{◌≡◌, refl, sym, ap, ap₂, ◌∙◌}
use mathlib.Core.Bool.{true, not}
use mathlib.Core.List.{List, [], ◌∷◌, map}
use native.Mathlib.Omega.{arith}
use lib.Dec.{eqb}
use lib.ListN.{length, get_or, take, drop, replicate}
use Rattle.bits.specs.Fields.{Fit, number, run, cut}
use Rattle.bits.proofs.Laws.{fit_get_d}
use Rattle.slices.specs.Slices.{any_below, some_differ}
use Rattle.setting.specs.declared.Kind.{Kind}
use Rattle.setting.specs.Size.{size_of}
use Rattle.setting.specs.Refusal.{first_of, NoneHolds}
use Rattle.setting.proofs.Sizes.{sized}
use Rattle.setting.proofs.Refusals.{numbered, none_first}
use Rattle.header_layout.specs.Rows.{place, row_at}
use Rattle.header_layout.specs.Layout.{private_table, reserved_from, reserved_rows, reserved_bytes, identifiers_start, numbers_start}
use Rattle.header_layout.specs.Header.{header_length, one, row, zero_check, reserved_checks}
use Rattle.header_layout.proofs.Cut.{byte_field, byte_row, length_part}
use Rattle.header_layout.proofs.LaidOut.{laid_out, stream_bit_place, control-bit-place, private_before}

module _ (p : List ℕ) (f : Fit 8 p) (h : length p ≡ header_length) where
  module _ (kind : Kind) where
    before_sync : row kind p 5 ≡ one (get_or p 4 0 / 32)
    unfolding laid_out row_at place cut
    before_sync = ap one (byte_field p 4 0 3 5 (omega arith) refl ∙ omega (arith, fit_get_d f 4))

    behind-streams : row kind p 11 ≡ one (get_or p (identifiers_start (size_of kind) - 1) 0 % 2)
    unfolding laid_out row_at cut
    behind-streams =
        let at = identifiers_start (size_of kind) - 1 in
        let inside : at < length p = let e = private_before kind in omega arith in
        ap (λ (m : ℕ). one (number (take 1 (drop m (run 8 p))))) (stream_bit_place (size_of kind) (private_table kind) (sized kind))
        ∙ ap one (byte_field p at 7 1 0 inside refl ∙ omega arith)

    before_emergency : row kind p 14 ≡ one (get_or p (numbers_start (size_of kind) - 1) 0 / 2 % 2)
    unfolding laid_out row_at cut
    before_emergency =
        let at = numbers_start (size_of kind) - 1 in
        let inside : at < length p = let e = private_before kind in omega arith in
        ap (λ (m : ℕ). one (number (take 1 (drop m (run 8 p))))) (control-bit-place (size_of kind) (private_table kind) (sized kind))
        ∙ ap one (byte_field p at 6 1 1 inside refl)

    -- the bits of each kind, then its reserved bytes
    pub reserved_are : reserved_checks kind p
        ≡ (20, not (eqb (get_or p 4 0 / 32) 7))
        ∷ (20, not (eqb (get_or p (identifiers_start (size_of kind) - 1) 0 % 2) 1))
        ∷ (20, not (eqb (get_or p (numbers_start (size_of kind) - 1) 0 / 2 % 2) 1))
        ∷ drop 3 (reserved_checks kind p)
    unfolding laid_out reserved_checks reserved_from some_differ any_below
    reserved_are = λ i.
        (20, some_differ (before_sync i) (one 7))
        ∷ (20, some_differ (behind-streams i) (one 1))
        ∷ (20, some_differ (before_emergency i) (one 1))
        ∷ drop 3 (reserved_checks kind p)

  -- an extended header's 53 bytes
  pub extended-bytes : {kind : Kind} → kind ≡ Kind.Extended
      → drop 3 (reserved_checks kind p) ≡ (20, some_differ (take reserved_bytes (drop 131 p)) (replicate (length (take reserved_bytes (drop 131 p))) 255)) ∷ []
  unfolding laid_out reserved_checks reserved_from size_of row_at place
  extended-bytes e =
      ap (λ (k : Kind). drop 3 (reserved_checks k p)) e
      ∙ ap₂ (λ (vs : List ℕ) (n : ℕ). (20, some_differ vs (replicate n 255)) ∷ []) (sym (byte_row p 131 reserved_bytes f (omega arith)))
      (sym (length_part p 131 reserved_bytes (omega arith)))

-- no check of 20 has the number 0, so where 0 is answered none holds
pub numbered_reserved : (kind : Kind) (p : List ℕ) → numbered (reserved_checks kind p) ≡ true
unfolding reserved_checks
numbered_reserved kind p = numbered_by (reserved_rows kind)
  where
    numbered_by : (ks : List ℕ) → numbered (map (zero_check kind p) ks) ≡ true
    numbered_by [] = refl
    numbered_by (k ∷ ks) = numbered_by ks

pub reserved_none : (kind : Kind) (p : List ℕ) → first_of (reserved_checks kind p) ≡ 0 → NoneHolds (reserved_checks kind p)
reserved_none kind p e = none_first (reserved_checks kind p) (numbered_reserved kind p) e

-- plain and short headers have no reserved bytes
pub plain_bytes : (p : List ℕ) {kind : Kind} → kind ≡ Kind.Plain → first_of (drop 3 (reserved_checks kind p)) ≡ 0
unfolding laid_out reserved_checks reserved_from first_of
plain_bytes p e = ap (λ (k : Kind). first_of (drop 3 (reserved_checks k p))) e

pub short-bytes : (p : List ℕ) {kind : Kind} → kind ≡ Kind.Short → first_of (drop 3 (reserved_checks kind p)) ≡ 0
unfolding laid_out reserved_checks reserved_from first_of
short-bytes p e = ap (λ (k : Kind). first_of (drop 3 (reserved_checks k p))) e
