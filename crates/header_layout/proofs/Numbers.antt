-- The slots' numbers that a packet says fit their bits, and behind the kind's last slot there are none. Assumes nothing.
use Prim.Native.Nat.{ℕ, ◌^◌, ◌≤◌}
use mathlib.Core.Path.{◌≡◌}
use mathlib.Core.Bool.{false}
use mathlib.Core.List.{List}
use native.Mathlib.Omega.{arith}
use native.Mathlib.Nat.{le_of_eq}
use lib.ListN.{length}
use Rattle.bits.specs.Fields.{Fit, run}
use Rattle.bits.proofs.Laws.{fit_run, length_run}
use Rattle.slices.specs.Slices.{some_at_least}
use Rattle.counters.specs.Counters.{last_slot}
use Rattle.setting.specs.declared.Kind.{Kind}
use Rattle.setting.specs.Size.{size_of, slots_of}
use Rattle.setting.specs.Rules.{some_behind}
use Rattle.setting.proofs.Fields.{some_fit}
use Rattle.setting.proofs.Sizes.{fit_resized, none_behind_resized}
use Rattle.header_layout.specs.Layout.{Field, layout}
use Rattle.header_layout.specs.Header.{header_length, values, reading}
use Rattle.header_layout.proofs.LaidOut.{laid_out, size-layout}
use Rattle.header_layout.proofs.Rows.{size, Fills, row_fills}

module _ (kind : Kind) (p : List ℕ) (h : length p ≡ header_length) where
  filled : Fills ((size_of kind).number_bits, slots_of kind) (values kind p Field.numbers)
  unfolding laid_out
  filled =
      let long : size (layout kind) ≤ length (run 8 p) = let e = size-layout kind in rw length_run (omega arith) in
      row_fills (layout kind) (run 8 p) (fit_run 8 p) long 16 (omega arith)

  pub numbers_fit : Fit (size_of kind).number_bits (reading kind p).relative_ts_number
  unfolding reading
  numbers_fit = fit_resized last_slot filled.1

  pub numbers_said : (some_at_least (2 ^ (size_of kind).number_bits) (reading kind p).relative_ts_number ≡ false)
      × (some_behind (slots_of kind) (reading kind p).relative_ts_number ≡ false)
  unfolding reading
  numbers_said = (
    some_fit (size_of kind).number_bits (reading kind p).relative_ts_number numbers_fit,
    none_behind_resized (slots_of kind) last_slot (values kind p Field.numbers) (le_of_eq filled.0),
  )
