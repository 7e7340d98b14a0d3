-- The layout and its content, opened down to their rows, and where the rows start, over any size. Assumes nothing.
use Prim.Native.Nat.{ℕ, ◌+◌, ◌-◌, ◌*◌, ◌≤◌}
use mathlib.Core.Path.{◌≡◌, refl}
use mathlib.Core.Bool.{decide}
use mathlib.Core.List.{List, [], ◌∷◌}
use native.Mathlib.Omega.{arith}
use lib.ListN.{length}
use Rattle.setting.specs.declared.Kind.{Kind}
use Rattle.setting.specs.declared.Size.{Size}
use Rattle.setting.specs.declared.Setting.{Setting}
use Rattle.setting.specs.Size.{size_of}
use Rattle.setting.proofs.Sizes.{Sized}
use Rattle.header_layout.specs.Rows.{Row, place}
use Rattle.header_layout.specs.Layout.{Line, start_table, stream_table, identifier_table, control_table, number_table, private_table, table_of, table, rows_of, layout, row_with}
use Rattle.header_layout.specs.Layout.{identifiers_start, control_start, numbers_start, private_start}
use Rattle.header_layout.specs.Header.{held, content}
use Rattle.header_layout.proofs.Rows.{size}

-- a proof that says `unfolding laid_out` sees each row, its number and what stands in it
unfoldable pub laid_out : Unit {0}
unfolding table table_of start_table stream_table identifier_table control_table number_table private_table row_with decide held
laid_out = tt

first-place : (rs : List Row) → place rs 0 ≡ 0
unfolding place
first-place [] = refl
first-place (r ∷ rs) = refl

-- where the rows of the identifiers, the statuses, the emergency bit, the slots' numbers and the private data start, and the two reserved bits
module _ (z : Size) (ps : List Line) (s : Sized z) where
  pub stream_bit_place : place (rows_of (table_of z ps)) 11 ≡ (identifiers_start z - 1) * 8 + 7
  unfolding laid_out place
  stream_bit_place = let b = s.stream_bytes in omega arith

  pub identifiers-place : place (rows_of (table_of z ps)) 12 ≡ identifiers_start z * 8
  unfolding laid_out place
  identifiers-place = let b = s.stream_bytes in omega arith

  pub statuses-place : place (rows_of (table_of z ps)) 13 ≡ control_start z * 8
  unfolding laid_out place
  statuses-place = let b = s.stream_bytes in omega arith

  pub control-bit-place : place (rows_of (table_of z ps)) 14 ≡ (numbers_start z - 1) * 8 + 6
  unfolding laid_out place
  control-bit-place = let b = s.stream_bytes in omega arith

  pub emergency_place : place (rows_of (table_of z ps)) 15 ≡ (numbers_start z - 1) * 8 + 7
  unfolding laid_out place
  emergency_place = let b = s.stream_bytes in omega arith

  pub numbers_place : place (rows_of (table_of z ps)) 16 ≡ numbers_start z * 8
  unfolding laid_out place
  numbers_place = let b = s.stream_bytes in omega arith

-- the bits before the CRC, which every kind fills
abbrev pub body_bits : ℕ
body_bits = 1472

pub size-layout : (kind : Kind) → size (layout kind) ≡ body_bits
unfolding laid_out place size_of
size-layout Kind.Plain = refl
size-layout Kind.Extended = refl
size-layout Kind.Short = refl

pub length-content : (kind : Kind) (pid : ℕ) (s : Setting) → length (content kind pid s) ≡ length (layout kind)
unfolding laid_out
length-content Kind.Plain pid s = refl
length-content Kind.Extended pid s = refl
length-content Kind.Short pid s = refl

-- the private data end before the CRC
pub private_end : (kind : Kind) → private_start (size_of kind) + (size_of kind).private_bytes ≤ 184
unfolding size_of
private_end Kind.Plain = omega arith
private_end Kind.Extended = omega arith
private_end Kind.Short = omega arith

pub private_before : (kind : Kind) → private_start (size_of kind) ≤ 184
private_before kind = let e = private_end kind in omega arith
