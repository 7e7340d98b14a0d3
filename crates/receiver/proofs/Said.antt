-- The numbers that a packet says pass the receiver's checks of numbers. Assumes nothing.
use Prim.Native.Nat.{ℕ}
use mathlib.Core.Path.{◌≡◌}
use mathlib.Core.List.{List}
use lib.ListN.{length}
use Rattle.setting.specs.declared.Kind.{Kind}
use Rattle.setting.specs.Refusal.{NoneHolds, none, more}
use Rattle.setting.specs.Rules.{number_checks}
use Rattle.setting.specs.Size.{size_of}
use Rattle.header_layout.specs.Header.{header_length, reading}
use Rattle.header_layout.proofs.Numbers.{numbers_said}

pub said_passes : (kind : Kind) (p : List ℕ) → length p ≡ header_length → NoneHolds (number_checks (size_of kind) (reading kind p).relative_ts_number)
said_passes kind p l =
    let (narrow, behind) = numbers_said kind p l in
    more narrow (more behind none)
