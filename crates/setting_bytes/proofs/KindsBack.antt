-- Kinds as numbers, and back. Assumes nothing.
use Prim.Native.Nat.{ℕ, zero, suc, ◌<◌}
use mathlib.Core.Path.{◌≡◌, refl}
use mathlib.Core.Bool.{true}
use native.Mathlib.Omega.{arith}
use borrow.Author.Tests.{lt-ltb}
use Rattle.setting.specs.declared.Kind.{Kind}
use Rattle.setting_bytes.specs.Kinds.{kinds, is_kind, kind_of, kind_number}

pub kind_back : (kind : Kind) → kind_of (kind_number kind) ≡ kind
unfolding kind_of kind_number
kind_back Kind.Plain = refl
kind_back Kind.Extended = refl
kind_back Kind.Short = refl

pub kind_low : (kind : Kind) → kind_number kind < kinds
unfolding kind_number
kind_low Kind.Plain = omega arith
kind_low Kind.Extended = omega arith
kind_low Kind.Short = omega arith

pub kind_is : (kind : Kind) → is_kind (kind_number kind) ≡ true
kind_is kind = lt-ltb (kind_number kind) kinds (kind_low kind)

-- a byte that is a kind says itself
pub kind_same : (n : ℕ) → n < kinds → kind_number (kind_of n) ≡ n
unfolding kind_number kind_of
kind_same zero h = refl
kind_same (suc zero) h = refl
kind_same (suc (suc zero)) h = refl
kind_same (suc (suc (suc n))) h = absurd (omega arith)
