-- What a call answers and leaves, refused or not. Assumes nothing.
use Prim.Native.Nat.{ℕ}
use mathlib.Core.Path.{◌≡◌, refl, sym, ◌∙◌}
use mathlib.Core.Bool.{Bool, true, false, cond, not}
use mathlib.Core.List.{List, ◌∷◌}
use native.Mathlib.Omega.{arith}
use borrow.Author.Tests.{eqb-true}
use lib.Dec.{eqb}
use Rattle.setting.specs.Refusal.{Check, first_of}
use Rattle.setting.specs.Size.{slots_of}
use Rattle.packet.specs.Packets.{frame_length}
use Rattle.composer.specs.Composing.{Composer, length_check, answer}

-- n is the refusal, and m what the code found it to be
module _ {m n : ℕ} (e : m ≡ n) where
  pub granted : (new old : Composer) → m ≡ 0 → record { refusal = 0; state = new } ≡ answer n new old
  unfolding answer
  granted new old z = rw (sym e ∙ z)

-- a call that is not refused was lent a frame of the run's kind
pub frame_lent : (c : Composer) (lent : ℕ) (cs : List Check) → first_of (length_check c lent ∷ cs) ≡ 0 → lent ≡ frame_length (slots_of c.kind)
unfolding first_of
frame_lent c lent cs e = eqb-true lent (frame_length (slots_of c.kind)) (is_it (eqb lent (frame_length (slots_of c.kind))) e)
  where
    is_it : (b : Bool) → cond (not b) 1 (first_of cs) ≡ 0 → b ≡ true
    is_it true z = refl
    is_it false z = absurd (omega arith)
