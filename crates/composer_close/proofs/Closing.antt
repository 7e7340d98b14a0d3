-- What a close leaves in the frame and in the state. Assumes nothing.
use Prim.Native.Nat.{ℕ, ◌+◌, ◌%◌}
use mathlib.Core.Path.{◌≡◌, refl, sym, ap₂, ◌∙◌}
use mathlib.Core.Bool.{false, cond, ◌&&◌}
use mathlib.Core.List.{List, ◌∷◌, ◌++◌}
use native.Mathlib.Omega.{arith}
use borrow.Author.Tests.{eq-eqb}
use lib.Dec.{eqb}
use lib.ListN.{length, get_or, take, drop, replicate}
use Rattle.slices.specs.Slices.{some_at_least}
use Rattle.setting.specs.declared.Kind.{Kind}
use Rattle.setting.specs.declared.Setting.{Setting}
use Rattle.packet.specs.Packets.{packet_length, frame_length}
use Rattle.setting_bytes.specs.Settings.{part, announced_length, setting_length}
use Rattle.setting_bytes.proofs.Parts.{length_part}
use Rattle.header_layout.specs.Header.{header_length, header}
use Rattle.composer.specs.Composing.{next_counter, next_version, closing, closed_with, closed}
use Rattle.composer.proofs.Passed.{Passes}
use Rattle.composer.specs.States.{composer_length, composer_bytes, composer_of, counter_at, open_length, said_at}
use Rattle.composer.proofs.Same.{all-bytes, coded_by_counter, closed-bytes}

-- the bytes of a state, and what the header says by them
module _ (b : List ℕ) {s : Setting} (said : s ≡ closing (composer_of b)) where
  -- the header into a frame's slot 0
  pub closed_memory : {kind : Kind} {pid : ℕ} {slot : List ℕ} (frame setting : List ℕ) (slots : ℕ) → length frame ≡ frame_length slots → length setting ≡ setting_length
      → kind ≡ (composer_of b).kind → pid ≡ (composer_of b).pid
      → slot ≡ cond (eqb (length (take packet_length frame)) header_length && eqb (length setting) setting_length) (header kind pid s) (take packet_length frame)
      → slot ++ drop packet_length frame ≡ header (composer_of b).kind (composer_of b).pid (closing (composer_of b)) ++ drop packet_length frame
  closed_memory frame setting slots whole long k n w =
      rw (w, eq-eqb (length (take packet_length frame)) header_length (length_part 0 packet_length frame (omega arith)), eq-eqb (length setting) setting_length long, k, n, said)

-- and the state once it was written
pub closed_state : (b : List ℕ) {counter version : ℕ} {bytes : List ℕ} → length b ≡ composer_length → Passes (composer_of b) → some_at_least 256 b ≡ false
    → counter ≡ (get_or b counter_at 0 + 1) % 16 → version ≡ next_version (composer_of b)
    → bytes ≡ take counter_at b ++ (counter ∷ version ∷ (part said_at announced_length b ++ replicate open_length 0)) → bytes ≡ composer_bytes (closed (composer_of b))
unfolding closed next_counter composer_of
closed_state b {counter} {version} long p low pc pv e =
    e ∙ sym (closed-bytes b long (all-bytes b low) (coded_by_counter b p.counter) counter version)
    ∙ ap₂ (λ (c v : ℕ). composer_bytes (closed_with (composer_of b) c v)) (pc ∙ rw (coded_by_counter b p.counter) refl) pv
