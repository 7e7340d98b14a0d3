-- Decoding what was encoded gives the value back. Assumes nothing.
use Prim.Native.Nat.{ℕ}
use mathlib.Core.Path.{◌≡◌, refl}
use mathlib.Core.List.{[], ◌∷◌}
use native.Mathlib.Nat.{le_of_eq}
use native.Mathlib.Omega.{arith}
use lib.Seq.{take_at, drop_at, take_all}
use Rattle.setting_bytes.specs.Words.{word_bytes, word_at}
use Rattle.setting_bytes.proofs.KindsBack.{kind_back, kind_is}
use Rattle.receiver.specs.Packed.{packed_length, packed}
use Rattle.receiver.proofs.Packing.{length-packed, unpacked-packed}
use Rattle.receiver.specs.declared.Stage.{Stage}
use Rattle.receiver.specs.Bytes.{stage_bytes, stage_of, receiver_bytes, receiver_of}
use Rattle.receiver.specs.Demands.{StateBack}

-- a stage's three bytes, and the stage back from them
record Coded (stage : Stage) : Type 0 where
  tag : ℕ
  from : ℕ
  k : ℕ
  bytes : stage_bytes stage ≡ tag ∷ from ∷ k ∷ []
  back : stage_of tag from k ≡ stage

coded : (stage : Stage) → Coded stage
unfolding stage_bytes stage_of
coded Stage.Waiting = record { tag = 0; from = 0; k = 0; bytes = refl; back = refl }
coded (Stage.Open from k) = record { tag = 1; from = from; k = k; bytes = refl; back = refl }
coded (Stage.Ready from) = record { tag = 2; from = from; k = 0; bytes = refl; back = refl }

pub receiver_back : StateBack
unfolding receiver_of receiver_bytes word_bytes
receiver_back c h =
    let s = coded c.stage in
    let pid : word_at 0 (word_bytes (c.pid ∷ [])) ≡ c.pid = omega arith in
    rw (
      s.bytes,
      pid,
      kind_back c.kind,
      kind_is c.kind,
      s.back,
      take_at (packed c.numbers) (packed c.before) packed_length (length-packed c.numbers),
      drop_at (packed c.numbers) (packed c.before) packed_length (length-packed c.numbers),
      take_all packed_length (packed c.before) (le_of_eq (length-packed c.before)),
      unpacked-packed c.numbers h.numbers,
      unpacked-packed c.before h.before,
    )
    refl
