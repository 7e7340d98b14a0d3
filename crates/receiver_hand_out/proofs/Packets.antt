-- Bytes that have the packets with one number, part by part. Assumes nothing.
use Prim.Native.Nat.{ℕ, zero, suc, ◌+◌, ◌*◌, ◌≤◌, ◌<◌}
use mathlib.Core.Path.{◌≡◌, sym, ap, subst, ◌∙◌}
use mathlib.Core.Bool.{true, false≢true}
use mathlib.Core.List.{List, ◌++◌}
use native.Mathlib.Omega.{arith}
use lib.Dec.{eqb}
use lib.ListN.{length, get_or, take, drop, replicate, length-drop}
use lib.Seq.{drop-drop}
use Rattle.packet.specs.Packets.{packet_length}
use Rattle.receiver.specs.Store.{HasPackets, none, more}

-- one packet more
next_packet : (k : ℕ) (bytes : List ℕ) → drop (packet_length * k) (drop packet_length bytes) ≡ drop (packet_length * suc k) bytes
next_packet k bytes =
    let next : packet_length + packet_length * k ≡ packet_length * suc k = omega arith in
    drop-drop (packet_length * k) packet_length bytes ∙ ap (λ (n : ℕ). drop n bytes) next

module _ {r : ℕ} where
  -- the first k slots, and those behind them
  pub has_take : (k : ℕ) {ns bytes : List ℕ} → HasPackets r ns bytes → HasPackets r (take k ns) bytes
  has_take zero h = none
  has_take (suc k) none = none
  has_take (suc k) (more h t) = more h (has_take k t)

  pub has_drop : (k : ℕ) {ns bytes : List ℕ} → HasPackets r ns bytes → HasPackets r (drop k ns) (drop (packet_length * k) bytes)
  has_drop zero h = h
  has_drop (suc k) none = none
  has_drop (suc k) (more {ns = ns} {bytes = bytes} h t) = subst (HasPackets r (drop k ns)) (next_packet k bytes) (has_drop k t)

  -- slot i
  pub has_at : {ns bytes : List ℕ} → HasPackets r ns bytes → (i : ℕ) → i < length ns → eqb (get_or ns i 0) r ≡ true → packet_length * (i + 1) ≤ length bytes
  has_at none i l e = absurd (omega arith)
  has_at (more h t) zero l e = h e
  has_at (more {bytes = bytes} h t) (suc i) l e =
      let later : packet_length * (i + 1) ≤ length (drop packet_length bytes) = has_at t i (omega arith) e in
      let left = length-drop packet_length bytes in
      omega arith

-- k slots that no mark is for
pub has_passed : (k : ℕ) {hs bytes : List ℕ} → HasPackets 8 hs (drop (packet_length * k) bytes) → HasPackets 8 (replicate k 0 ++ hs) bytes
has_passed zero h = h
has_passed (suc k) {hs} {bytes} h =
    more (λ e. absurd (false≢true e)) (has_passed k (subst (HasPackets 8 hs) (sym (next_packet k bytes)) h))
