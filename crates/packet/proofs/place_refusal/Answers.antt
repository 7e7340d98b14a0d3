-- `place_refusal` meets its contract: the length, the sync byte, then the PID's 13 bits. Assumes nothing.
use Prim.Native.Nat.{ℕ, ◌+◌, ◌*◌, ◌%◌, ◌<◌}
use mathlib.Core.Path.{◌≡◌, sym, ap, ap₂, ◌∙◌}
use mathlib.Core.Bool.{Bool, true, not, ◌||◌}
use mathlib.Core.List.{List, [], ◌∷◌}
use native.Mathlib.Omega.{arith}
use borrow.Author.Tests.{eq-eqb, ne_eqb}
use lib.Dec.{eqb}
use lib.ListN.{length, get_or}
use Rattle.bits.specs.Fields.{Fit}
use Rattle.bits.proofs.Laws.{fit_of}
use Rattle.setting.specs.Refusal.{first_of}
use Rattle.setting.proofs.Refusals.{answers, passed}
use Rattle.header_layout.specs.Layout.{sync_byte, Field}
use Rattle.header_layout.specs.Header.{start_value}
use Rattle.header_layout.proofs.Packet.{differs, agrees, reads_sync_byte, header-pid}
use Rattle.packet.specs.Packets.{packet_length, unfit, place_refusal}
use Rattle.packet.proofs.place_refusal.Goals as goal

-- the packet of 188 bytes
module _ (pid : ℕ) (packet : List ℕ) (long : length packet ≡ packet_length) (byte : (i : ℕ) → get_or packet i 0 < 256) where
  bytes : Fit 8 packet
  bytes = fit_of 8 packet byte

  past_1 : place_refusal pid packet ≡ first_of ((12, unfit pid packet) ∷ [])
  unfolding place_refusal
  past_1 = passed 1 _ (ap not (eq-eqb _ _ long))

  lacks_sync : (get_or packet 0 0 ≡ sync_byte → ⊥) → unfit pid packet ≡ true
  unfolding unfit
  lacks_sync e = ap (λ (b : Bool). b || eqb (start_value packet Field.header-pid) pid) (differs sync_byte (reads_sync_byte packet bytes long) e)

  -- thirteen bits of two bytes
  low_bits : (a b : ℕ) → b < 256 → (a * 256 + b) % 8192 ≡ a % 32 * 256 + b
  low_bits a b h = omega arith

  its_pid : start_value packet Field.header-pid ≡ get_or packet 1 0 % 32 * 256 + get_or packet 2 0
  its_pid = header-pid packet bytes long ∙ low_bits (get_or packet 1 0) (get_or packet 2 0) (byte 2)

  -- with 0x47 it is unfit by its PID alone
  by_pid : get_or packet 0 0 ≡ sync_byte → {b : Bool} → eqb (start_value packet Field.header-pid) pid ≡ b → unfit pid packet ≡ b
  unfolding unfit
  by_pid sync e = ap₂ ◌||◌ (agrees sync_byte (reads_sync_byte packet bytes long) sync) e

pub returns-then-packet-ne-PACKET_BYTES : goal.returns-then-packet-ne-PACKET_BYTES
unfolding place_refusal
returns-then-packet-ne-PACKET_BYTES c = sym (answers 1 _ (ap not (ne_eqb _ _ c.if-packet-ne-PACKET_BYTES.true)))

pub returns-then-packet-ne71 : goal.returns-then-packet-ne71
returns-then-packet-ne71 c =
    let p = c.args.packet.now in
    let byte = λ (i : ℕ). (c.type_inv.packet i).fits in
    let long = c.if-packet-ne-PACKET_BYTES.false in
    sym (past_1 c.args.pid p long byte ∙ answers 12 [] (lacks_sync c.args.pid p long byte c.if-packet-ne71.true))

pub returns-then-word-pid : goal.returns-then-word-pid
returns-then-word-pid c =
    let p = c.args.packet.now in
    let byte = λ (i : ℕ). (c.type_inv.packet i).fits in
    let long = c.if-packet-ne-PACKET_BYTES.false in
    let same : start_value p Field.header-pid ≡ c.args.pid = its_pid c.args.pid p long byte ∙ sym c.word.ensures ∙ c.if-word-pid.true in
    sym (past_1 c.args.pid p long byte ∙ answers 12 [] (by_pid c.args.pid p long byte c.if-packet-ne71.false (eq-eqb _ _ same)))

pub returns : goal.returns
unfolding first_of
returns c =
    let p = c.args.packet.now in
    let byte = λ (i : ℕ). (c.type_inv.packet i).fits in
    let long = c.if-packet-ne-PACKET_BYTES.false in
    let other : start_value p Field.header-pid ≡ c.args.pid → ⊥ = λ e. c.if-word-pid.false (c.word.ensures ∙ sym (its_pid c.args.pid p long byte) ∙ e) in
    sym (past_1 c.args.pid p long byte ∙ passed 12 [] (by_pid c.args.pid p long byte c.if-packet-ne71.false (ne_eqb _ _ other)))
