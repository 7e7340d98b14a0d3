-- `packet_refusal` meets its contract, check by check. Assumes nothing.
use Prim.Native.Nat.{◌/◌, ◌%◌}
use mathlib.Core.Path.{◌≡◌}
use mathlib.Core.Bool.{cond, not, ◌&&◌}
use Rattle.std.proofs.Common.{arith}
use Rattle.std.proofs.lemmas.Grind.{common_steps}
use lib.Dec.{eqb}
use lib.ListN.{get_or}
use Rattle.bits.proofs.Laws.{fit_of}
use Rattle.setting.specs.Refusal.{first_of}
use Rattle.header_layout.specs.Layout.{sync_byte, tsmf_sync}
use Rattle.header_layout.specs.Header.{remainder_of, packet_checks}
use Rattle.header_layout.proofs.Cut.{word_at}
use Rattle.header_layout.proofs.Packet.{reads_sync_byte, zeros, header-pid, one, reads_tsmf_sync}
use Rattle.header_check.specs.Checking.{refusal_by}
use Rattle.header_check.proofs.Asked.{refused_from}
use Rattle.header_check.proofs.parts.packet_refusal.Goals as goal
use Rattle.header_check.proofs.parts.packet_refusal.Goals.{Start}

-- the refusal, by the bytes that the code reads
by_bytes : (c : Start) →
    let p = c.args.packet.now in
    first_of (packet_checks c.args.pid p) ≡
    cond (not (eqb (get_or p 0 0) sync_byte)) 3
    (cond (not (eqb (word_at p 1 % 8192) c.args.pid)) 4
    (cond (not (eqb (get_or p 1 0 / 32) 0 && eqb (get_or p 3 0 / 16) 1)) 5
    (cond (not (eqb (word_at p 4 % 8192) tsmf_sync)) 6
    (cond (not (eqb (remainder_of p) 0)) 7 0))))
unfolding first_of packet_checks
by_bytes c =
    let p = c.args.packet.now in
    let f = fit_of 8 p c.fits-packet in
    let l = c.told-packet in
    rw (reads_sync_byte p f l, header-pid p f l, zeros p f l, one p f l, reads_tsmf_sync p f l)

pub returns-then-packet-ne71 : goal.returns-then-packet-ne71
returns-then-packet-ne71 c =
    let e = by_bytes (goal.at.returns-then-packet-ne71 c).Start in
    refused_from _ _ c.from.ensures (omega arith) (grind (arith, common_steps))

pub returns-then-word_at-pid : goal.returns-then-word_at-pid
returns-then-word_at-pid c =
    let e = by_bytes (goal.at.returns-then-word_at-pid c).Start in
    refused_from _ _ c.from-then-word_at-pid.ensures (omega arith) (grind (arith, common_steps))

pub returns-then-packet-ne0 : goal.returns-then-packet-ne0
returns-then-packet-ne0 c =
    let e = by_bytes (goal.at.returns-then-packet-ne0 c).Start in
    refused_from _ _ c.from-then-packet-ne0.ensures (omega arith) (grind (arith, common_steps))

pub returns-then-packet-ne1 : goal.returns-then-packet-ne1
returns-then-packet-ne1 c =
    let e = by_bytes (goal.at.returns-then-packet-ne1 c).Start in
    refused_from _ _ c.from-then-packet-ne1.ensures (omega arith) (grind (arith, common_steps))

pub returns-then-word_at-ne6790 : goal.returns-then-word_at-ne6790
returns-then-word_at-ne6790 c =
    let e = by_bytes (goal.at.returns-then-word_at-ne6790 c).Start in
    refused_from _ _ c.from-then-word_at-ne6790.ensures (omega arith) (grind (arith, common_steps))

pub returns-then-remainder-ne0 : goal.returns-then-remainder-ne0
unfolding refusal_by
returns-then-remainder-ne0 c =
    let e = by_bytes (goal.at.returns-then-remainder-ne0 c).Start in
    grind (arith, common_steps)

pub returns : goal.returns
unfolding refusal_by
returns c =
    let e = by_bytes (goal.at.returns c).Start in
    grind (arith, common_steps)
