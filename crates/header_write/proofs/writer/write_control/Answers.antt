-- `write_control` meets its contract: after k turns the first k bytes have the first 4 * k statuses. Assumes nothing.
use Prim.Native.Nat.{ℕ, suc, ◌+◌, ◌-◌, ◌*◌, ◌≤◌, ◌<◌}
use mathlib.Core.Path.{◌≡◌, refl, sym, ap, ◌∙◌}
use mathlib.Core.List.{List, ◌++◌}
use native.Mathlib.Omega.{arith}
use lib.ListN.{length, take, set, length-set}
use lib.Seq.{take_all, take-suc-set}
use Rattle.bits.specs.Fields.{bits_of, run}
use Rattle.counters.specs.Counters.{last_stream}
use Rattle.setting.specs.declared.Setting.{Setting}
use Rattle.setting_bytes.specs.Settings.{part, statuses_at, setting_length}
use Rattle.setting_bytes.proofs.Parts.{length_part}
use Rattle.setting_bytes.proofs.InBytes.{in_setting, setting_in, setting_of-in}
use Rattle.header_layout.specs.Layout.{control_table}
use Rattle.header_layout.specs.Header.{line_bits}
use Rattle.header_layout.proofs.Control.{control-next, control-last, control_bits}
use Rattle.header_write.proofs.writer.write_control.Goals as goal

-- there are fifteen statuses in a setting
statuses-long : (b : List ℕ) → length b ≡ setting_length → length (part (in_setting statuses_at) last_stream b) ≡ last_stream
statuses-long b h = length_part (in_setting statuses_at) last_stream b (omega arith)

pub loop-k-init : goal.loop-k-init
unfolding run
loop-k-init c = refl

pub loop-k-preserved : goal.loop-k-preserved
loop-k-preserved c =
    let turn = c.loop-k in
    let r = part (in_setting statuses_at) last_stream c.args.setting.now in
    let long = statuses-long c.args.setting.now c.told-setting in
    rw c.four.ensures (control-next turn.part r turn.k (omega (arith, c.requires)) (omega (arith, c.requires)) turn.invariant)

pub returns : goal.returns
returns c z pid n =
    let turn = c.loop-k in
    let b = c.args.setting.now in
    let r = part (in_setting statuses_at) last_stream b in
    let long = statuses-long b c.told-setting in
    let last = length c.args.part.now - 1 in
    let all : turn.k ≡ last = omega arith in
    let inside : last < length turn.part = omega (arith, c.requires.0) in
    let streams : 4 * last + 3 ≡ z.streams = omega (arith, n, c.requires.0) in
    let room : 4 * last + 3 ≤ length r = omega (arith, c.requires.1) in
    let whole : length (set turn.part last c.four-2.result) ≤ suc last = simp length-set (omega (arith, c.requires.0)) in
    ap (run 8) (sym (take_all (suc last) (set turn.part last c.four-2.result) whole) ∙ take-suc-set turn.part last c.four-2.result inside)
    ∙ rw c.four-2.ensures (control-last (take last turn.part) r last (setting_in b).emergency_indicator room (rw all at turn.invariant))
    ∙ ap (λ (m : ℕ). run 2 (take m r) ++ (bits_of 1 1 ++ bits_of 1 (setting_in b).emergency_indicator)) streams
    ∙ control_bits z pid (setting_in b) (omega (arith, room))
    ∙ ap (λ (s : Setting). line_bits z pid s (control_table z)) (sym (setting_of-in b c.told-setting))
