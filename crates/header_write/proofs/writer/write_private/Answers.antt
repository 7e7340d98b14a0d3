-- `write_private` meets its contract, by the kind. Assumes nothing.
use Prim.Native.Nat.{ℕ, ◌-◌, ◌≤◌}
use mathlib.Core.Path.{◌≡◌, sym, ap, ◌∙◌}
use mathlib.Core.List.{List, append-nil}
use native.Mathlib.Omega.{arith}
use lib.ListN.{length, take}
use lib.Seq.{length-take-le, take-take}
use Rattle.bits.specs.Fields.{run}
use Rattle.slices.specs.Slices.{copied}
use Rattle.slices.proofs.Front.{put, copied-over}
use Rattle.setting.specs.declared.Kind.{Kind}
use Rattle.setting.specs.declared.Setting.{Setting}
use Rattle.setting.specs.Setting.{private_bytes}
use Rattle.setting.specs.Size.{size_of, resized}
use Rattle.setting.proofs.Sizes.{resized-take}
use Rattle.setting_bytes.specs.Settings.{part, private_at, setting_length, setting_of}
use Rattle.setting_bytes.proofs.Parts.{length_part}
use Rattle.setting_bytes.proofs.InBytes.{setting_of-in}
use Rattle.header_layout.specs.Rows.{pack}
use Rattle.header_layout.specs.Layout.{private_table, private_start}
use Rattle.header_layout.specs.Header.{held, line_bits}
use Rattle.header_write.proofs.Lent.{all_lent}
use Rattle.header_write.proofs.writer.write_private.Goals as goal
use Rattle.header_write.proofs.writer.write_private.Goals.{Start}

-- how long the part is
bytes : (s : Start) {k : Kind} → s.args.kind ≡ k → length s.args.part.now ≡ 184 - private_start (size_of k)
bytes s e = s.requires ∙ ap (λ (k : Kind). 184 - private_start (size_of k)) e

-- what the kind has there
line : (s : Start) {k : Kind} → s.args.kind ≡ k → (pid : ℕ)
    → line_bits (size_of k) pid (setting_of s.args.setting.now) (private_table k)
    ≡ line_bits (size_of s.args.kind) pid (setting_of s.args.setting.now) (private_table s.args.kind)
line s e pid = sym (ap (λ (k : Kind). line_bits (size_of k) pid (setting_of s.args.setting.now) (private_table k)) e)

-- the first n bytes of private data, copied over all of the part
privates : (n : ℕ) (into b : List ℕ) → n ≤ private_bytes → length into ≡ n → length b ≡ setting_length → {own : List ℕ}
    → own ≡ copied (take n into) (part private_at n b)
    → put 0 n into own ≡ resized n (setting_of b).private_data
privates n into b few l whole {own} h =
    let all = length_part private_at private_bytes b (omega arith) in
    all_lent n into own l ∙ h
    ∙ copied-over (take n into) (part private_at n b) (length-take-le n into (omega arith) ∙ sym (length_part private_at n b (omega arith)))
    ∙ sym (resized-take n (part private_at private_bytes b) (omega (arith, all)) ∙ take-take n private_bytes _ few)
    ∙ ap (λ (s : Setting). resized n s.private_data) (sym (setting_of-in b whole))

pub slice_bounds-copy-end : goal.slice_bounds-copy-end
unfolding size_of
slice_bounds-copy-end c = omega (arith, bytes (goal.at.slice_bounds-copy-end c).Start c.in-Plain.is)

pub slice_bounds-copy-end-in-Short : goal.slice_bounds-copy-end-in-Short
unfolding size_of
slice_bounds-copy-end-in-Short c = omega (arith, bytes (goal.at.slice_bounds-copy-end-in-Short c).Start c.in-Short.is)

pub write_extended-requires : goal.write_extended-requires
unfolding size_of
write_extended-requires c = bytes (goal.at.write_extended-requires c).Start c.in-Extended.is

pub returns-in-Plain : goal.returns-in-Plain
unfolding line_bits pack private_table held size_of
returns-in-Plain c pid =
    let s = (goal.at.returns-in-Plain c).Start in
    let kind = c.in-Plain.is in
    ap (run 8) (privates 85 s.args.part.now s.args.setting.now (omega arith) (bytes s kind) s.told-setting c.copy.ensures)
    ∙ sym (append-nil _) ∙ line s kind pid

pub returns-in-Short : goal.returns-in-Short
unfolding line_bits pack private_table held size_of
returns-in-Short c pid =
    let s = (goal.at.returns-in-Short c).Start in
    let kind = c.in-Short.is in
    ap (run 8) (privates 131 s.args.part.now s.args.setting.now (omega arith) (bytes s kind) s.told-setting c.copy-in-Short.ensures)
    ∙ sym (append-nil _) ∙ line s kind pid
