-- A header that is read and written again has the same bytes. Assumes nothing.
use Prim.Native.Nat.{ℕ}
use mathlib.Core.Path.{◌≡◌}
use native.Mathlib.Decide.{ℕ_discrete}
use borrow.Author.Tests.{ne_eqb}
use lib.ListN.{length}
use Rattle.setting.specs.Refusal.{leaves}
use Rattle.header_layout.specs.Header.{reading}
use Rattle.header_check.specs.Checking.{read_refusal, refusal_by}
use Rattle.header_read.specs.Reader.{read_of}
use Rattle.header_read.proofs.Coded.{reading-long}
use Rattle.header_codec.proofs.Again.{written_again}
use Rattle.setting_bytes.specs.Kinds.{kind_of}
use Rattle.setting_bytes.specs.Settings.{setting_length, setting_bytes}
use Rattle.setting_bytes.proofs.Back.{length_setting, back}
use Rattle.header_calls.specs.Calls.{call_refused, then_refused, write_refused, write_memory, read_refused, read_memory}
use Rattle.header_calls.specs.Demands.{BytesAgain}
use Rattle.header_calls.proofs.Called.{called, right_call}

-- where a call and what it asks are not refused, neither is
neither_refused : (call inner : ℕ) → then_refused call inner ≡ 0 → (call ≡ 0) × (inner ≡ 0)
unfolding then_refused
neither_refused call inner e = by_call (ℕ_discrete call 0)
  where
    by_call : Dec (call ≡ 0) → (call ≡ 0) × (inner ≡ 0)
    by_call (yes z) = (z, rw z at e)
    by_call (no d) = absurd (d (rw (ne_eqb call 0 d) at e))

pub bytes_again : BytesAgain
unfolding write_refused write_memory read_memory read_refused then_refused leaves read_of refusal_by
bytes_again pid kind packet setting buffer bytes e l =
    let k = kind_of kind in
    let n = neither_refused (call_refused (length packet) (length setting) pid kind) (read_refusal k pid packet) e in
    let c = called (length packet) (length setting) pid kind n.0 in
    let s = reading k packet in
    let again = written_again k pid packet buffer bytes n.1 l in
    let left : read_memory packet pid kind setting ≡ setting_bytes s = rw (e, n.1) in
    let long : length (setting_bytes s) ≡ setting_length = length_setting s (reading-long k packet) in
    let call = right_call (length buffer) (length (setting_bytes s)) pid kind (record { packet_long = l; setting_long = long; pid-allowed = c.pid-allowed; known_kind = c.known_kind }) in
    rw (left, call, back s (reading-long k packet)) (rw n.1 at again)
