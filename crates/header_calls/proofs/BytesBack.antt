-- A setting's bytes, written as a header and read back, are the same. Assumes nothing.
use Prim.Native.Nat.{ℕ}
use mathlib.Core.Path.{◌≡◌, refl, ap, ◌∙◌}
use mathlib.Core.List.{List}
use lib.ListN.{length}
use Rattle.setting.specs.Refusal.{leaves}
use Rattle.header_layout.specs.Header.{header_length}
use Rattle.header_layout.proofs.Whole.{length-header}
use Rattle.header_write.specs.Writing.{written}
use Rattle.header_read.specs.Reader.{Reading}
use Rattle.header_read.proofs.Calls.{number_is}
use Rattle.header_codec.proofs.RoundTrip.{written_and_read_back}
use Rattle.setting_bytes.specs.Kinds.{kind_of}
use Rattle.setting_bytes.specs.Settings.{setting_of}
use Rattle.setting_bytes.proofs.Same.{setting_same}
use Rattle.setting_bytes.proofs.Typed.{setting_typed}
use Rattle.header_calls.specs.Calls.{then_refused, write_refused, write_memory, read_refused, read_memory}
use Rattle.header_calls.specs.Demands.{BytesBack}
use Rattle.header_calls.proofs.Called.{right_call}

pub bytes_back : BytesBack
unfolding write_refused write_memory read_refused read_memory then_refused leaves written
bytes_back pid kind setting packet buffer m p l =
    let s = setting_of setting in
    let w = written_and_read_back (kind_of kind) pid s packet (setting_typed setting m.bytes) m.rules p in
    let call = right_call (length packet) (length setting) pid kind (record { packet_long = p; setting_long = m.long; pid-allowed = m.rules.pid-allowed; known_kind = m.known_kind }) in
    let is : write_memory packet pid kind setting ≡ written (kind_of kind) pid s packet = rw call in
    let long : length (written (kind_of kind) pid s packet) ≡ header_length = rw w.0 (length-header (kind_of kind) pid s) in
    let again = right_call (length (written (kind_of kind) pid s packet)) (length buffer) pid kind (record { packet_long = long; setting_long = l; pid-allowed = m.rules.pid-allowed; known_kind = m.known_kind }) in
    let accepted = number_is (kind_of kind) pid (written (kind_of kind) pid s packet) ∙ ap (λ (x : Reading). x.refusal.number) w.1 in
    let refusal : read_refused (written (kind_of kind) pid s packet) pid kind buffer ≡ 0 = rw again accepted in (
      rw (call, w.0) refl,
      (
        ap (λ (x : List ℕ). read_refused x pid kind buffer) is ∙ refusal,
        ap (λ (x : List ℕ). read_memory x pid kind buffer) is ∙ rw (refusal, w.1) (setting_same setting m.long m.bytes),
      ),
    )
