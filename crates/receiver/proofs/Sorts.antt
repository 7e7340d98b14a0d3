-- A header may stand in no slot. Assumes nothing.
use Prim.Native.Nat.{ℕ}
use mathlib.Core.Path.{◌≡◌, sym, ◌∙◌}
use mathlib.Core.Bool.{false, not, true≢false}
use mathlib.Core.List.{List}
use borrow.Author.Tests.{eq-eqb}
use lib.Dec.{eqb}
use Rattle.slices.proofs.Any.{neither}
use Rattle.setting.specs.declared.Kind.{Kind}
use Rattle.header_layout.specs.Rows.{place, row_at}
use Rattle.header_layout.specs.Layout.{sync_byte, Field}
use Rattle.header_layout.specs.Header.{start_value}
use Rattle.header_layout.proofs.LaidOut.{laid_out}
use Rattle.header_check.specs.Checking.{read_refusal}
use Rattle.header_check.proofs.Accepted.{shown}
use Rattle.packet.specs.Packets.{unfit}

-- a header bears the header PID
bears_pid : (kind : Kind) (pid : ℕ) (p : List ℕ) → read_refusal kind pid p ≡ 0 → start_value p Field.header-pid ≡ pid
unfolding laid_out row_at place
bears_pid kind pid p e = (shown kind pid p e).pid-row

-- so it is unfit for a slot
pub not_good : (kind : Kind) (pid : ℕ) (p : List ℕ) → unfit pid p ≡ false → read_refusal kind pid p ≡ 0 → ⊥
unfolding unfit
not_good kind pid p e r =
    true≢false (sym (eq-eqb (start_value p Field.header-pid) pid (bears_pid kind pid p r)) ∙ (neither (not (eqb (start_value p Field.sync_byte_field) sync_byte)) (eqb (start_value p Field.header-pid) pid) e).1)
