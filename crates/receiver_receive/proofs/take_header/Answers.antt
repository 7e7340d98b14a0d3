-- `take_header` meets its contract: the packet is broken, or a header. Assumes nothing.
use Prim.Native.Nat.{ℕ, ◌+◌}
use mathlib.Core.Path.{◌≡◌, refl, sym, ap, ap₂, ◌∙◌}
use mathlib.Core.Bool.{cond}
use mathlib.Core.List.{List, ◌++◌}
use native.Mathlib.Omega.{arith}
use borrow.Author.Rules.{rules}
use borrow.Author.Tests.{eq-eqb}
use lib.Dec.{eqb}
use lib.ListN.{length, get_or, take, drop, length-drop}
use lib.Seq.{length-take-le}
use Rattle.std.specs.Prelude.{Ok, Err}
use Rattle.refusals.proofs.Refusals.{is_some_number}
use Rattle.header_layout.specs.Header.{reading}
use Rattle.header_check.specs.OnPaper.{Checked, on_paper}
use Rattle.header_check.specs.Checking.{read_refusal, checked_of}
use Rattle.setting.specs.declared.Kind.{Kind}
use Rattle.setting.specs.declared.Size.{Size}
use Rattle.setting.specs.Size.{size_of, slots_of}
use Rattle.setting_bytes.specs.Kinds.{kind_of}
use Rattle.setting_bytes.specs.Words.{word_at}
use Rattle.receiver.specs.declared.Stage.{Stage}
use Rattle.receiver.specs.Table.{good, broken, row_of}
use Rattle.receiver.specs.Packed.{packed_length, packed}
use Rattle.receiver.specs.Store.{store_length}
use Rattle.receiver.specs.Arriving.{shown_remainder}
use Rattle.receiver.specs.Bytes.{receiver_of, receiver_length, pid_at, kind_at, numbers_at, no_stage, stage_in, told}
use Rattle.receiver.proofs.Bytes.{over-stage}
use Rattle.receiver_receive.proofs.Sorts.{broken_sort, good_sort, checked-refusal, checked_remainder, checked_counter}
use Rattle.receiver_receive.proofs.Receipts.{whole_packet, broken_receipt, good_receipt}
use Rattle.receiver_receive.proofs.Taking.{keeps, renews, renewed}
use Rattle.receiver_receive.proofs.take_header.Goals as goal

-- what the check said, of the PID and the kind that the bytes say
module _ (b p : List ℕ) {k : Kind} {n : ℕ} (kind : k ≡ (receiver_of b).kind) (pid : n ≡ (receiver_of b).pid) (r : Checked) (e : r ≡ checked_of k n p) where
  checked : r ≡ checked_of (receiver_of b).kind (receiver_of b).pid p
  checked = e ∙ ap₂ (λ (x : Kind) (m : ℕ). checked_of x m p) kind pid

  said-refusal : r.refusal.number ≡ read_refusal (receiver_of b).kind (receiver_of b).pid p
  said-refusal = checked-refusal (receiver_of b).kind (receiver_of b).pid p checked

  said_remainder : r.refusal.remainder ≡ shown_remainder (receiver_of b).kind (receiver_of b).pid p
  said_remainder = checked_remainder (receiver_of b).kind (receiver_of b).pid p checked

-- the stage that the bytes say
its_stage : (b : List ℕ) → length b ≡ receiver_length → {t : Stage} → t ≡ cond (eqb (length b) receiver_length) (stage_in b) no_stage → t ≡ (receiver_of b).stage
unfolding receiver_of
its_stage b l e = e ∙ rw (eq-eqb _ _ l) refl

its_kind : (b : List ℕ) {k : Kind} → k ≡ kind_of (get_or b kind_at 0) → k ≡ (receiver_of b).kind
unfolding receiver_of
its_kind b e = e

its_pid : (b : List ℕ) {n : ℕ} → n ≡ word_at pid_at b → n ≡ (receiver_of b).pid
unfolding receiver_of
its_pid b e = e

pub returns-in-Err : goal.returns-in-Err
returns-in-Err c =
    let b = c.args.state.now in
    let long : length b ≡ receiver_length = search rules in
    let p = c.args.packet.now in
    let w = receiver_of b in
    let long_store = store_length (slots_of w.kind) in
    let kind = its_kind b c.kind_of-kind.ensures in
    let pid = its_pid b c.word-pid.ensures in
    let stage = its_stage b long c.stage_in-stage.ensures in
    let why = c.in-Err.why in
    let sort = broken_sort w.kind w.pid p c.requires.packet_value.0 (λ e. is_some_number why.refusal (said-refusal b p kind pid (on_paper (Err why)) c.in-Err.ensures ∙ e)) in
    let all = keeps b p long_store long c.requires.bytes c.requires.packet_value.1 c.broken_row.result (ap told c.move_on.ensures.value)
    (broken_receipt w p long_store c.requires.packet_value.1 (shown_remainder w.kind w.pid p) sort
    (c.broken_row.ensures (slots_of w.kind) ∙ ap₂ (λ (t : Stage) (n : ℕ). row_of (slots_of w.kind) t (broken n) 0) stage (said_remainder b p kind pid (on_paper (Err why)) c.in-Err.ensures)))
    (c.move_on.ensures.state_after ∙ over-stage b c.broken_row.result.stage) in
    record { value = all.0; state_after = all.1 }

pub renumber-requires : goal.renumber-requires
renumber-requires c =
    (length-take-le (packed_length + packed_length) (drop numbers_at c.args.state.now) (rw length-drop (omega arith)), whole_packet _ _ _ c.requires.packet_value.1)

pub returns-in-Ok : goal.returns-in-Ok
returns-in-Ok c =
    let b = c.args.state.now in
    let long : length b ≡ receiver_length = search rules in
    let p = c.args.packet.now in
    let w = receiver_of b in
    let long_store = store_length (slots_of w.kind) in
    let kind = its_kind b c.kind_of-kind.ensures in
    let pid = its_pid b c.word-pid.ensures in
    let stage = its_stage b long c.stage_in-stage.ensures in
    let heard = on_paper (Ok c.in-Ok.said) in
    let slots = ap (λ (z : Size). z.slots) (c.size_of-size.ensures ∙ ap size_of kind) in
    let accepts : read_refusal w.kind w.pid p ≡ 0 = sym (said-refusal b p kind pid heard c.in-Ok.ensures) in
    let said = reading w.kind p in
    let lent = take (packed_length + packed_length) (drop numbers_at b) in
    let own = c.renumber.ensures ∙ ap (λ (k : Kind). packed (reading k p).relative_ts_number ++ take packed_length lent) kind in
    let all = renews b p long_store long c.requires.bytes c.requires.packet_value.1 c.header_row.result (ap told c.move_on-in-Ok.ensures.value) said
    (good_receipt w p long_store c.requires.packet_value.1 (good_sort w.kind w.pid p accepts) said refl
    (c.header_row.ensures ∙ ap (λ (n : ℕ). row_of n c.stage_in-stage.result good c.in-Ok.said.continuity_counter) slots
    ∙ ap₂ (λ (t : Stage) (n : ℕ). row_of (slots_of w.kind) t good n) stage (checked_counter w.kind w.pid p (checked b p kind pid heard c.in-Ok.ensures) accepts)))
    refl
    (c.move_on-in-Ok.ensures.state_after ∙ renewed b _ (packed said.relative_ts_number) c.header_row.result.stage long own) in
    record { value = all.0; state_after = all.1 }
