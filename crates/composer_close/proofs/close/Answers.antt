-- `close` meets its contract: behind its checks, the header and the state that it leaves. Assumes nothing.
use Prim.Native.Nat.{◌+◌, ◌%◌}
use mathlib.Core.Path.{◌≡◌, refl, sym, ◌∙◌}
use native.Mathlib.Omega.{arith}
use borrow.Author.Rules.{rules}
use borrow.Author.Tests.{ne_eqb}
use lib.ListN.{length, get_or, replicate, take}
use mathlib.Core.List.{◌++◌}
use Rattle.refusals.proofs.Refusals.{is_some_number}
use Rattle.slices.proofs.Front.{put}
use Rattle.setting.specs.Refusal.{leaves}
use Rattle.setting_bytes.specs.Settings.{part, setting_length, numbers_at}
use Rattle.setting_bytes.proofs.Parts.{length_part}
use Rattle.composer.specs.States.{counter_at, setting_at, open_length, composer_length, composer_of}
use Rattle.composer.specs.Calls.{close_refused, close_state, close_memory}
use Rattle.composer.proofs.Same.{counter_there}
use Rattle.composer.proofs.Calls.{when_close_refused, close_done}
use Rattle.composer_close.proofs.Passed.{close_passed}
use Rattle.composer_close.proofs.Saying.{opened_length, said_of, setting_said, state_said}
use Rattle.composer_close.proofs.Closing.{closed_memory, closed_state}
use Rattle.composer_close.proofs.close.Goals as goal

pub returns-in_err-state : goal.returns-in_err-state
unfolding close_refused close_state close_memory leaves
returns-in_err-state c =
    let other : length c.args.state.now ≡ composer_length → ⊥ = search rules in
    rw (ne_eqb (length c.args.state.now) composer_length other) (record { value = search rules; state_after = refl; frame_after = refl })

pub returns-in_err-close_refusal : goal.returns-in_err-close_refusal
returns-in_err-close_refusal c =
    let all = when_close_refused c.in_ok-state.field-0.now c.args.frame.now (search rules) c.in_err-close_refusal.ensures (is_some_number c.in_err-close_refusal.field-0.0) in
    record { value = search rules; state_after = search rules; frame_after = search rules }

pub overflow_add-counter : goal.overflow_add-counter
overflow_add-counter c =
    let p = close_passed _ _ (sym c.in_ok-close_refusal.ensures) in
    omega (arith, counter_there c.in_ok-state.field-0.now p.open_state.counter, p.open_state.counter)

pub next_version-version-requires-clause-version : goal.next_version-version-requires-clause-version
next_version-version-requires-clause-version c =
    let p = close_passed _ _ (sym c.in_ok-close_refusal.ensures) in
    p.open_state.version

pub slice_bounds-write_header-end : goal.slice_bounds-write_header-end
slice_bounds-write_header-end c =
    let p = close_passed _ _ (sym c.in_ok-close_refusal.ensures) in
    omega (arith, p.long)

pub returns : goal.returns
unfolding composer_of
returns c =
    let p = close_passed _ _ (sym c.in_ok-close_refusal.ensures) in
    let state = c.in_ok-state.field-0.now in
    let l : length state ≡ composer_length = search rules in
    let same : state ≡ c.args.state.now = search rules in
    let counter = (get_or state counter_at 0 + 1) % 16 in
    let version = c.next_version-version.result in
    let said = c.say.new.opened in
    let left = put setting_at opened_length state said in
    let setting = part setting_at setting_length left in
    let ended : c.end_frame.new.state ≡ take counter_at left ++ (part setting_at numbers_at left ++ replicate open_length 0) = search rules in
    let as_said : said ≡ said_of counter version (part setting_at opened_length state) = search rules in
    let all = close_done state c.args.frame.now l c.in_ok-close_refusal.ensures refl
    (closed_state state l p.open_state c.are_bytes.ensures refl c.next_version-version.ensures (ended ∙ state_said state counter _ l said as_said (replicate open_length 0)))
    (closed_memory state (setting_said state counter _ l said as_said refl c.next_version-version.ensures p.open_state.counter) c.args.frame.now setting _ p.long
    (length_part setting_at setting_length left (search rules)) c.kind_of-kind.ensures c.word-pid.ensures (search rules)) in
    rw (sym same) (record { value = all.0; state_after = all.1.0; frame_after = all.1.1 })
