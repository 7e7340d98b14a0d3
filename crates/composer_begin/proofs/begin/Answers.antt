-- `begin` meets its contract: behind its checks the state's bytes get the setting's. Assumes nothing.
use Prim.Native.Nat.{ℕ}
use mathlib.Core.Path.{◌≡◌, refl, sym, ap, ◌∙◌}
use borrow.Author.Rules.{rules}
use borrow.Author.Tests.{eq-eqb, ne_eqb}
use mathlib.Core.List.{List}
use lib.ListN.{length, get_or}
use Rattle.refusals.proofs.Refusals.{is_some_number}
use Rattle.setting.specs.Refusal.{leaves}
use Rattle.setting.specs.declared.Size.{Size}
use Rattle.setting.specs.Size.{slots_of, size_of}
use Rattle.setting.specs.declared.Kind.{Kind}
use Rattle.setting_bytes.specs.Kinds.{kind_of}
use Rattle.setting_bytes.specs.Settings.{setting_length}
use Rattle.composer.specs.Slots.{cleared as cleared_frame}
use Rattle.composer.specs.States.{composer_length, composer_of, kind_at}
use Rattle.composer.proofs.Same.{opened-bytes, all-bytes, coded_by_counter}
use Rattle.composer.specs.Calls.{begin_refused, begin_state, begin_memory}
use Rattle.composer.proofs.There.{kind_there}
use Rattle.composer.proofs.Calls.{when_begin_refused, begin_done}
use Rattle.composer_begin.proofs.Passed.{begin_passed, begin_counter}
use Rattle.composer_begin.proofs.begin.Goals as goal

pub returns-in_err-state : goal.returns-in_err-state
unfolding begin_refused begin_state begin_memory leaves
returns-in_err-state c =
    let other : length c.args.state.now ≡ composer_length → ⊥ = search rules in
    rw (ne_eqb (length c.args.state.now) composer_length other) (record { value = search rules; state_after = refl; frame_after = refl })

pub returns-in_err-setting : goal.returns-in_err-setting
unfolding begin_refused begin_state begin_memory leaves
returns-in_err-setting c =
    let a = c.args in
    let long : length a.state.now ≡ composer_length = search rules in
    let other : length a.setting.now ≡ setting_length → ⊥ = search rules in
    rw (eq-eqb (length a.state.now) composer_length long, ne_eqb (length a.setting.now) setting_length other) (record { value = search rules; state_after = search rules; frame_after = refl })

pub returns-in_err-begin_refusal : goal.returns-in_err-begin_refusal
returns-in_err-begin_refusal c =
    let all = when_begin_refused c.in_ok-state.field-0.now c.in_ok-setting.setting.now c.args.frame.now (search rules) (search rules) c.in_err-begin_refusal.ensures (is_some_number c.in_err-begin_refusal.field-0.0) in
    record { value = search rules; state_after = search rules; frame_after = search rules }

-- how many slots the run's kind has
slots_told : (state : List ℕ) {k : Kind} {z : Size} → k ≡ kind_of (get_or state kind_at 0) → z ≡ size_of k → z.slots ≡ slots_of (composer_of state).kind
slots_told state k z = ap (λ (z : Size). z.slots) z ∙ ap slots_of (k ∙ sym (kind_there state))

pub clear-requires : goal.clear-requires
clear-requires c = search (rules, begin_passed, slots_told)

pub returns : goal.returns
returns c =
    let b = c.in_ok-state.field-0.now in
    let s = c.in_ok-setting.setting.now in
    let long : length b ≡ composer_length = search rules in
    let whole : length s ≡ setting_length = search rules in
    let coded = coded_by_counter b (begin_counter _ _ _ (sym c.in_ok-begin_refusal.ensures)) in
    let all = begin_done b s c.args.frame.now long whole c.in_ok-begin_refusal.ensures refl
    (c.«open».ensures ∙ sym (opened-bytes b long (all-bytes b c.are_bytes.ensures) coded s whole (all-bytes s c.are_bytes-2.ensures)))
    (c.clear.ensures ∙ ap (λ (n : ℕ). cleared_frame n c.args.frame.now) (slots_told b c.kind_of.ensures c.size_of-size.ensures)) in
    record { value = search rules; state_after = search rules; frame_after = search rules }
