-- `announced_refusal` meets its contract: a check a return. Assumes nothing.
use Prim.Native.Nat.{ℕ, ◌^◌}
use mathlib.Core.Path.{◌≡◌, refl, sym, ap, ◌∙◌}
use mathlib.Core.Bool.{Bool, cond}
use mathlib.Core.List.{List, ◌++◌}
use borrow.Author.Tests.{le-leb, lt-leb}
use lib.Dec.{leb}
use lib.ListN.{length, drop}
use Rattle.counters.specs.Counters.{last_stream}
use Rattle.setting.specs.declared.Size.{Size}
use Rattle.setting.specs.Size.{streams_of}
use Rattle.setting.specs.Refusal.{Check, first_of, of_length}
use Rattle.setting.specs.Announcing.{announced_checks}
use Rattle.setting.proofs.Refusals.{answers, passed, at_length, off_length}
use Rattle.setting.proofs.Sizes.{sized}
use Rattle.setting_bytes.specs.Settings.{announced_length, announced_of}
use Rattle.setting_checks.proofs.Rows.{information_in, behind_of, announced_in}
use Rattle.setting_checks.proofs.Control.{statuses_fit, control_answers, nothing_behind}
use Rattle.setting_checks.proofs.announced_refusal.Goals as goal
use Rattle.setting_checks.proofs.announced_refusal.Goals.{Else-availability-ge-AVAILABILITIES, Else-bytes-ge-EMERGENCY_INDICATORS, After-size_of-size}
use Rattle.setting.specs.declared.Kind.{Kind}

-- what is answered, and the rows that the function goes through: five of the information, and those of the streams behind the last one
abbrev answered : Kind → List ℕ → ℕ
answered kind b = of_length announced_length (length b) (first_of (announced_checks kind (announced_of b)))

abbrev rows : Kind → List ℕ → List Check
rows kind b = information_in b ++ behind_of (streams_of kind) (announced_of b)

told : (kind : Kind) (b : List ℕ) → length b ≡ announced_length → answered kind b ≡ first_of (rows kind b)
told kind b long = at_length _ _ _ long ∙ ap first_of (announced_in kind b long)

past_three : (c : Else-availability-ge-AVAILABILITIES) → let s = c.args in answered s.kind s.bytes.now ≡ first_of (drop 3 (rows s.kind s.bytes.now))
past_three c =
    told _ _ c.if-bytes-ne-ANNOUNCED_BYTES.false
    ∙ passed _ _ (lt-leb _ _ c.if-bytes-ge-SLOT_ALLOCATION_TYPES.false)
    ∙ passed _ _ (lt-leb _ _ c.if-bytes-ge-FRAME_TYPES.false)
    ∙ passed _ _ (ap (leb (2 ^ last_stream)) (sym c.word-availability.ensures) ∙ lt-leb _ _ c.if-availability-ge-AVAILABILITIES.false)

-- all five are passed, and what is left is asked of the streams behind the last one
past_five : (c : Else-bytes-ge-EMERGENCY_INDICATORS) → let s = c.args in answered s.kind s.bytes.now ≡ first_of (drop 3 (rows s.kind s.bytes.now))
    → answered s.kind s.bytes.now ≡ first_of (behind_of (streams_of s.kind) (announced_of s.bytes.now))
past_five c three =
    three
    ∙ passed _ _ (statuses_fit c.args.bytes.now c.if-bytes-ne-ANNOUNCED_BYTES.false (sym c.if-some_at_least.ensures))
    ∙ passed _ _ (lt-leb _ _ c.if-bytes-ge-EMERGENCY_INDICATORS.false)

streams : (c : After-size_of-size) → c.size_of-size.result.streams ≡ streams_of c.args.kind
streams c = ap (λ (z : Size). z.streams) c.size_of-size.ensures

pub returns-then-bytes-ne-ANNOUNCED_BYTES : goal.returns-then-bytes-ne-ANNOUNCED_BYTES
returns-then-bytes-ne-ANNOUNCED_BYTES c = sym (off_length _ _ _ c.if-bytes-ne-ANNOUNCED_BYTES.true)

pub returns-then-bytes-ge-SLOT_ALLOCATION_TYPES : goal.returns-then-bytes-ge-SLOT_ALLOCATION_TYPES
returns-then-bytes-ge-SLOT_ALLOCATION_TYPES c =
    sym (told _ _ c.if-bytes-ne-ANNOUNCED_BYTES.false ∙ answers _ _ (le-leb _ _ c.if-bytes-ge-SLOT_ALLOCATION_TYPES.true))

pub returns-then-bytes-ge-FRAME_TYPES : goal.returns-then-bytes-ge-FRAME_TYPES
returns-then-bytes-ge-FRAME_TYPES c =
    sym (told _ _ c.if-bytes-ne-ANNOUNCED_BYTES.false
    ∙ passed _ _ (lt-leb _ _ c.if-bytes-ge-SLOT_ALLOCATION_TYPES.false) ∙ answers _ _ (le-leb _ _ c.if-bytes-ge-FRAME_TYPES.true))

pub returns-then-availability-ge-AVAILABILITIES : goal.returns-then-availability-ge-AVAILABILITIES
returns-then-availability-ge-AVAILABILITIES c =
    sym (told _ _ c.if-bytes-ne-ANNOUNCED_BYTES.false
    ∙ passed _ _ (lt-leb _ _ c.if-bytes-ge-SLOT_ALLOCATION_TYPES.false)
    ∙ passed _ _ (lt-leb _ _ c.if-bytes-ge-FRAME_TYPES.false)
    ∙ answers _ _ (ap (leb (2 ^ last_stream)) (sym c.word-availability.ensures) ∙ le-leb _ _ c.if-availability-ge-AVAILABILITIES.true))

pub returns-then-some_at_least : goal.returns-then-some_at_least
returns-then-some_at_least c =
    sym (past_three (goal.at.returns-then-some_at_least c).Else-availability-ge-AVAILABILITIES
    ∙ control_answers c.args.bytes.now c.if-bytes-ne-ANNOUNCED_BYTES.false _ (sym c.if-some_at_least.ensures))

pub returns-then-bytes-ge-EMERGENCY_INDICATORS : goal.returns-then-bytes-ge-EMERGENCY_INDICATORS
returns-then-bytes-ge-EMERGENCY_INDICATORS c =
    sym (past_three (goal.at.returns-then-bytes-ge-EMERGENCY_INDICATORS c).Else-availability-ge-AVAILABILITIES
    ∙ passed _ _ (statuses_fit c.args.bytes.now c.if-bytes-ne-ANNOUNCED_BYTES.false (sym c.if-some_at_least.ensures))
    ∙ answers _ _ (le-leb _ _ c.if-bytes-ge-EMERGENCY_INDICATORS.true))

pub returns-then-size-eq-LAST : goal.returns-then-size-eq-LAST
returns-then-size-eq-LAST c =
    let k = goal.at.returns-then-size-eq-LAST c in
    let all = sym (streams k.After-size_of-size) ∙ c.if-size-eq-LAST.true in
    sym (past_five k.Else-bytes-ge-EMERGENCY_INDICATORS (past_three k.Else-availability-ge-AVAILABILITIES)
    ∙ rw all (nothing_behind c.args.bytes.now c.if-bytes-ne-ANNOUNCED_BYTES.false))

pub has_more_streams-requires : goal.has_more_streams-requires
has_more_streams-requires c =
    (c.if-bytes-ne-ANNOUNCED_BYTES.false, rw (streams (goal.at.has_more_streams-requires c).After-size_of-size) (sized c.args.kind).streams)

pub returns-then-has_more_streams : goal.returns-then-has_more_streams
returns-then-has_more_streams c =
    let k = goal.at.returns-then-has_more_streams c in
    sym (ap (λ (t : Bool). cond t 17 0) c.if-has_more_streams.true)
    ∙ c.has_more_streams.ensures ∙ rw (streams k.After-size_of-size) refl
    ∙ sym (past_five k.Else-bytes-ge-EMERGENCY_INDICATORS (past_three k.Else-availability-ge-AVAILABILITIES))

pub returns : goal.returns
returns c =
    let k = goal.at.returns c in
    sym (ap (λ (t : Bool). cond t 17 0) c.if-has_more_streams.false)
    ∙ c.has_more_streams.ensures ∙ rw (streams k.After-size_of-size) refl
    ∙ sym (past_five k.Else-bytes-ge-EMERGENCY_INDICATORS (past_three k.Else-availability-ge-AVAILABILITIES))
