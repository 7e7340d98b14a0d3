-- `width_refusal` meets its contract: a check a return. Assumes nothing.
use Prim.Native.Nat.{ℕ, ◌+◌, ◌^◌, ◌<◌}
use mathlib.Core.Path.{◌≡◌, refl, sym, ap, ◌∙◌}
use mathlib.Core.Bool.{Bool, false}
use mathlib.Core.List.{List}
use native.Mathlib.Omega.{arith}
use borrow.Author.Rules.{rules}
use borrow.Author.Tests.{le-leb, lt-leb}
use lib.ListN.{length, get_or, drop}
use Rattle.refusals.specs.Refusals.{number, answer}
use Rattle.refusals.proofs.Refusals.{is_some_number}
use Rattle.slices.specs.Slices.{some_at_least}
use Rattle.counters.specs.Counters.{last_slot}
use Rattle.setting.specs.declared.Kind.{Kind}
use Rattle.setting.specs.declared.Size.{Size}
use Rattle.setting.specs.Size.{size_of}
use Rattle.setting.specs.Refusal.{Check, first_of, of_length}
use Rattle.setting.specs.Rules.{width_checks}
use Rattle.setting.specs.Announcing.{announced_checks}
use Rattle.setting_bytes.specs.Settings.{part, announced_length, announced_of, announced_at, numbers_at, setting_length, setting_of}
use Rattle.setting.proofs.Refusals.{answers, passed, none_first, onward, at_once, at_length, off_length}
use Rattle.setting.proofs.Sizes.{sized}
use Rattle.setting_bytes.proofs.Parts.{length_part}
use Rattle.setting_checks.proofs.Absent.{absent_checks-in}
use Rattle.setting_checks.proofs.Rows.{rest_in, widths_in, width_checks-in}
use Rattle.setting_checks.proofs.width_refusal.Goals as goal

module _ (kind : Kind) (b : List ℕ) (long : length b ≡ setting_length) where
  -- the rows of what is announced, and those behind them
  abbrev shown : List Check
  shown = announced_checks kind (announced_of (part announced_at announced_length b))

  abbrev answered : ℕ
  answered = of_length setting_length (length b) (first_of (width_checks kind (setting_of b)))

  rows : answered ≡ first_of (widths_in kind b)
  rows = at_length _ _ _ long ∙ ap first_of (width_checks-in kind b long)

  announced : {n : ℕ} → n ≡ of_length announced_length (length (part announced_at announced_length b)) (first_of shown) → n ≡ first_of shown
  announced e = e ∙ at_length _ _ _ (length_part announced_at announced_length b (omega (arith, long)))

  module _ (counter : get_or b 0 0 < 2 ^ 4) (version : get_or b 1 0 < 2 ^ 3) where
    past_two : answered ≡ first_of (drop 2 (widths_in kind b))
    past_two = rows ∙ passed _ _ (lt-leb _ _ counter) ∙ passed _ _ (lt-leb _ _ version)

    past_shown : first_of shown ≡ 0 → answered ≡ first_of (rest_in kind b)
    unfolding announced_checks
    past_shown none = past_two ∙ onward (rest_in kind b) (none_first shown refl none)

    stands_at_shown : (first_of shown ≡ 0 → ⊥) → answered ≡ first_of shown
    stands_at_shown some = past_two ∙ at_once shown (rest_in kind b) some

pub returns-then-bytes-ne-SETTING_BYTES : goal.returns-then-bytes-ne-SETTING_BYTES
returns-then-bytes-ne-SETTING_BYTES c = sym (off_length _ _ _ c.if-bytes-ne-SETTING_BYTES.true)

pub returns-then-bytes-ge-COUNTERS : goal.returns-then-bytes-ge-COUNTERS
returns-then-bytes-ge-COUNTERS c =
    sym (rows c.args.kind c.args.bytes.now c.if-bytes-ne-SETTING_BYTES.false ∙ answers _ _ (le-leb _ _ c.if-bytes-ge-COUNTERS.true))

pub returns-then-bytes-ge-VERSIONS : goal.returns-then-bytes-ge-VERSIONS
returns-then-bytes-ge-VERSIONS c =
    sym (rows c.args.kind c.args.bytes.now c.if-bytes-ne-SETTING_BYTES.false ∙ passed _ _ (lt-leb _ _ c.if-bytes-ge-COUNTERS.false) ∙ answers _ _ (le-leb _ _ c.if-bytes-ge-VERSIONS.true))

pub returns-in_err-announced_refusal : goal.returns-in_err-announced_refusal
returns-in_err-announced_refusal c =
    let b = c.args.bytes.now in
    let long = c.if-bytes-ne-SETTING_BYTES.false in
    let refusal = c.in_err-announced_refusal.field-0.0 in
    let passed_up : answer c.from_residual.result ≡ number refusal = search rules in
    let told : number refusal ≡ first_of (shown c.args.kind b long) = announced c.args.kind b long c.in_err-announced_refusal.ensures in
    passed_up ∙ told ∙ sym (stands_at_shown c.args.kind b long c.if-bytes-ge-COUNTERS.false c.if-bytes-ge-VERSIONS.false (λ none. is_some_number refusal (told ∙ none)))

pub overflow_add-size : goal.overflow_add-size
overflow_add-size c = rw c.size_of-size.ensures (omega (arith, (sized c.args.kind).streams))

-- the slots' numbers: none too large for its bits
module _ (kind : Kind) (b : List ℕ) (long : length b ≡ setting_length) (past : answered kind b long ≡ first_of (rest_in kind b)) where
  large : {z : Size} {found : Bool} → z ≡ size_of kind → found ≡ some_at_least (z.streams + 1) (part numbers_at last_slot b) → found ≡ some_at_least (2 ^ (size_of kind).number_bits) (part numbers_at last_slot b)
  large e told = told ∙ rw (e, (sized kind).bits) refl

  past_large : {z : Size} → z ≡ size_of kind → false ≡ some_at_least (z.streams + 1) (part numbers_at last_slot b) → answered kind b long ≡ first_of (drop 1 (rest_in kind b))
  past_large e told = past ∙ passed _ _ (sym (large e told))

pub returns-then-some_at_least : goal.returns-then-some_at_least
returns-then-some_at_least c =
    let b = c.args.bytes.now in
    let long = c.if-bytes-ne-SETTING_BYTES.false in
    let past = past_shown c.args.kind b long c.if-bytes-ge-COUNTERS.false c.if-bytes-ge-VERSIONS.false (sym (announced c.args.kind b long c.in_ok-announced_refusal.ensures)) in
    sym (past ∙ answers _ _ (sym (large c.args.kind b long past c.size_of-size.ensures c.if-some_at_least.ensures)))

pub returns-then-some_behind : goal.returns-then-some_behind
returns-then-some_behind c =
    let b = c.args.bytes.now in
    let long = c.if-bytes-ne-SETTING_BYTES.false in
    let past = past_shown c.args.kind b long c.if-bytes-ge-COUNTERS.false c.if-bytes-ge-VERSIONS.false (sym (announced c.args.kind b long c.in_ok-announced_refusal.ensures)) in
    sym (past_large c.args.kind b long past c.size_of-size.ensures c.if-some_at_least.ensures ∙ answers _ _ (rw (sym c.size_of-size.ensures) (sym c.if-some_behind.ensures)))

pub returns : goal.returns
returns c =
    let b = c.args.bytes.now in
    let long = c.if-bytes-ne-SETTING_BYTES.false in
    let past = past_shown c.args.kind b long c.if-bytes-ge-COUNTERS.false c.if-bytes-ge-VERSIONS.false (sym (announced c.args.kind b long c.in_ok-announced_refusal.ensures)) in
    c.absent_refusal.ensures ∙ ap first_of (absent_checks-in c.args.kind b long)
    ∙ sym (past_large c.args.kind b long past c.size_of-size.ensures c.if-some_at_least.ensures ∙ passed _ _ (rw (sym c.size_of-size.ensures) (sym c.if-some_behind.ensures)))
