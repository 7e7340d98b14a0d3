-- `rule_refusal` meets its contract: a check a return. Assumes nothing.
use Prim.Native.Nat.{ℕ, ◌*◌}
use mathlib.Core.Path.{◌≡◌, refl, sym, ap, ◌∙◌}
use mathlib.Core.Bool.{Bool, not, ◌&&◌}
use mathlib.Core.List.{List}
use native.Mathlib.Omega.{arith}
use lib.ListN.{length}
use Rattle.counters.specs.Counters.{last_stream}
use Rattle.setting.specs.declared.Kind.{Kind}
use Rattle.setting.specs.Refusal.{first_of, of_length}
use Rattle.setting.specs.Rules.{pair_twice, rule_checks}
use Rattle.setting_bytes.specs.Words.{word_at, words_of}
use Rattle.setting_bytes.specs.Settings.{part, availability_at, ts_id_at, network_id_at, setting_of, setting_length}
use Rattle.setting_pairs.specs.Identifiers.{ids_apart, holds_ids}
use Rattle.setting.proofs.Refusals.{answers, passed, at_length, off_length}
use Rattle.setting_bytes.proofs.Parts.{length_part}
use Rattle.setting_bytes.proofs.InBytes.{in_setting}
use Rattle.setting_checks.proofs.Rows.{rules_in, rule_checks-in, words_apart}
use Rattle.setting_checks.proofs.rule_refusal.Goals as goal

told : (kind : Kind) (b : List ℕ) → length b ≡ setting_length → of_length setting_length (length b) (first_of (rule_checks kind (setting_of b))) ≡ first_of (rules_in kind b)
told kind b long = at_length _ _ _ long ∙ ap first_of (rule_checks-in kind b long)

pub returns-then-bytes-ne-SETTING_BYTES : goal.returns-then-bytes-ne-SETTING_BYTES
returns-then-bytes-ne-SETTING_BYTES c = sym (off_length _ _ _ c.if-bytes-ne-SETTING_BYTES.true)

pub returns-then-not-frame_type_allowed : goal.returns-then-not-frame_type_allowed
returns-then-not-frame_type_allowed c =
    sym (told _ _ c.if-bytes-ne-SETTING_BYTES.false ∙ answers _ _ (ap not (sym c.if-not-frame_type_allowed.ensures)))

pub returns-then-has_unavailable : goal.returns-then-has_unavailable
returns-then-has_unavailable c =
    let unavailable = sym (c.if-has_unavailable.ensures ∙ rw c.word-availability.ensures refl) in
    sym (told _ _ c.if-bytes-ne-SETTING_BYTES.false
    ∙ passed _ _ (ap not (sym c.if-not-frame_type_allowed.ensures)) ∙ answers _ _ unavailable)

-- the pairs that are asked are those of the setting
module _ (b : List ℕ) (long : length b ≡ setting_length) where
  twice : {a : ℕ} {found : Bool} → a ≡ word_at (in_setting availability_at) b
      → let ts = part (in_setting ts_id_at) (2 * last_stream) b in let os = part (in_setting network_id_at) (2 * last_stream) b in
      found ≡ holds_ids 2 (length ts) && (holds_ids 2 (length os) && pair_twice a (ids_apart 2 last_stream ts) (ids_apart 2 last_stream os))
      → found ≡ pair_twice (word_at (in_setting availability_at) b) (words_of ts) (words_of os)
  twice e f =
      let ts = length_part (in_setting ts_id_at) (2 * last_stream) b (omega (arith, long)) in
      let os = length_part (in_setting network_id_at) (2 * last_stream) b (omega (arith, long)) in
      f ∙ rw (e, ts, os, words_apart last_stream _ ts, words_apart last_stream _ os) refl

pub returns-then-has_pair_twice : goal.returns-then-has_pair_twice
returns-then-has_pair_twice c =
    let unavailable = sym (c.if-has_unavailable.ensures ∙ rw c.word-availability.ensures refl) in
    let pairs = sym (twice c.args.bytes.now c.if-bytes-ne-SETTING_BYTES.false c.word-availability.ensures c.if-has_pair_twice.ensures) in
    sym (told _ _ c.if-bytes-ne-SETTING_BYTES.false
    ∙ passed _ _ (ap not (sym c.if-not-frame_type_allowed.ensures)) ∙ passed _ _ unavailable ∙ answers _ _ pairs)

pub returns : goal.returns
returns c =
    let unavailable = sym (c.if-has_unavailable.ensures ∙ rw c.word-availability.ensures refl) in
    let pairs = sym (twice c.args.bytes.now c.if-bytes-ne-SETTING_BYTES.false c.word-availability.ensures c.if-has_pair_twice.ensures) in
    c.bonding_refusal.ensures
    ∙ sym (told _ _ c.if-bytes-ne-SETTING_BYTES.false
    ∙ passed _ _ (ap not (sym c.if-not-frame_type_allowed.ensures)) ∙ passed _ _ unavailable ∙ passed _ _ pairs)
