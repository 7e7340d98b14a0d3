-- `packets_to_spread` meets its contract, check by check. Assumes nothing.
use Prim.Native.Nat.{ℕ, ◌*◌}
use mathlib.Core.Path.{◌≡◌, sym, ap, ◌∙◌}
use mathlib.Core.Bool.{false, not}
use mathlib.Core.List.{List, [], ◌∷◌}
use native.Mathlib.Omega.{arith}
use borrow.Author.Rules.{rules}
use borrow.Author.Tests.{eq-eqb, ne_eqb}
use lib.Dec.{eqb}
use lib.ListN.{length}
use Rattle.std.specs.Prelude.{Option, is_some, unwrap_or}
use Rattle.refusals.specs.Refusals.{number, answer}
use Rattle.setting.specs.Refusal.{Check, first_of}
use Rattle.setting.proofs.Refusals.{Past, answers, passed}
use Rattle.packet.specs.Packets.{packet_length, some_unfit_in}
use Rattle.bond.proofs.Bonded.{not_bonded, by_13, some_bonded, bonded_are}
use Rattle.bond.proofs.checks.packets_to_spread.Goals as goal

-- what is asked, in the table's order
abbrev all : Option ℕ → ℕ → List ℕ → List Check
all bonded pid stream =
    (13, not (is_some bonded)) ∷ (15, not (eqb (length stream) (packet_length * unwrap_or bonded 0))) ∷ (12, some_unfit_in pid stream) ∷ []

module _ (bonded : Option ℕ) (pid : ℕ) (stream : List ℕ) (h : not (is_some bonded) ≡ false) where
  past_1 : Past 1 (all bonded pid stream)
  past_1 = passed 13 _ h

  past_2 : length stream ≡ packet_length * unwrap_or bonded 0 → Past 2 (all bonded pid stream)
  past_2 same = past_1 ∙ passed 15 _ (ap not (eq-eqb _ _ same))

pub returns-in_err-slots-clause-value : goal.returns-in_err-slots-clause-value
returns-in_err-slots-clause-value c =
    let why = c.in_err-slots.field-0.0 in
    let passed_up : answer c.from_residual.result ≡ number why = search rules in
    passed_up ∙ by_13 c.args.bonded c.ok_or.result c.ok_or.ensures.value why c.in_err-slots.was
    ∙ sym (answers 13 _ (not_bonded c.args.bonded c.ok_or.result c.ok_or.ensures.value why c.in_err-slots.was))

pub returns-then-stream-slots-clause-value : goal.returns-then-stream-slots-clause-value
returns-then-stream-slots-clause-value c =
    let a = c.args in
    let h = some_bonded a.bonded c.ok_or.result c.ok_or.ensures.value c.in_ok-slots.slots c.in_ok-slots.was in
    let are = bonded_are a.bonded c.ok_or.result c.ok_or.ensures.value c.in_ok-slots.slots c.in_ok-slots.was in
    sym (past_1 a.bonded a.pid a.stream.now h ∙ answers 15 _ (ap not (ne_eqb (length a.stream.now) (packet_length * unwrap_or a.bonded 0) (λ e. c.if-stream-slots.true (omega (arith, e, are))))))

pub returns-then-has_unfit-clause-value : goal.returns-then-has_unfit-clause-value
returns-then-has_unfit-clause-value c =
    let a = c.args in
    let h = some_bonded a.bonded c.ok_or.result c.ok_or.ensures.value c.in_ok-slots.slots c.in_ok-slots.was in
    let are = bonded_are a.bonded c.ok_or.result c.ok_or.ensures.value c.in_ok-slots.slots c.in_ok-slots.was in
    let same : length a.stream.now ≡ packet_length * unwrap_or a.bonded 0 = omega (arith, are) in
    sym (past_2 a.bonded a.pid a.stream.now h same ∙ answers 12 [] (sym c.if-has_unfit.ensures))

pub returns-clause-value : goal.returns-clause-value
unfolding first_of
returns-clause-value c =
    let a = c.args in
    let h = some_bonded a.bonded c.ok_or.result c.ok_or.ensures.value c.in_ok-slots.slots c.in_ok-slots.was in
    let are = bonded_are a.bonded c.ok_or.result c.ok_or.ensures.value c.in_ok-slots.slots c.in_ok-slots.was in
    let same : length a.stream.now ≡ packet_length * unwrap_or a.bonded 0 = omega (arith, are) in
    sym (past_2 a.bonded a.pid a.stream.now h same ∙ passed 12 [] (sym c.if-has_unfit.ensures))
