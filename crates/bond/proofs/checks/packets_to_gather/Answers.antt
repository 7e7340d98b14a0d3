-- `packets_to_gather` meets its contract, check by check. Assumes nothing.
use Prim.Native.Nat.{◌*◌}
use mathlib.Core.Path.{◌≡◌, sym, ◌∙◌}
use mathlib.Core.List.{[], ◌∷◌}
use native.Mathlib.Omega.{arith}
use borrow.Author.Rules.{rules}
use borrow.Author.Tests.{lt-ltb, le-ltb}
use lib.Dec.{ltb}
use Rattle.std.specs.Prelude.{unwrap_or}
use Rattle.refusals.specs.Refusals.{number, answer}
use Rattle.setting.specs.Refusal.{first_of}
use Rattle.setting.proofs.Refusals.{answers, passed}
use Rattle.packet.specs.Packets.{packet_length}
use Rattle.bond.proofs.Bonded.{not_bonded, by_13, some_bonded, bonded_are}
use Rattle.bond.proofs.checks.packets_to_gather.Goals as goal

pub returns-in_err-packets-clause-value : goal.returns-in_err-packets-clause-value
returns-in_err-packets-clause-value c =
    let why = c.in_err-packets.field-0.0 in
    let passed_up : answer c.from_residual.result ≡ number why = search rules in
    passed_up ∙ by_13 c.args.bonded c.ok_or.result c.ok_or.ensures.value why c.in_err-packets.was
    ∙ sym (answers 13 _ (not_bonded c.args.bonded c.ok_or.result c.ok_or.ensures.value why c.in_err-packets.was))

pub returns-then-out-packets-clause-value : goal.returns-then-out-packets-clause-value
returns-then-out-packets-clause-value c =
    let are = bonded_are c.args.bonded c.ok_or.result c.ok_or.ensures.value c.in_ok-packets.packets c.in_ok-packets.was in
    sym (passed 13 _ (some_bonded c.args.bonded c.ok_or.result c.ok_or.ensures.value c.in_ok-packets.packets c.in_ok-packets.was)
    ∙ answers 15 [] (lt-ltb c.args.out (packet_length * unwrap_or c.args.bonded 0) (omega (arith, are))))

pub returns-clause-value : goal.returns-clause-value
unfolding first_of
returns-clause-value c =
    let are = bonded_are c.args.bonded c.ok_or.result c.ok_or.ensures.value c.in_ok-packets.packets c.in_ok-packets.was in
    let asked = packet_length * unwrap_or c.args.bonded 0 in
    sym (passed 13 ((15, ltb c.args.out asked) ∷ []) (some_bonded c.args.bonded c.ok_or.result c.ok_or.ensures.value c.in_ok-packets.packets c.in_ok-packets.was) ∙ passed 15 [] (le-ltb c.args.out asked (omega (arith, are))))
