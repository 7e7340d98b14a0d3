-- `write_start` meets its contract, check by check. Assumes nothing.
use mathlib.Core.Path.{◌≡◌, refl, sym, ◌∙◌}
use native.Mathlib.Omega.{arith}
use borrow.Author.Rules.{rules}
use borrow.Author.Tests.{eq-eqb, ne_eqb, lt-ltb, le-ltb, not-true, not-false}
use lib.ListN.{length}
use Rattle.setting.specs.Refusal.{first_of, leaves}
use Rattle.setting_bytes.specs.Kinds.{kinds}
use Rattle.starting.proofs.write_start.Goals as goal

pub returns-in_err-state : goal.returns-in_err-state
unfolding first_of leaves
returns-in_err-state g c =
    let other : length c.args.state.now ≡ g.row.N → ⊥ = search rules in rw (ne_eqb (length c.args.state.now) g.row.N other) (record {
      value = search rules;
      state_after = refl;
    })

pub returns-then-not-pid_allowed : goal.returns-then-not-pid_allowed
unfolding first_of leaves
returns-then-not-pid_allowed g c =
    let long : length c.args.state.now ≡ g.row.N = search rules in rw (eq-eqb (length c.args.state.now) g.row.N long, sym c.pid_allowed.ensures ∙ not-true _ c.if-not-pid_allowed.true-raw) (record {
      value = refl;
      state_after = search rules;
    })

pub returns-then-kind-gt-LAST_KIND : goal.returns-then-kind-gt-LAST_KIND
unfolding first_of leaves
returns-then-kind-gt-LAST_KIND g c =
    let long : length c.args.state.now ≡ g.row.N = search rules in rw (eq-eqb (length c.args.state.now) g.row.N long, sym c.pid_allowed.ensures ∙ not-false _ c.if-not-pid_allowed.false-raw, le-ltb _ kinds c.if-kind-gt-LAST_KIND.true) (record {
      value = refl;
      state_after = search rules;
    })

pub returns : goal.returns
unfolding first_of leaves
returns g c =
    let long : length c.args.state.now ≡ g.row.N = search rules in rw (eq-eqb (length c.args.state.now) g.row.N long, sym c.pid_allowed.ensures ∙ not-false _ c.if-not-pid_allowed.false-raw, lt-ltb c.args.kind kinds (omega (arith, c.if-kind-gt-LAST_KIND.false))) (record {
      value = refl;
      state_after = c.write.ensures;
    })
