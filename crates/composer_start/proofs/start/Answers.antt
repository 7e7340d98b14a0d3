-- `start` meets its contract, by whether the PID is allowed. Assumes nothing.
use mathlib.Core.Path.{◌≡◌, refl, sym}
use mathlib.Core.Bool.{Bool, true, false, cond, not}
use mathlib.Core.List.{[], ◌∷◌}
use borrow.Author.Rules.{rules}
use Rattle.setting.specs.declared.Kind.{Kind}
use Rattle.setting.specs.Refusal.{first_of}
use Rattle.setting.specs.Rules.{pid_allowed}
use Rattle.composer.specs.Composing.{Composer, fresh, answer, start_of}
use Rattle.composer.specs.States.{composer_bytes}
use Rattle.composer_start.proofs.start.Goals as goal

either : (allowed : Bool) (new old : Composer) → cond allowed (composer_bytes new) (composer_bytes old) ≡ composer_bytes (answer (first_of ((2, not allowed) ∷ [])) new old).state
unfolding answer first_of
either true new old = refl
either false new old = refl

pub returns : goal.returns
unfolding start_of answer
returns c =
    rw (sym (either (pid_allowed c.args.pid) (fresh c.args.kind c.args.pid) (fresh Kind.Plain 0))) (record {
      refusal_value = search rules;
      state_value = search rules;
    })
