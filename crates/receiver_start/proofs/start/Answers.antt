-- `start` meets its contract, by whether the PID is allowed. Assumes nothing.
use mathlib.Core.Path.{◌≡◌, refl, sym}
use mathlib.Core.Bool.{Bool, true, false, cond}
use borrow.Author.Rules.{rules}
use Rattle.setting.specs.declared.Kind.{Kind}
use Rattle.setting.specs.Rules.{pid_allowed}
use Rattle.receiver.specs.Receiving.{Receiver, waiting, start_of}
use Rattle.receiver.specs.Bytes.{receiver_bytes}
use Rattle.receiver_start.proofs.start.Goals as goal

either : (allowed : Bool) (new old : Receiver) → cond allowed (receiver_bytes new) (receiver_bytes old) ≡ receiver_bytes (cond allowed new old)
either true new old = refl
either false new old = refl

pub returns : goal.returns
unfolding start_of
returns c =
    rw (sym (either (pid_allowed c.args.pid) (waiting c.args.kind c.args.pid) (waiting Kind.Plain 0))) (record {
      refusal_value = search rules;
      state_value = search rules;
    })
