-- `move_on` meets its contract: the stage was lent, and is written. Assumes nothing.
use mathlib.Core.Path.{refl, sym, ◌∙◌}
use native.Mathlib.Omega.{arith}
use lib.ListN.{drop, length-drop}
use lib.Seq.{length-take-le}
use Rattle.slices.proofs.Front.{copied-over, put-over}
use Rattle.receiver.specs.Bytes.{stage_at}
use Rattle.receiver.proofs.Bytes.{stage-length}
use Rattle.receiver_receive.proofs.move_on.Goals as goal

pub returns : goal.returns
returns c =
    let written = c.write_stage.ensures ∙ copied-over _ _ (length-take-le 3 (drop stage_at c.args.state.now) (rw length-drop (omega arith)) ∙ sym (stage-length _)) in record {
      value = refl;
      state_after = put-over stage_at 3 c.args.state.now written (stage-length _);
    }
