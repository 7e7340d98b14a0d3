-- `from` meets its contract: it is the record of the definition. Assumes nothing.
use mathlib.Core.Path.{◌≡◌}
use Rattle.setting.specs.declared.Setting.{Setting}
use Rattle.std.specs.Prelude.{Ok}
use Rattle.header_check.specs.OnPaper.{Checked, on_paper}
use Rattle.header_check.specs.Checking.{bare, parts_of}
use Rattle.bond_group.specs.Standing.{shown_by}
use Rattle.bond_group.proofs.headers.ShownFromSaid.from.Goals as goal

shown : (h : Checked) (s : Setting) → h ≡ parts_of (bare 0) s
    → record {
      group_id = h.group_id;
      number_of_carriers = h.number_of_carriers;
      carrier_sequence = h.carrier_sequence;
      number_of_frames = h.number_of_frames;
      frame_position = h.frame_position;
    } ≡ shown_by s
unfolding shown_by parts_of
shown h s e = rw e

pub returns : goal.returns
returns c = λ s e. shown (on_paper (Ok c.args.said)) s e
