-- For each value that a check of a header answers there is a setting that says the same: a blank one with these fields. Assumes nothing.
use mathlib.Core.Path.{◌≡◌, refl}
use Rattle.std.specs.Prelude.{Ok}
use Rattle.setting.specs.declared.Setting.{Setting}
use Rattle.setting.specs.Setting.{blank}
use Rattle.header_check.specs.declared.Said.{Said}
use Rattle.header_check.specs.OnPaper.{on_paper}
use Rattle.header_check.specs.Checking.{bare, parts_of}

abbrev pub saying : Said → Setting
saying said = record blank {
  continuity_counter = said.continuity_counter;
  availability = said.availability;
  group_id = said.group_id;
  number_of_carriers = said.number_of_carriers;
  carrier_sequence = said.carrier_sequence;
  number_of_frames = said.number_of_frames;
  frame_position = said.frame_position;
}

pub says : (said : Said) → on_paper (Ok said) ≡ parts_of (bare 0) (saying said)
unfolding parts_of
says said = refl
