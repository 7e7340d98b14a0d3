-- `size_of` meets its contract. Assumes nothing.
use Rattle.setting.specs.Size.{size_of}
use Rattle.setting.proofs.size_of.Goals as goal

pub returns-in-Plain : goal.returns-in-Plain
unfolding size_of
returns-in-Plain c = rw c.in-Plain.is

pub returns-in-Extended : goal.returns-in-Extended
unfolding size_of
returns-in-Extended c = rw c.in-Extended.is

pub returns-in-Short : goal.returns-in-Short
unfolding size_of
returns-in-Short c = rw c.in-Short.is
