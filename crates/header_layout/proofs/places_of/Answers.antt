-- `places_of` meets its contract, by the kind. Assumes nothing.
use mathlib.Core.Path.{refl}
use native.Mathlib.Omega.{arith}
use Rattle.setting.specs.Size.{size_of}
use Rattle.header_layout.specs.Places.{places_of}
use Rattle.header_layout.proofs.places_of.Goals as goal

pub returns-in-Plain : goal.returns-in-Plain
unfolding places_of size_of
returns-in-Plain c = rw (c.long_places.ensures, c.in-Plain.is) (record {
  value = refl;
  identifiers_bound = (omega arith, omega arith, omega arith, omega arith, omega arith, omega arith);
})

pub returns-in-Extended : goal.returns-in-Extended
unfolding places_of size_of
returns-in-Extended c = rw (c.long_places-in-Extended.ensures, c.in-Extended.is) (record {
  value = refl;
  identifiers_bound = (omega arith, omega arith, omega arith, omega arith, omega arith, omega arith);
})

pub returns-in-Short : goal.returns-in-Short
unfolding places_of size_of
returns-in-Short c = rw c.in-Short.is (record {
  value = refl;
  identifiers_bound = (omega arith, omega arith, omega arith, omega arith, omega arith, omega arith);
})
