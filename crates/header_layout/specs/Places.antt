-- The bytes at which the parts of a header start whose place depends on the size.
use Rattle.setting.specs.declared.Size.{Size}
use Rattle.header_layout.specs.Layout.{identifiers_start, control_start, numbers_start, private_start}
use Rattle.header_layout.specs.declared.Places.{Places}

unfoldable pub places_of : Size → Places
places_of z = record { identifiers = identifiers_start z; control = control_start z; numbers = numbers_start z; private = private_start z }
