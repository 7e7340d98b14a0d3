-- A bond, made from its four numbers.
use Rattle.std.specs.Prelude.{ℕ}
use Rattle.bond_group.specs.declared.Bond.{Bond}

abbrev pub bond_of : ℕ → ℕ → ℕ → ℕ → Bond
bond_of carriers pid ts network =
    record { carriers = carriers; pid = pid; ts_id = ts; original_network_id = network }
