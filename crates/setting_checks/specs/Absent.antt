-- The rows of 17 for what a kind does not have, on the last bytes of a setting: private data, auxiliary information and bonding fields.
use Rattle.std.specs.Prelude.{ℕ, ◌+◌, List, get_or, take}
use Rattle.setting.specs.declared.Kind.{Kind}
use Rattle.setting.specs.Setting.{private_bytes, auxiliary_bytes}
use Rattle.setting.specs.Refusal.{Check}
use Rattle.setting.specs.Rules.{bonding_absent, absent_checks}
use Rattle.setting_bytes.specs.Settings.{part}

-- of the auxiliary information and the five bonding fields behind it, in a header that has none of them
abbrev pub bonding_absent_in : List ℕ → List Check
bonding_absent_in b =
    bonding_absent Kind.Plain (take auxiliary_bytes b) (get_or b auxiliary_bytes 0) (get_or b (auxiliary_bytes + 1) 0)
    (get_or b (auxiliary_bytes + 2) 0) (get_or b (auxiliary_bytes + 3) 0) (get_or b (auxiliary_bytes + 4) 0)

-- of the private data and all of these
abbrev pub absent_in : Kind → List ℕ → List Check
absent_in kind b =
    absent_checks kind (take private_bytes b) (part private_bytes auxiliary_bytes b)
    (get_or b (private_bytes + auxiliary_bytes) 0) (get_or b (private_bytes + auxiliary_bytes + 1) 0) (get_or b (private_bytes + auxiliary_bytes + 2) 0)
    (get_or b (private_bytes + auxiliary_bytes + 3) 0) (get_or b (private_bytes + auxiliary_bytes + 4) 0)
