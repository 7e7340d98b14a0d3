-- What is said of the coding, as a statement. The proof stands apart.
use Rattle.std.specs.Prelude.{◌≡◌}
use Rattle.setting.specs.declared.Setting.{Setting}
use Rattle.setting.specs.Setting.{OfItsTypes}
use Rattle.setting_bytes.specs.Settings.{setting_bytes, setting_of}

-- 'Decoding what was encoded gives the value back.'
abbrev pub SettingBack : Type 0
SettingBack = (s : Setting) → OfItsTypes s → setting_of (setting_bytes s) ≡ s
