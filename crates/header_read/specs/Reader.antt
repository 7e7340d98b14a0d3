-- What reading a header answers.
use Rattle.std.specs.Prelude.{ℕ, cond, List, eqb, length, Result, Ok, Err}
use Rattle.setting.specs.declared.Kind.{Kind}
use Rattle.setting.specs.declared.Setting.{Setting}
use Rattle.setting.specs.Setting.{blank}
use Rattle.setting.specs.Refusal.{of_length, leaves}
use Rattle.setting_bytes.specs.Settings.{setting_length, setting_bytes}
use Rattle.header_layout.specs.Header.{reading}
use Rattle.refusals.specs.Refusals.{number}
use Rattle.header_check.specs.declared.Refused.{Refused}
use Rattle.header_check.specs.OnPaper.{Refusal}
use Rattle.header_check.specs.Checking.{read_refusal, refusal_by}

-- what a read answers on paper: refusal 0 and the setting, or the refusal and zeros
pub record Reading : Type 0 where
  pub refusal : Refusal
  pub setting : Setting

-- those of a result
abbrev pub reading_in : Result Setting Refused → Reading
reading_in (Ok setting) = record { refusal = record { number = 0; remainder = 0 }; setting = setting }
reading_in (Err why) = record { refusal = record { number = number why.refusal; remainder = why.remainder }; setting = blank }

-- what a read answers
unfoldable pub read_of : Kind → ℕ → List ℕ → Reading
read_of kind pid p =
    record {
      refusal = refusal_by (read_refusal kind pid p) p;
      setting = cond (eqb (read_refusal kind pid p) 0) (reading kind p) blank;
    }

-- what a read into lent bytes answers: 1 if they are not as many as a setting has, else what a read answers
unfoldable pub into_refused : Kind → ℕ → List ℕ → List ℕ → Refusal
into_refused kind pid p lent = refusal_by (of_length setting_length (length lent) (read_refusal kind pid p)) p

-- what it leaves in them: the bytes of the setting, or what was there if it refuses
unfoldable pub into_memory : Kind → ℕ → List ℕ → List ℕ → List ℕ
into_memory kind pid p lent = leaves (into_refused kind pid p lent).number (setting_bytes (read_of kind pid p).setting) lent
