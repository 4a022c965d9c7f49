-- What a settings file makes of fresh settings.
use Rattle.std.specs.Prelude.{◌≡◌, ℕ, List, ◌∷◌, ◌++◌, Result, Ok, Err}
use Rattle.std.specs.List.{All, AllZip, fold}
use Rattle.std.specs.Str.{IsUtf8}
use Rattle.text.specs.declared.numbered.Numbered.{Numbered}
use Rattle.text.specs.Entries.{Holds, WrongText}
use Rattle.text.specs.Words.{words_of}
use Rattle.settings.specs.declared.settings.Settings.{Settings}
use Rattle.text.specs.declared.settings_file.fault.LineFault.{LineFault}
use Rattle.text.specs.declared.settings_file.fault.Stop.{Stop}
use Rattle.text.specs.declared.settings_file.fault.Stop.TheVariants.{Wrong, Refused}
use Rattle.text.specs.declared.settings_file.setting.Setting.{Setting}
use Rattle.text.specs.Forms.{Says, Complains}
use Rattle.text.specs.Settings.{answered, changed}

-- the settings that stand after the calls of all, in order
abbrev pub changed_by : List (Numbered Setting) → Settings → Settings
changed_by all start = fold (λ settings one. changed one.held settings) start all

-- the setting's call is not refused
abbrev pub Accepted : Numbered Setting → Type 0
Accepted one = answered one.held ≡ Ok tt

-- what carrying one setting out answers and leaves
abbrev pub RefusedAs : Setting → Stop → Type 0
RefusedAs setting (Wrong wrong) = ⊥
RefusedAs setting (Refused refusal) = answered setting ≡ Err refusal

abbrev pub Puts : Numbered Setting → Settings → Result (Unit {0}) LineFault → Settings → Type 0
Puts one before (Ok done) after = Accepted one × (after ≡ changed one.held before)
Puts one before (Err fault) after = (fault.line ≡ one.line) × RefusedAs one.held fault.stop

-- Each entry says a setting, none is refused, and they make these settings in order.
pub record Makes (entries : List (ℕ × List ℕ)) (start made : Settings) : Type 0 where
  pub said : List (Numbered Setting)
  pub hold : AllZip (Holds Says) entries said
  pub accepted : All Accepted said
  pub made_is : made ≡ changed_by said start

-- a line stops the file: it says no setting, or one that is refused
abbrev pub StopsAt : List ℕ → Stop → Type 0
StopsAt line (Wrong wrong) = WrongText Complains line wrong
StopsAt line (Refused refusal) = IsUtf8 line × ((setting : Setting) × Says (words_of line) setting × (answered setting ≡ Err refusal))

-- All entries before one say settings that are accepted; that one stops the file.
pub record Stops (entries : List (ℕ × List ℕ)) (fault : LineFault) : Type 0 where
  pub before : List (ℕ × List ℕ)
  pub entry : ℕ × List ℕ
  pub after : List (ℕ × List ℕ)
  pub said : List (Numbered Setting)
  pub entries_are : entries ≡ before ++ entry ∷ after
  pub hold : AllZip (Holds Says) before said
  pub accepted : All Accepted said
  pub line_is : fault.line ≡ entry.0
  pub stops : StopsAt entry.1 fault.stop
