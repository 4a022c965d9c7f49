-- What a text makes, or which of its lines stops it.
use Rattle.std.specs.Prelude.{◌≡◌, ℕ, List, [], Ok, Err, Result}
use Rattle.std.specs.List.{AllZip}
use Rattle.text.specs.Entries.{FirstWrong, Holds, entries_of}
use Rattle.text.specs.declared.fault.Wrong as faults
use Rattle.text.specs.declared.fault.Wrong.TheVariants as wrongs
use Rattle.text.specs.declared.numbered.Numbered.{Numbered}
use Rattle.settings.specs.Fresh.{fresh}
use Rattle.settings.specs.declared.settings.Settings.{Settings}
use Rattle.text.specs.Files.{Makes, Stops}
use Rattle.text.specs.declared.settings_file.fault.LineFault.{LineFault}
use Rattle.text.specs.declared.settings_file.fault.Stop.{Stop}
use Rattle.text.specs.declared.settings_file.fault.Stop.TheVariants.{Wrong, Refused}
use Rattle.text.specs.Steps.{Says, Complains}
use Rattle.text.specs.declared.transcript.step.Step.{Step}
use Rattle.capi.specs.declared.refusal.Input.{Input}
use Rattle.capi.specs.declared.refusal.Input.TheVariants as inputs
use Rattle.capi.specs.declared.refusal.Refusal.{Refusal}
use Rattle.capi.specs.declared.refusal.Refusal.TheVariants.{Setting, WrongLine, Memory}

-- the refusal of a text that this line of it stops
abbrev pub stopped_at : Input → ℕ → Stop → Refusal
stopped_at input line (Refused e) = Setting line e
stopped_at input line (Wrong wrongs.Memory) = Memory
stopped_at input line (Wrong _) = WrongLine input line

-- A text of settings is refused for its first line that is wrong or refused.
pub record StopsSettings (text : List ℕ) (refusal : Refusal) : Type 0 where
  pub fault : LineFault
  pub stops : Stops (entries_of text) fault
  pub refusal_is : refusal ≡ stopped_at inputs.Settings fault.line fault.stop

-- the settings are those that the entries of the text make of fresh ones, in order
abbrev pub MakesSettings : List ℕ → Result Settings Refusal → Type 0
MakesSettings text (Ok settings) = Makes (entries_of text) fresh settings
MakesSettings text (Err refusal) = StopsSettings text refusal

-- What a text of settings makes. The empty text makes fresh settings, whatever memory there is.
pub record Settles (text : List ℕ) (settings : Result Settings Refusal) : Type 0 where
  pub empty : text ≡ [] → settings ≡ Ok fresh
  pub makes : MakesSettings text settings

-- A text of calls is refused for its first line that is wrong, or for which there is no memory.
pub record StopsCalls (text : List ℕ) (refusal : Refusal) : Type 0 where
  pub wrong : Numbered faults.Wrong
  pub first : FirstWrong Says Complains (entries_of text) wrong
  pub refusal_is : refusal ≡ stopped_at inputs.Calls wrong.line (Wrong wrong.held)

-- the steps are those that the entries of the text say, in order
abbrev pub SaysSteps : List ℕ → Result (List (Numbered Step)) Refusal → Type 0
SaysSteps text (Ok steps) = AllZip (Holds Says) (entries_of text) steps
SaysSteps text (Err refusal) = StopsCalls text refusal
