-- Why a settings file stops, in words.
use Rattle.std.specs.Prelude.{ℕ, List, ◌++◌, codes, decimal}
use Rattle.text.specs.Messages.{at_line, wrong_text}
use Rattle.settings.specs.Refusals.{setting_number, setting_text}
use Rattle.text.specs.declared.settings_file.fault.LineFault.{LineFault}
use Rattle.text.specs.declared.settings_file.fault.Stop.{Stop}
use Rattle.text.specs.declared.settings_file.fault.Stop.TheVariants.{Wrong, Refused}

-- what is wrong with the line, or the refusal by its number and its words
abbrev pub stop_text : Stop → List ℕ
stop_text (Wrong wrong) = wrong_text wrong
stop_text (Refused refusal) = codes "refused " ++ (decimal (setting_number refusal) ++ (codes ": " ++ setting_text refusal))

-- the line's number, and why it stops the file
abbrev pub line_fault_text : LineFault → List ℕ
line_fault_text fault = at_line fault.line (stop_text fault.stop)
