-- Statuses and reports: which number each refusal has, and what the report says.
use Rattle.std.specs.Prelude.{ℕ, Some, None, Ok, Err, Option, Result}
use Rattle.sources.specs.Faults.{fault_number}
use Rattle.settings.specs.Refusals.{setting_number}
use Rattle.recordings.specs.Refusals.{opening_number, opening_place}
use Rattle.recordings.specs.declared.refusal.OpeningRefusal.{OpeningRefusal}
use Rattle.recordings.specs.Pair as recordings
use Rattle.recordings.specs.declared.pair.Input as pair
use Rattle.capi.specs.declared.refusal.Input.{Input}
use Rattle.capi.specs.declared.refusal.Input.TheVariants.{Recording, Settings, Calls}
use Rattle.capi.specs.declared.refusal.Refusal.{Refusal}
use Rattle.capi.specs.declared.refusal.Refusal.TheVariants.{Opening, Setting, UnknownKind, WrongLine, Memory, Room}
use Rattle.capi.specs.declared.outcome.Outcome.{Outcome}
use Rattle.capi.specs.declared.report.Report.{Report}
use Rattle.sources.specs.Streams.{Ending}

-- the number by which a report names an input: recordings as their faults name them, up to 255; texts from 256 on
abbrev pub input_number : Input → ℕ
input_number (Recording which) = recordings.input_number which
input_number Settings = 256
input_number Calls = 257

-- the refusal of a recording that does not open
abbrev pub opening_of : pair.Input × OpeningRefusal → Refusal
opening_of (which, e) = Opening which e

-- the status of a refusal
abbrev pub refusal_number : Refusal → ℕ
refusal_number (Opening which e) = opening_number e
refusal_number (Setting line e) = setting_number e
refusal_number UnknownKind = 64
refusal_number (WrongLine input line) = 65
refusal_number Memory = 66
refusal_number (Room needed) = 67

-- the report of a refusal: the number of the input, and the place in it
abbrev pub refused_report : ℕ → ℕ → Report
refused_report input place = record { rate = 0; ended = 0; fault = 0; input = input; items = 0; item = 0; place = place }

-- the input's number where no input is meant
abbrev pub no_input : ℕ
no_input = 0

abbrev pub refusal_report : Refusal → Report
refusal_report (Opening which e) = refused_report (input_number (Recording which)) (opening_place e)
refusal_report (Setting line e) = refused_report (input_number Settings) line
refusal_report UnknownKind = refused_report no_input 0
refusal_report (WrongLine input line) = refused_report (input_number input) line
refusal_report Memory = refused_report no_input 0
refusal_report (Room needed) = refused_report no_input needed

-- the report of n items, which end so, if the end was met
abbrev pub items_report : ℕ → ℕ → Option Ending → Report
items_report rate n None = record { rate = rate; ended = 0; fault = 0; input = 0; items = n; item = 0; place = 0 }
items_report rate n (Some (Ok _)) = record { rate = rate; ended = 1; fault = 0; input = 0; items = n; item = 0; place = 0 }
items_report rate n (Some (Err f)) = record { rate = rate; ended = 1; fault = fault_number f.kind; input = f.input; items = n; item = f.item; place = 0 }

abbrev pub outcome_report : ℕ → Outcome → Report
outcome_report rate outcome = items_report rate outcome.items outcome.ending

-- the status of an answer: 0, or the refusal's number
abbrev pub status : Result Report Refusal → ℕ
status (Ok report) = 0
status (Err e) = refusal_number e

-- the report of an answer
abbrev pub report_of : Result Report Refusal → Report
report_of (Ok report) = report
report_of (Err e) = refusal_report e
