-- What a call hands out of a source: how many of its items come to one that wants n, and its ending, if that is met.
use Rattle.std.specs.Prelude.{ℕ, ◌-◌, ◌^◌, cond, List, Ok, Err, Result, ◌==◌}
use Rattle.sources.specs.Streams.{Stream}
use Rattle.recordings.specs.declared.refusal.OpeningRefusal.{OpeningRefusal}
use Rattle.recordings.specs.Opening.{Opened, signal_opening, gain_opening}
use Rattle.recordings.specs.Pair.{input_number}
use Rattle.recordings.specs.declared.pair.Input.{Input}
use Rattle.recordings.specs.declared.pair.Input.TheVariants.{Signal, Gain}
use Rattle.recorder.specs.Sessions.{taken, met}
use Rattle.capi.specs.declared.refusal.Refusal.{Refusal}
use Rattle.capi.specs.declared.refusal.Refusal.TheVariants.{Opening, UnknownKind}
use Rattle.capi.specs.declared.outcome.Outcome.{Outcome}
use Rattle.capi.specs.declared.report.Report.{Report}
use Rattle.capi.specs.Reports.{outcome_report}

-- n items of the stream are wanted
abbrev pub outcome_of : {T : Type 0} → ℕ → Stream T → Outcome
outcome_of n w = record { items = taken n w; ending = met n w }

-- the most items that are counted: no recording holds more
abbrev pub most : ℕ
most = 2 ^ 32 - 1

-- an opened recording, counted to its end
abbrev pub examined : {T : Type 0} → Input → Result (Opened T) OpeningRefusal → Result Report Refusal
examined which (Ok o) = Ok (outcome_report o.rate (outcome_of most o.whole))
examined which (Err e) = Err (Opening which e)

-- the bytes, opened as the kind of recording that has this number
abbrev pub open_answer : ℕ → List ℕ → Result Report Refusal
open_answer kind b =
    cond (kind == input_number Signal) (examined Signal (signal_opening (input_number Signal) b))
    (cond (kind == input_number Gain) (examined Gain (gain_opening (input_number Gain) b))
    (Err UnknownKind))
