-- What is reported, in words.
use Rattle.std.specs.Prelude.{ℕ, ◌*◌, ◌-◌, ◌^◌, ◌/◌, ◌%◌, min, max, List, [], ◌∷◌, ◌++◌, length, map, take, codes, decimal, string_bytes, Option, Some, None, Result, Ok, Err}
use Rattle.std.specs.Duration.{as_nanos}
use Rattle.samples.specs.declared.kinds.ConverterSample.{ConverterSample}
use Rattle.sources.specs.Faults.{at_item_text}
use Rattle.sources.specs.declared.fault.Fault.{Fault}
use Rattle.player.specs.Calls.{answered}
use Rattle.player.specs.Words.{player_fault_text}
use Rattle.player.specs.declared.calls.Answer.{Answer}
use Rattle.player.specs.declared.fault.PlayerFault.{PlayerFault}
use Rattle.recordings.specs.declared.pair.Input.{Input}
use Rattle.recordings.specs.declared.pair.Input.TheVariants.{Signal, Gain}
use Rattle.text.specs.Answers.{answer_lines}
use Rattle.text.specs.Lines.{feed}
use Rattle.text.specs.declared.numbered.Numbered.{Numbered}
use Rattle.text.specs.declared.transcript.step.Step.{Step}
use Rattle.program.specs.Arguments.{kind_word}
use Rattle.program.specs.Words.{ending_text, files_text, shown}
use Rattle.program.specs.declared.bench.Timed.{Timed}
use Rattle.program.specs.declared.check.Contents.{Contents}
use Rattle.program.specs.declared.copy.Copied.{Copied}
use Rattle.program.specs.declared.play.Played.{Played}
use Rattle.program.specs.declared.replay.Compared.{Compared}
use Rattle.program.specs.declared.replay.Difference.{Difference}
use Rattle.program.specs.declared.report.Report.{Report}
use Rattle.program.specs.declared.report.Report.TheVariants.{Checked, Copied as WasCopied, Played as WasPlayed, Replayed, Timed as WasTimed}

abbrev pub checked_text : List ℕ → Input → Contents → List ℕ
checked_text file input contents =
    shown file
    ++ (codes ": " ++ (kind_word input ++ (codes " recording, rate " ++ (decimal contents.rate
    ++ (codes ", " ++ (decimal contents.counted.items
    ++ (codes " samples, " ++ ending_text at_item_text contents.counted.ending)))))))

-- the ending of the recording that alone was played
abbrev pub recording_ending : Result Unit PlayerFault → Result Unit Fault
recording_ending (Ok _) = Ok tt
recording_ending (Err met) = Err met.fault

abbrev pub copied_text : Copied → List ℕ
copied_text copied =
    (files_text copied.to.now (string_bytes copied.last) copied.rate copied.written.files ++ feed ∷ [])
    ++ (codes "copied " ++ (decimal copied.written.samples
    ++ (codes " samples, " ++ ending_text at_item_text (recording_ending copied.written.ending))))

-- a line that says which recording ended first, if one did
abbrev pub first_ended_text : Option Input → List ℕ
first_ended_text (Some Signal) = codes "the signal ended first; the gain recording has more samples" ++ feed ∷ []
first_ended_text (Some Gain) = codes "the gain recording ended first; the signal has more samples" ++ feed ∷ []
first_ended_text None = []

-- the highest level, and how many samples are clipped
abbrev pub levels_text : ℕ → ℕ → List ℕ
levels_text highest clipped =
    codes "highest level "
    ++ (decimal highest ++ (codes " of 2048, " ++ (decimal clipped ++ (codes " samples clipped at the converter" ++ feed ∷ []))))

abbrev pub played_text : Played → List ℕ
played_text played =
    (files_text played.to.now (string_bytes played.last) played.rate played.written.files ++ feed ∷ [])
    ++ (levels_text played.written.levels.highest played.written.levels.clipped
    ++ (first_ended_text played.first_ended
    ++ (codes "played " ++ (decimal played.written.samples
    ++ (codes " samples, " ++ ending_text player_fault_text played.written.ending)))))

-- the block sizes 1, 61 and 4096 give the same, or where another size than 1 first differs
abbrev pub difference_text : ℕ → Option Difference → List ℕ
difference_text items None =
    codes "blocks of "
    ++ (decimal 1 ++ (codes ", " ++ (decimal 61 ++ (codes " and " ++ (decimal 4096 ++ (codes ": " ++ (decimal items ++ codes " items, alike")))))))
difference_text items (Some d) =
    codes "blocks of "
    ++ (decimal 1 ++ (codes " and of " ++ (decimal d.size ++ (codes ": they differ at place " ++ decimal d.place))))

abbrev pub compared_text : Compared → List ℕ
compared_text compared = difference_text compared.items compared.difference

-- the line of each call, then what came of the comparison
abbrev pub replayed_text : List (Numbered Step) → List (Answer ConverterSample) → Compared → List ℕ
replayed_text steps answers compared = answer_lines steps (map answered answers) ++ compared_text compared

-- the line of each call, but for the end of the last, where block sizes were not compared
abbrev pub answered_lines : List (Numbered Step) → List (Answer ConverterSample) → List ℕ
answered_lines steps answers =
    let lines = answer_lines steps (map answered answers) in
    take (length lines - 1) lines

-- tenths of a nanosecond an item, cut off
abbrev pub tenths_an_item : Timed → ℕ
tenths_an_item timed = min (as_nanos timed.time * 10) (2 ^ 128 - 1) / max timed.items 1

abbrev pub timed_text : Timed → List ℕ
timed_text timed =
    codes "bench: "
    ++ (decimal timed.items ++ (codes " items, " ++ (decimal (tenths_an_item timed / 10)
    ++ (codes "." ++ (decimal (tenths_an_item timed % 10) ++ (codes " ns per item, sum " ++ decimal timed.sum))))))

-- the usage, the kit and the demonstration are texts of their own
abbrev pub report_text : Report → Option (List ℕ)
report_text (Checked file input contents) = Some (checked_text file.now input contents)
report_text (WasCopied from copied) = Some (copied_text copied)
report_text (WasPlayed inputs played) = Some (played_text played)
report_text (Replayed steps answers (Some compared)) = Some (replayed_text steps.items answers.items compared)
report_text (Replayed steps answers None) = Some (answered_lines steps.items answers.items)
report_text (WasTimed inputs timed) = Some (timed_text timed)
report_text _ = None
