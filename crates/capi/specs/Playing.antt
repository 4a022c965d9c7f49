-- The standard chain, played over two recordings.
use Rattle.std.specs.Prelude.{◌≡◌, ℕ, List, length, Ok, Err, Result}
use Rattle.samples.specs.declared.kinds.ConverterSample.{ConverterSample}
use Rattle.samples.specs.declared.gain_index.GainIndex.{GainIndex}
use Rattle.sources.specs.Streams.{Stream}
use Rattle.sources.specs.Wholes.{each}
use Rattle.settings.specs.declared.settings.Settings.{Settings}
use Rattle.chain.specs.Chains.{played}
use Rattle.player.specs.Plain.{plain_buffer}
use Rattle.recordings.specs.declared.refusal.OpeningRefusal.{OpeningRefusal}
use Rattle.recordings.specs.Opening.{Opened}
use Rattle.recordings.specs.Pair.{link_opening}
use Rattle.recordings.specs.declared.pair.Input as pair
use Rattle.capi.specs.declared.refusal.Refusal.{Refusal}
use Rattle.capi.specs.declared.outcome.Iq.{Iq}
use Rattle.capi.specs.declared.report.Report.{Report}
use Rattle.capi.specs.Outcomes.{outcome_of}
use Rattle.capi.specs.Reports.{outcome_report, opening_of, status, report_of}
use Rattle.capi.specs.Texts.{Settles}

-- the two parts of a sample
abbrev pub parts : ConverterSample → Iq
parts x = record { re = x.re; im = x.im }

-- the buffer after it was filled from the start of a whole: the items that came, then what stood there
abbrev pub filled_from : Stream ConverterSample → List Iq → List Iq
filled_from w out = plain_buffer (each parts w) 0 out

-- both recordings, opened, or the first that does not open
abbrev pub BothOpened : Type 0
BothOpened = Result (Opened ConverterSample × Opened GainIndex) (pair.Input × OpeningRefusal)

-- n samples of the chain over both are wanted
abbrev pub play_opened : Settings → BothOpened → ℕ → Result Report Refusal
play_opened s (Err refused) n = Err (opening_of refused)
play_opened s (Ok both) n = Ok (outcome_report both.0.rate (outcome_of n (played s both.0.whole both.1.whole)))

-- the buffer then; where a recording does not open, it is as it was
abbrev pub after_opened : Settings → BothOpened → List Iq → List Iq
after_opened s (Err refused) out = out
after_opened s (Ok both) out = filled_from (played s both.0.whole both.1.whole) out

-- n samples of the chain over these bytes are wanted; settings that are refused are the answer
abbrev pub play_answer : Result Settings Refusal → List ℕ → List ℕ → ℕ → Result Report Refusal
play_answer (Err e) signal gain n = Err e
play_answer (Ok s) signal gain n = play_opened s (link_opening signal gain) n

abbrev pub after_play : Result Settings Refusal → List ℕ → List ℕ → List Iq → List Iq
after_play (Err e) signal gain out = out
after_play (Ok s) signal gain out = after_opened s (link_opening signal gain) out

-- A call that plays answers and leaves its buffer as the formulas have it, for the settings that the text makes.
pub record PlaysChain (text signal gain : List ℕ) (out after : List Iq) (report : Report) (answer : ℕ) : Type 0 where
  pub settings : Result Settings Refusal
  pub settled : Settles text settings
  pub status_is : answer ≡ status (play_answer settings signal gain (length out))
  pub report_is : report ≡ report_of (play_answer settings signal gain (length out))
  pub buffer_is : after ≡ after_play settings signal gain out
