-- A text of answers, put into the caller's buffer.
use Rattle.std.specs.Prelude.{◌≡◌, ◌≢◌, ℕ, cond, List, [], length, None, Ok, Err, string_bytes, Result, nat_le}
use Rattle.samples.specs.declared.kinds.ConverterSample.{ConverterSample}
use Rattle.sources.specs.Streams.{Stream}
use Rattle.settings.specs.declared.settings.Settings.{Settings}
use Rattle.chain.specs.Chains.{played}
use Rattle.player.specs.Plain.{plain_run}
use Rattle.text.specs.Entries.{entries_of}
use Rattle.text.specs.declared.numbered.Numbered.{Numbered}
use Rattle.text.specs.Answers.{answer_lines}
use Rattle.text.specs.Steps.{asked_by}
use Rattle.text.specs.declared.transcript.step.Step.{Step}
use Rattle.recordings.specs.Bytes.{overwrite}
use Rattle.recordings.specs.Pair.{link_opening}
use Rattle.capi.specs.declared.refusal.Refusal.{Refusal}
use Rattle.capi.specs.declared.refusal.Refusal.TheVariants.{Memory, Room}
use Rattle.capi.specs.declared.report.Report.{Report}
use Rattle.capi.specs.declared.replaying.Transcript.{Transcript}
use Rattle.capi.specs.Playing.{BothOpened}
use Rattle.capi.specs.Reports.{items_report, opening_of, status, report_of}
use Rattle.capi.specs.Texts.{SaysSteps, Settles}

-- the lines of what the plain player of a whole answers to the steps
abbrev pub run_text : Stream ConverterSample → List (Numbered Step) → List ℕ
run_text w steps = answer_lines steps (plain_run w 0 (asked_by steps))

-- these bytes say the steps, and are written, at the rate; or there was no memory for them; where there are no steps, none is needed
abbrev pub Writes : List (Numbered Step) → ℕ → List ℕ → Result Transcript Refusal → Type 0
Writes steps rate text (Ok t) = (t.rate ≡ rate) × (string_bytes t.text ≡ text)
Writes steps rate text (Err e) = (e ≡ Memory) × (steps ≢ [])

-- the steps over both recordings, opened
abbrev pub TellsOpened : Settings → List (Numbered Step) → BothOpened → Result Transcript Refusal → Type 0
TellsOpened s steps (Err refused) t = t ≡ Err (opening_of refused)
TellsOpened s steps (Ok both) t = Writes steps both.0.rate (run_text (played s both.0.whole both.1.whole) steps) t

-- the steps that a text says, or why it says none
abbrev pub TellsSteps : Settings → Result (List (Numbered Step)) Refusal → List ℕ → List ℕ → Result Transcript Refusal → Type 0
TellsSteps s (Err e) signal gain t = t ≡ Err e
TellsSteps s (Ok steps) signal gain t = TellsOpened s steps (link_opening signal gain) t

-- the calls of a text under settings, or why there are no settings
abbrev pub Tells : Result Settings Refusal → List ℕ → List ℕ → List ℕ → Result Transcript Refusal → Type 0
Tells (Err e) calls signal gain t = t ≡ Err e
Tells (Ok s) calls signal gain t = (steps : Result (List (Numbered Step)) Refusal) × SaysSteps calls steps × TellsSteps s steps signal gain t

-- What the calls of one text answer, on the chain that the settings of another make: settings are tested first, then calls, then
-- the signal, then the gain recording. Out of memory is reported only where one of the texts has an entry.
pub record Replayed (settings calls signal gain : List ℕ) (transcript : Result Transcript Refusal) : Type 0 where
  pub made : Result Settings Refusal
  pub settled : Settles settings made
  pub tells : Tells made calls signal gain transcript
  pub memory : entries_of settings ≡ [] → entries_of calls ≡ [] → transcript ≢ Err Memory

-- the text in a buffer of len bytes: its length, or how many bytes are needed
abbrev pub put_answer : List ℕ → ℕ → Result ℕ Refusal
put_answer text len = cond (nat_le (length text) len) (Ok (length text)) (Err (Room (length text)))

-- the buffer then
abbrev pub after_put : List ℕ → List ℕ → List ℕ
after_put text out = cond (nat_le (length text) (length out)) (overwrite 0 text out) out

-- the report of so many bytes
abbrev pub written : ℕ → Result ℕ Refusal → Result Report Refusal
written rate (Ok n) = Ok (items_report rate n None)
written rate (Err e) = Err e

-- what a call answers for a text, or for why there is none
abbrev pub replay_answer : Result Transcript Refusal → ℕ → Result Report Refusal
replay_answer (Ok t) len = written t.rate (put_answer (string_bytes t.text) len)
replay_answer (Err e) len = Err e

abbrev pub after_replay : Result Transcript Refusal → List ℕ → List ℕ
after_replay (Ok t) out = after_put (string_bytes t.text) out
after_replay (Err e) out = out

-- A call that replays puts one text into the buffer, whole, or leaves the buffer as it was.
pub record Replays (settings calls signal gain out after : List ℕ) (report : Report) (answer : ℕ) : Type 0 where
  pub transcript : Result Transcript Refusal
  pub replayed : Replayed settings calls signal gain transcript
  pub status_is : answer ≡ status (replay_answer transcript (length out))
  pub report_is : report ≡ report_of (replay_answer transcript (length out))
  pub buffer_is : after ≡ after_replay transcript out
