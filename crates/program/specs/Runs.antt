-- What a run does for a command, and what it reports.
use Rattle.std.specs.Prelude.{◌≡◌, ◌≢◌, ℕ, Bool, List, [], map, max, ◌⊎◌, Option, Some, None, MatchOption, Result, Ok, Err}
use Rattle.std.specs.List.{AllZip}
use Rattle.std.specs.Option.{option_map}
use Rattle.samples.specs.declared.kinds.ConverterSample.{ConverterSample}
use Rattle.samples.specs.declared.gain_index.GainIndex.{GainIndex}
use Rattle.sources.specs.Streams.{Stream}
use Rattle.settings.specs.Fresh.{fresh}
use Rattle.settings.specs.declared.settings.Settings.{Settings}
use Rattle.chain.specs.Chains.{played}
use Rattle.player.specs.Calls.{answered}
use Rattle.player.specs.Plain.{plain_run}
use Rattle.recordings.specs.Opening.{Opened, signal_opening}
use Rattle.recordings.specs.Pair.{link_opening}
use Rattle.recordings.specs.declared.pair.Input.{Input}
use Rattle.recordings.specs.declared.refusal.OpeningRefusal.{OpeningRefusal}
use Rattle.text.specs.Entries.{Holds, entries_of}
use Rattle.text.specs.Files.{Makes}
use Rattle.text.specs.Steps.{Says as SaysStep, asked_by}
use Rattle.text.specs.declared.numbered.Numbered.{Numbered}
use Rattle.text.specs.declared.transcript.step.Step.{Step}
use Rattle.program.specs.Arguments.{Complains, Says}
use Rattle.program.specs.Bench.{TimedOf}
use Rattle.program.specs.Comparing.{alike}
use Rattle.program.specs.Contents.{checked}
use Rattle.program.specs.Files.{File}
use Rattle.program.specs.Outcomes.{CopiesSparing, KeepsBytes, PlaysSparing}
use Rattle.program.specs.Refusals.{refusal_in, refusal_of, refusal_of_link}
use Rattle.program.specs.Words.{without_mark}
use Rattle.program.specs.declared.arguments.Command.{Command}
use Rattle.program.specs.declared.arguments.Command.TheVariants.{Demonstrate, Help, Version, Check, Copy, Chain}
use Rattle.program.specs.declared.arguments.Task.{Task}
use Rattle.program.specs.declared.arguments.Task.TheVariants.{Play, Replay, Bench}
use Rattle.program.specs.declared.failure.Failure.{Failure}
use Rattle.program.specs.declared.inputs.Inputs.{Inputs}
use Rattle.program.specs.declared.report.Report.{Report}
use Rattle.program.specs.declared.report.Report.TheVariants.{Usage, Version as NamesKit, Demonstrated, Checked, Copied, Played, Replayed, Timed as WasTimed}

-- which bytes may have been read under a name
abbrev pub MayRead : Type 1
MayRead = List ℕ → List ℕ → Type 0

-- what may be reported of whether an input and a name lead to one file
abbrev pub MaySaySame : Type 1
MaySaySame = List ℕ → List ℕ → Bool → Type 0

-- what may be reported of whether something else than a recording lies under a name
abbrev pub MaySayOther : Type 1
MaySayOther = List ℕ → Bool → Type 0

-- the settings that a file makes of fresh ones, or fresh ones without a file
abbrev pub Chosen : MayRead → Option (List ℕ) → Settings → Type 0
Chosen read None s = s ≡ fresh
Chosen read (Some file) s = (b : List ℕ) × read file b × Makes (entries_of (without_mark b)) fresh s

-- the calls that a file holds
abbrev pub Called : MayRead → List ℕ → List (Numbered Step) → Type 0
Called read file steps = (b : List ℕ) × read file b × AllZip (Holds SaysStep) (entries_of (without_mark b)) steps

-- both recordings of a link, opened
abbrev pub Link : Type 0
Link = Result (Opened ConverterSample × Opened GainIndex) (Input × OpeningRefusal)

-- this holds of settings and of recordings that the files of a chain may hold
abbrev pub OfInputs : MayRead → Inputs → (Settings → Link → Type 0) → Type 0
OfInputs read inputs P = (s : Settings) × (signal : List ℕ) × (gain : List ℕ)
    × Chosen read (option_map (λ file. file.now) inputs.settings) s
    × read inputs.signal.now signal
    × read inputs.gain.now gain
    × P s (link_opening signal gain)

-- this holds of the chain over recordings that open
abbrev pub OfChain : (Stream ConverterSample → Type 0) → Settings → Link → Type 0
OfChain P s (Ok both) = P (played s both.0.whole both.1.whole)
OfChain P s (Err e) = ⊥

-- These steps, the answers to their calls in order, and that the block size makes no difference. The last is missing where
-- there was no memory to compare block sizes, which only a run with steps reports; its status is 1.
abbrev pub Replays : List (Numbered Step) → Report → Stream ConverterSample → Type 0
Replays steps (Replayed made answers compared) w =
    (made.items ≡ steps)
    × (map answered answers.items ≡ plain_run w 0 (asked_by steps))
    × MatchOption compared (steps ≢ []) (λ c. c ≡ alike w)
Replays steps _ w = ⊥

-- so many runs, and what was timed of them
abbrev pub Times : Inputs → ℕ → Report → Stream ConverterSample → Type 0
Times inputs runs (WasTimed named timed) w = (named ≡ inputs) × (timed.runs ≡ max 1 runs) × TimedOf w timed
Times inputs runs _ w = ⊥

-- what is done with a chain, and what is reported of it
abbrev pub DoesTask : MayRead → MaySaySame → MaySayOther → Option (List File) → Option (List File) → Inputs → Task → Report → Type 0
DoesTask read same other before after inputs (Play to) (Played named answer) =
    (named ≡ inputs)
    × OfInputs read inputs (PlaysSparing same other inputs to.now before after answer)
DoesTask read same other before after inputs (Play to) _ = ⊥
DoesTask read same other before after inputs (Replay calls) report =
    (after ≡ before)
    × ((steps : List (Numbered Step)) × Called read calls.now steps × OfInputs read inputs (OfChain (Replays steps report)))
DoesTask read same other before after inputs (Bench runs) report =
    (after ≡ before) × OfInputs read inputs (OfChain (Times inputs runs report))

-- what is done for a command, and what is reported of it
abbrev pub Does : MayRead → MaySaySame → MaySayOther → Option (List File) → Option (List File) → Command → Report → Type 0
Does read same other before after Demonstrate (Demonstrated text) = after ≡ before
Does read same other before after Help Usage = after ≡ before
Does read same other before after Version NamesKit = after ≡ before
Does read same other before after (Check input file) (Checked named kind contents) =
    (after ≡ before)
    × (named.now ≡ file.now)
    × (kind ≡ input)
    × ((b : List ℕ) × read file.now b × (checked input b ≡ Ok contents))
Does read same other before after (Copy from to) (Copied named answer) =
    (named.now ≡ from.now)
    × ((b : List ℕ) × read from.now b × CopiesSparing same other from.now (signal_opening 0 b) to.now before after answer
    × KeepsBytes b to.now before after)
Does read same other before after (Chain inputs task) report = DoesTask read same other before after inputs task report
Does read same other before after _ _ = ⊥

-- the words say a command, and it is done and reported
abbrev pub Reports : MayRead → MaySaySame → MaySayOther → List (List ℕ) → Option (List File) → Option (List File) → Report → Type 0
Reports read same other words before after report = (command : Command) × Says words command × Does read same other before after command report

-- no recording is refused, or one for what may have been read under its name
abbrev pub Refuses : MayRead → Command → Failure → Type 0
Refuses read Demonstrate e = Unit {0}
Refuses read (Check input file) e =
    (refusal_in e ≡ None)
    ⊎ ((b : List ℕ) × read file.now b × (refusal_in e ≡ refusal_of file.now (checked input b)))
Refuses read (Copy from to) e =
    (refusal_in e ≡ None)
    ⊎ ((b : List ℕ) × read from.now b × (refusal_in e ≡ refusal_of from.now (signal_opening 0 b)))
Refuses read (Chain inputs task) e =
    (refusal_in e ≡ None)
    ⊎ ((signal : List ℕ) × (gain : List ℕ) × read inputs.signal.now signal × read inputs.gain.now gain
    × (refusal_in e ≡ refusal_of_link inputs (link_opening signal gain)))
Refuses read _ e = ⊥

-- the words say no command, or they say one that is not carried out
abbrev pub Fails : MayRead → List (List ℕ) → Failure → Type 0
Fails read words e = Complains words e ⊎ ((command : Command) × Says words command × Refuses read command e)
