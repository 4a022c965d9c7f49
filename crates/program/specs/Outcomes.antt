-- What is reported of a signal that was written.
use Rattle.std.specs.Prelude.{◌≡◌, ℕ, ◌≤◌, Bool, true, false, length, List, [], ◌∷◌, None, Option, Result, Ok, Err, string_bytes}
use Rattle.samples.specs.declared.kinds.ConverterSample.{ConverterSample}
use Rattle.samples.specs.declared.gain_index.GainIndex.{GainIndex}
use Rattle.sources.specs.Streams.{Stream}
use Rattle.settings.specs.declared.settings.Settings.{Settings}
use Rattle.chain.specs.Chains.{played}
use Rattle.player.specs.Plain.{ending_answer}
use Rattle.recordings.specs.Opening.{Opened}
use Rattle.recordings.specs.Rates.{good_rate}
use Rattle.recorder.specs.Writing.{recorded}
use Rattle.program.specs.Files.{Adds, File, counted_files, files_for, files_of}
use Rattle.program.specs.Levels.{levels_of}
use Rattle.program.specs.Names.{Clears, Spares, SparesAll, numbered}
use Rattle.program.specs.Refusals.{is_refused_by_writer, refusal_in}
use Rattle.program.specs.Sides.{first_ended, sides_of}
use Rattle.program.specs.declared.failure.Failure.{Failure}
use Rattle.program.specs.declared.inputs.Inputs.{Inputs}
use Rattle.program.specs.declared.copy.Copied.{Copied}
use Rattle.program.specs.declared.play.Played.{Played}
use Rattle.program.specs.declared.written.Written.{Written}

-- the files, the samples and the levels of all items, and the ending, which the player meets behind them
abbrev pub written_of : Stream ConverterSample → Written
written_of w = record {
  files = files_for (length w.items);
  samples = length w.items;
  levels = levels_of w.items;
  ending = ending_answer w.ending (length w.items) tt;
}

-- This came of the chain over both recordings, and these files were written.
pub record PlaysBoth (s : Settings) (signal : Opened ConverterSample) (gain : Opened GainIndex) (to : List ℕ)
    (before after : Option (List File)) (answer : Played) : Type 0 where
  pub named : answer.to.now ≡ to
  pub rate : answer.rate ≡ signal.rate
  pub written : answer.written ≡ written_of (played s signal.whole gain.whole)
  pub files : Adds (files_of to signal.rate (played s signal.whole gain.whole).items) before after
  pub last : string_bytes answer.last ≡ numbered to answer.written.files
  pub first : answer.first_ended ≡ first_ended answer.written.ending (sides_of s signal.whole gain.whole)

-- Recordings that do not open are not played.
abbrev pub Plays : {E : Type 0} → Settings → Result (Opened ConverterSample × Opened GainIndex) E → List ℕ
    → Option (List File) → Option (List File) → Played → Type 0
Plays s (Ok both) to before after answer = PlaysBoth s both.0 both.1 to before after answer
Plays s (Err e) to before after answer = ⊥

-- how many files the chain over both recordings takes; none is written where one does not open
abbrev pub files_taken : {E : Type 0} → Settings → Result (Opened ConverterSample × Opened GainIndex) E → ℕ
files_taken s (Ok both) = counted_files (length (played s both.0.whole both.1.whole).items)
files_taken s (Err e) = 0

-- This came of a recording that was copied, and these files were written.
pub record CopiesAll (recording : Opened ConverterSample) (to : List ℕ)
    (before after : Option (List File)) (answer : Copied) : Type 0 where
  pub named : answer.to.now ≡ to
  pub rate : answer.rate ≡ recording.rate
  pub written : answer.written ≡ written_of recording.whole
  pub files : Adds (files_of to recording.rate recording.whole.items) before after
  pub last : string_bytes answer.last ≡ numbered to answer.written.files

abbrev pub Copies : {E : Type 0} → Result (Opened ConverterSample) E → List ℕ
    → Option (List File) → Option (List File) → Copied → Type 0
Copies (Ok recording) to before after answer = CopiesAll recording to before after answer
Copies (Err e) to before after answer = ⊥

-- A recording of the shape that we write, up to 65,536 bytes long, is copied to one file, which has every byte of it.
abbrev pub KeepsBytes : List ℕ → List ℕ → Option (List File) → Option (List File) → Type 0
KeepsBytes b to before after =
    (rate : ℕ) (xs : List ConverterSample) → good_rate rate ≡ true → b ≡ recorded rate xs → length b ≤ 65536
    → Adds ((to, b) ∷ []) before after

-- and it is never refused, by opening or by the writer
abbrev pub AcceptsOwn : List ℕ → Failure → Type 0
AcceptsOwn b e =
    (rate : ℕ) (xs : List ConverterSample) → good_rate rate ≡ true → b ≡ recorded rate xs → length b ≤ 65536
    → (refusal_in e ≡ None) × (is_refused_by_writer e ≡ false)

abbrev pub copied_files : {E : Type 0} → Result (Opened ConverterSample) E → ℕ
copied_files (Ok recording) = counted_files (length recording.whole.items)
copied_files (Err e) = 0

-- This came of it, and the host reported of none of the files that it is an input, or something else than a recording.
abbrev pub PlaysSparing : {E : Type 0} → (List ℕ → List ℕ → Bool → Type 0) → (List ℕ → Bool → Type 0) → Inputs → List ℕ
    → Option (List File) → Option (List File) → Played → Settings → Result (Opened ConverterSample × Opened GainIndex) E
    → Type 0
PlaysSparing same other inputs to before after answer s both =
    Plays s both to before after answer × SparesAll same other inputs to (files_taken s both)

abbrev pub CopiesSparing : {E : Type 0} → (List ℕ → List ℕ → Bool → Type 0) → (List ℕ → Bool → Type 0) → List ℕ
    → Result (Opened ConverterSample) E → List ℕ → Option (List File) → Option (List File) → Copied → Type 0
CopiesSparing same other from opening to before after answer =
    Copies opening to before after answer
    × Spares same from to (copied_files opening)
    × Clears other to (copied_files opening)
