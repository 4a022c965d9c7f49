-- The files that hold one signal.
use Rattle.std.specs.Prelude.{◌≡◌, ℕ, ◌+◌, ◌-◌, ◌*◌, ◌/◌, ◌^◌, max, min, if◌then◌else◌, ◌==◌, List, [], ◌∷◌, ◌++◌, length, take, drop, Option}
use Rattle.std.specs.Option.{option_map}
use Rattle.samples.specs.declared.kinds.ConverterSample.{ConverterSample}
use Rattle.sources.specs.Streams.{tabulate}
use Rattle.recorder.specs.Writing.{recorded}
use Rattle.program.specs.Names.{numbered}

-- the bytes of a finished recording
unfoldable pub recording_of : ℕ → List ConverterSample → List ℕ
recording_of rate xs = recorded rate xs

-- a file: its name and its bytes
abbrev pub File : Type 0
File = List ℕ × List ℕ

-- these files were written, where a list is kept
abbrev pub Adds : List File → Option (List File) → Option (List File) → Type 0
Adds files before after = after ≡ option_map (λ all. all ++ files) before

-- how many files n samples take, 16373 in each; none takes one too
abbrev pub files_for : ℕ → ℕ
files_for n = max 1 ((n + 16372) / 16373)

-- as many files as are counted; more are refused
abbrev pub counted_files : ℕ → ℕ
counted_files n = min (files_for n) (2 ^ 32 - 1)

-- the samples of file k, from 0
abbrev pub part_of : List ConverterSample → ℕ → List ConverterSample
part_of xs k = take 16373 (drop (k * 16373) xs)

abbrev pub file_of : List ℕ → ℕ → List ConverterSample → ℕ → File
file_of to rate xs k = (numbered to (k + 1), recording_of rate (part_of xs k))

-- all files of a signal
abbrev pub files_of : List ℕ → ℕ → List ConverterSample → List File
files_of to rate xs = tabulate (file_of to rate xs) 0 (files_for (length xs))

-- what is written at the end, when n files were: the first file, if there is none
abbrev pub closing : List ℕ → ℕ → ℕ → List File
closing to rate n = if n == 0 then (numbered to 1, recording_of rate []) ∷ [] else []
