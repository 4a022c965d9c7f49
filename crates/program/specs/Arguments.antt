-- Which words of the command line say which command, and what is wrong with words that say none.
use Rattle.std.specs.Prelude.{◌≡◌, ◌≢◌, ℕ, ◌<◌, List, [], ◌∷◌, length, codes, Option, Some, IfSome, IsSome, MatchOption, find, nat_eq, ◌⊎◌}
use Rattle.std.specs.List.{All}
use Rattle.std.specs.Option.{option_map, option_to_list}
use Rattle.std.specs.Str.{bytes_eq, chars}
use Rattle.strsim.specs.Edits.{levenshtein_row}
use Rattle.text.specs.Numbers.{unsigned}
use Rattle.recordings.specs.declared.pair.Input.{Input}
use Rattle.recordings.specs.declared.pair.Input.TheVariants.{Signal, Gain}
use Rattle.program.specs.declared.inputs.Inputs.{Inputs}
use Rattle.program.specs.declared.arguments.Command.{Command}
use Rattle.program.specs.declared.arguments.Command.TheVariants.{Demonstrate, Help, Version, Check, Copy, Chain}
use Rattle.program.specs.declared.arguments.Task.{Task}
use Rattle.program.specs.declared.arguments.Task.TheVariants.{Play, Replay, Bench}
use Rattle.program.specs.declared.failure.Failure.{Failure}
use Rattle.program.specs.declared.failure.Failure.TheVariants.{UnknownCommand, NearCommand, UnknownKind, WrongCount, WrongRuns, Memory}

-- the word for what a recording is opened as
abbrev pub kind_word : Input → List ℕ
kind_word Signal = codes "signal"
kind_word Gain = codes "gain"

-- the word spells a number from 1 to 2^32 - 1
abbrev pub SpellsRuns : List ℕ → ℕ → Type 0
SpellsRuns word runs = (unsigned 32 word ≡ Some runs) × (0 < runs)

-- the words behind a task's name: the recordings, the task's own word, and the settings' file if there is one
abbrev pub chain_words : Inputs → List ℕ → List (List ℕ)
chain_words inputs word =
    inputs.signal.now ∷ inputs.gain.now ∷ word ∷ option_to_list (option_map (λ file. file.now) inputs.settings)

-- the words say what is done with a chain
abbrev pub SaysTask : List (List ℕ) → Inputs → Task → Type 0
SaysTask words inputs (Play out) = words ≡ codes "play" ∷ chain_words inputs out.now
SaysTask words inputs (Replay calls) = words ≡ codes "replay" ∷ chain_words inputs calls.now
SaysTask words inputs (Bench runs) =
    (word : List ℕ) × (words ≡ codes "bench" ∷ chain_words inputs word) × SpellsRuns word runs

-- the words say the command; the names of its files are the words as they stand
abbrev pub Says : List (List ℕ) → Command → Type 0
Says words Demonstrate = words ≡ []
Says words Help = (words ≡ codes "help" ∷ []) ⊎ ((words ≡ codes "--help" ∷ []) ⊎ (words ≡ codes "-h" ∷ []))
Says words Version = (words ≡ codes "version" ∷ []) ⊎ ((words ≡ codes "--version" ∷ []) ⊎ (words ≡ codes "-V" ∷ []))
Says words (Check input file) = words ≡ codes "check" ∷ kind_word input ∷ file.now ∷ []
Says words (Copy from to) = words ≡ codes "copy" ∷ from.now ∷ to.now ∷ []
Says words (Chain inputs task) = SaysTask words inputs task

-- how the words of a command should be, and the fewest and the most of them behind its name
pub record Form : Type 0 where
  pub text : List ℕ
  pub fewest : ℕ
  pub most : ℕ

abbrev pub form_of : List ℕ → ℕ → ℕ → Form
form_of text fewest most = record { text = text; fewest = fewest; most = most }

-- the commands that have a name
abbrev pub forms : List (List ℕ × Form)
forms =
    (codes "help", form_of (codes "help") 0 0)
    ∷ (codes "version", form_of (codes "version") 0 0)
    ∷ (codes "check", form_of (codes "check signal|gain FILE") 2 2)
    ∷ (codes "copy", form_of (codes "copy IN OUT") 2 2)
    ∷ (codes "play", form_of (codes "play SIGNAL GAIN OUT [SETTINGS]") 3 4)
    ∷ (codes "replay", form_of (codes "replay SIGNAL GAIN CALLS [SETTINGS]") 3 4)
    ∷ (codes "bench", form_of (codes "bench SIGNAL GAIN RUNS [SETTINGS]") 3 4)
    ∷ []

-- the form of the command of this name, if there is one
abbrev pub form_named : List ℕ → Option Form
form_named word = option_map (λ f. f.1) (find (λ f. bytes_eq word f.0) forms)

-- the words are not one flag alone
abbrev pub IsNoFlag : List (List ℕ) → Type 0
IsNoFlag words = All (λ flag. words ≢ flag ∷ []) (codes "--help" ∷ codes "-h" ∷ codes "--version" ∷ codes "-V" ∷ [])

-- so many words do not fit the form
abbrev pub WrongLength : Form → ℕ → Failure → Type 0
WrongLength f count (WrongCount answered) = (answered.now ≡ f.text) × ((count < f.fewest) ⊎ (f.most < count))
WrongLength f count _ = ⊥

-- how many characters one name has wrong, missing or too much beside another
abbrev pub edits : List ℕ → List ℕ → ℕ
edits name other = levenshtein_row nat_eq (chars name) (chars other) (length (chars other))

-- a command has this name, which is near the other
abbrev pub IsNear : List ℕ → List ℕ → Type 0
IsNear name near = IsSome (form_named near) × (edits name near < 3)

-- the name is reported as unknown, a command being near or not, or there was no memory to look for one
abbrev pub Unknown : List ℕ → Failure → Type 0
Unknown name (UnknownCommand shown) = shown.0.now ≡ name
Unknown name (NearCommand shown near) = (shown.0.now ≡ name) × IsNear name near.now
Unknown name Memory = Unit {0}
Unknown name _ = ⊥

-- the word is nothing that a recording is opened as
abbrev pub NoKind : List ℕ → Failure → Type 0
NoKind word (UnknownKind shown) = (shown.0.now ≡ word) × (word ≢ codes "signal") × (word ≢ codes "gain")
NoKind word _ = ⊥

-- the word spells no number of runs
abbrev pub NoRuns : List ℕ → Failure → Type 0
NoRuns word (WrongRuns shown) = (shown.0.now ≡ word) × IfSome (unsigned 32 word) (λ runs. runs ≡ 0)
NoRuns word _ = ⊥

-- the number of words fits the name, and one of them is wrong: what a recording is opened as, or the number of runs
abbrev pub WrongWord : List ℕ → List (List ℕ) → Failure → Type 0
WrongWord name more failure =
    ((name ≡ codes "check") × (word : List ℕ) × (file : List ℕ) × (more ≡ word ∷ file ∷ []) × NoKind word failure)
    ⊎ ((name ≡ codes "bench") × (inputs : Inputs) × (word : List ℕ) × (more ≡ chain_words inputs word)
    × NoRuns word failure)

-- what is wrong with words that say no command: no command has the name, or what stands behind the name
abbrev pub Complains : List (List ℕ) → Failure → Type 0
Complains [] failure = ⊥
Complains (name ∷ more) failure =
    MatchOption (form_named name)
    (IsNoFlag (name ∷ more) × Unknown name failure)
    (λ f. WrongLength f (length more) failure ⊎ WrongWord name more failure)
