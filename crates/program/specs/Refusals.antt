-- What a failure says of the run: whether a recording was refused, and whether files may have been written before.
use Rattle.std.specs.Prelude.{ℕ, List, Bool, true, false, Some, None, Option, Result, Ok, Err}
use Rattle.recordings.specs.declared.pair.Input.{Input}
use Rattle.recordings.specs.declared.refusal.OpeningRefusal.{OpeningRefusal}
use Rattle.program.specs.Inputs.{file_of}
use Rattle.program.specs.declared.inputs.Inputs.{Inputs}
use Rattle.program.specs.declared.failure.Failure.{Failure}
use Rattle.program.specs.declared.failure.Failure.TheVariants.{Refused, Settings, Calls, Writing, NotRecorded, TooManyFiles, Printing, Memory}

-- the file that did not open as a recording, and why
abbrev pub refusal_in : Failure → Option (List ℕ × OpeningRefusal)
refusal_in (Refused file refused) = Some (file.now, refused.0)
refusal_in _ = None

-- the failure is an answer about a file
abbrev pub is_answer : Failure → Bool
is_answer (Refused file refused) = true
is_answer (Settings file fault) = true
is_answer (Calls file wrong) = true
is_answer _ = false

-- the failure may come after files were written
abbrev pub is_late : Failure → Bool
is_late (Writing name error) = true
is_late (NotRecorded refusal) = true
is_late TooManyFiles = true
is_late (Printing error) = true
is_late Memory = true
is_late _ = false

-- the writer of recordings refused
abbrev pub is_refused_by_writer : Failure → Bool
is_refused_by_writer (NotRecorded refusal) = true
is_refused_by_writer _ = false

-- the refusal of the recording in a file, and of the first of two recordings
abbrev pub refusal_of : {T : Type 0} → List ℕ → Result T OpeningRefusal → Option (List ℕ × OpeningRefusal)
refusal_of file (Ok _) = None
refusal_of file (Err e) = Some (file, e)

abbrev pub refusal_of_link : {T : Type 0} → Inputs → Result T (Input × OpeningRefusal) → Option (List ℕ × OpeningRefusal)
refusal_of_link inputs (Ok _) = None
refusal_of_link inputs (Err e) = Some (file_of inputs e.0, e.1)
