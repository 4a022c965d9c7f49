-- Which file of a chain is which.
use Rattle.std.specs.Prelude.{ℕ, List, if◌then◌else◌, ◌==◌}
use Rattle.recordings.specs.declared.pair.Input.{Input}
use Rattle.recordings.specs.declared.pair.Input.TheVariants.{Signal, Gain}
use Rattle.program.specs.declared.inputs.Inputs.{Inputs}

-- the file of a recording
abbrev pub file_of : Inputs → Input → List ℕ
file_of inputs Signal = inputs.signal.now
file_of inputs Gain = inputs.gain.now

-- the file of the recording with this input number: 0 is the signal's, every other the gain's
abbrev pub file_numbered : Inputs → ℕ → List ℕ
file_numbered inputs n = if n == 0 then inputs.signal.now else inputs.gain.now
