-- A tone: a complex number of constant size that turns at a constant rate, 16384 for 1.
use Rattle.std.specs.Prelude.{ℕ, ◌-◌, ◌*◌, ◌%◌, Err}
use Rattle.samples.specs.Kinds.{working}
use Rattle.samples.specs.Phasors.{phasor_of}
use Rattle.samples.specs.declared.kinds.WorkingSample.{WorkingSample}
use Rattle.sources.specs.Streams.{Ending, Stream, tabulate}
use Rattle.sources.specs.declared.fault.FaultKind.TheVariants.{Other}

-- sample k, where a sample turns it by `turn` of 1024 parts of a turn
abbrev pub tone_sample : ℕ → ℕ → WorkingSample
tone_sample turn k = working (phasor_of (k * turn % 1024)).0 (phasor_of (k * turn % 1024)).1

-- it ends with its own fault: number 100, input 7, at the item behind its last
abbrev pub tone_ending : ℕ → Ending
tone_ending length = Err (record { kind = Other 100; input = 7; item = length })

-- the samples from place p on
abbrev pub tone_from : ℕ → ℕ → ℕ → Stream WorkingSample
tone_from turn length p = record { items = tabulate (tone_sample turn) p (length - p); ending = tone_ending length }

-- all of it
abbrev pub tone : ℕ → ℕ → Stream WorkingSample
tone turn length = tone_from turn length 0
