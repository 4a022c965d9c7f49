-- What noise and a clock offset mean by their whole and their left, from their own state and from what the source below means.
use Rattle.std.specs.Prelude.{ℕ, List, Some, None, Option}
use Rattle.samples.specs.declared.kinds.AirSample.{AirSample}
use Rattle.samples.specs.declared.kinds.WorkingSample.{WorkingSample}
use Rattle.sources.specs.Streams.{Stream}
use Rattle.stages.specs.ClockOffset.{index, outputs, outputs_from}
use Rattle.stages.specs.Noise.{noise}
use Rattle.sources.specs.Wholes.{transformed}
use Rattle.stages.specs.declared.clock_offset.Clock.{Clock}
use Rattle.stages.specs.declared.clock_offset.Line.{Line}
use Rattle.stages.specs.declared.noise.Noise.{Noise}

-- noise: from the seeds, and from the generators' states
abbrev pub noise_whole : Noise → Stream AirSample
noise_whole s = noise s.count s.seeds.re s.seeds.im

abbrev pub noise_left : Noise → Stream AirSample
noise_left s = noise s.remaining s.re s.im

-- how many items the next output needs; a bypassed clock has no line, and each item is an output
abbrev pub needed : Option Line → ℕ
needed None = 1
needed (Some l) = index l.position

-- the outputs on a line, with the items to come
abbrev pub outputs_on : Line → List WorkingSample → List WorkingSample
outputs_on l = outputs_from l.step l.before l.last l.position

-- what a line makes from its start, and from where it stands; without a line everything passes
abbrev pub line_whole : Option Line → Stream WorkingSample → Stream WorkingSample
line_whole None s = s
line_whole (Some l) s = transformed (outputs l.step) s

abbrev pub line_left : Option Line → Stream WorkingSample → Stream WorkingSample
line_left None s = s
line_left (Some l) s = transformed (outputs_on l) s

-- a clock offset: from the start, and from where its line stands
abbrev pub clock_whole : {S : Type 0} → (S → Stream WorkingSample) → Clock S → Stream WorkingSample
clock_whole whole s = line_whole s.line (whole s.below)

abbrev pub clock_left : {S : Type 0} → (S → Stream WorkingSample) → Clock S → Stream WorkingSample
clock_left left s = line_left s.line (left s.below)
