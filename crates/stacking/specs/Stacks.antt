-- What stands over the tone, in its order.
use Rattle.std.specs.Prelude.{false}
use Rattle.samples.specs.Kinds.{working}
use Rattle.samples.specs.declared.kinds.WorkingSample.{WorkingSample}
use Rattle.sources.specs.Streams.{Stream}
use Rattle.stages.specs.ClockOffset.{clocked, clock_step}
use Rattle.sources.specs.Wholes.{each, transformed}
use Rattle.stages.specs.declared.clock_offset.ClockOffset.{ClockOffset}
use Rattle.stages.specs.DcOffset.{offset_by}
use Rattle.stages.specs.Multipath.{echoes, silence, used}
use Rattle.stages.specs.declared.dc_offset.Offset.{Offset}
use Rattle.stages.specs.declared.multipath.Paths.{Paths}

-- clock offset, then multipath, then DC offset
abbrev pub received : ClockOffset → Paths → Offset → Stream WorkingSample → Stream WorkingSample
received clock paths dc below =
    each (λ x. offset_by working dc x.re x.im)
    (transformed (echoes (used paths) silence)
    (clocked false (clock_step clock.c) below))
