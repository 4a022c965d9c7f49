-- The receiver's converter, from air samples to converter samples.
use Rattle.std.specs.Prelude.{◌^◌}
use Rattle.samples.specs.Arithmetic.{floor_by}
use Rattle.samples.specs.Kinds.{converter}
use Rattle.samples.specs.declared.kinds.AirSample.{AirSample}
use Rattle.samples.specs.declared.kinds.ConverterSample.{ConverterSample}

-- what the receiver's converter gives: each part over 2^4, rounded down
abbrev pub quantized : AirSample → ConverterSample
quantized x = converter (floor_by x.re (2 ^ 4)) (floor_by x.im (2 ^ 4))
