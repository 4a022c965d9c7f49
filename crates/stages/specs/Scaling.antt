-- Scaling, from converter samples to working samples.
use Rattle.std.specs.Prelude.{ℕ, ◌^◌, ℤ, pos, ◌*ℤ◌}
use Rattle.samples.specs.Arithmetic.{floor_by}
use Rattle.samples.specs.Kinds.{working}
use Rattle.samples.specs.declared.kinds.ConverterSample.{ConverterSample}
use Rattle.samples.specs.declared.kinds.WorkingSample.{WorkingSample}

-- x times f / 2^8, rounded down
abbrev pub scaled_part : ℕ → ℤ → ℤ
scaled_part f x = floor_by (x *ℤ pos f) (2 ^ 8)

-- scaling by the factor f, 256 for 1
abbrev pub scaled : ℕ → ConverterSample → WorkingSample
scaled f x = working (scaled_part f x.re) (scaled_part f x.im)
