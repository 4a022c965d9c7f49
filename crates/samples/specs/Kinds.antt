-- The item that is nearest to given numbers, for each kind.
use Rattle.std.specs.Prelude.{ℕ, ◌≤◌, min, ℤ, pos, negsuc}
use Rattle.std.proofs.Common.{arith}
use Rattle.samples.specs.declared.gain_index.GainIndex.{GainIndex}
use Rattle.samples.specs.declared.kinds.ConverterSample.{ConverterSample}
use Rattle.samples.specs.declared.kinds.WorkingSample.{WorkingSample}
use Rattle.samples.specs.declared.kinds.AirSample.{AirSample}
use Rattle.samples.specs.Arithmetic.{clip}
use Rattle.samples.specs.Laws.{clip_within}

abbrev pub converter : ℤ → ℤ → ConverterSample
converter re im =
    record {
      re = clip 12 re;
      im = clip 12 im;
      re_within = clip_within 12 re;
      im_within = clip_within 12 im;
    }

abbrev pub working : ℤ → ℤ → WorkingSample
working re im = record { re = clip 16 re; im = clip 16 im }

-- the working sample 0
abbrev pub silent : WorkingSample
silent = record { re = pos 0; im = pos 0 }

abbrev pub air : ℤ → ℤ → AirSample
air re im = record { re = clip 32 re; im = clip 32 im }

-- the nearest of 0 to 127
abbrev pub nearest_index : ℤ → ℕ
nearest_index (pos n) = min n 127
nearest_index (negsuc n) = 0

pub nearest_index_within : (z : ℤ) → nearest_index z ≤ 127
nearest_index_within (pos n) = omega arith
nearest_index_within (negsuc n) = omega arith

abbrev pub gain_index : ℤ → GainIndex
gain_index z = record { index = nearest_index z; within = nearest_index_within z }
