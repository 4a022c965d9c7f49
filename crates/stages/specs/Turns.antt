-- Turning a sample by a phasor.
use Rattle.std.specs.Prelude.{ℕ, ◌^◌, ℤ}
use Rattle.samples.specs.Arithmetic.{floor_by}
use Rattle.samples.specs.Complex.{times}
use Rattle.samples.specs.Kinds.{working}
use Rattle.samples.specs.declared.kinds.WorkingSample.{WorkingSample}

-- the complex product of a sample and a phasor, cosine and sine, as whole numbers: 16384 times the turned sample
unfoldable pub turned : WorkingSample → ℤ × ℤ → ℤ × ℤ
turned x p = times (x.re, x.im) p

-- the working sample of two numbers after division by 2 ^ d, each rounded down and clipped
abbrev pub divided : ℤ × ℤ → ℕ → WorkingSample
divided p d = working (floor_by p.0 (2 ^ d)) (floor_by p.1 (2 ^ d))
