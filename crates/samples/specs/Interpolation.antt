-- Interpolation on a straight line.
use Rattle.std.specs.Prelude.{ℕ, ◌^◌, ℤ, pos, ◌+ℤ◌, ◌-ℤ◌, ◌*ℤ◌}
use Rattle.samples.specs.Arithmetic.{floor_by}

-- a + floor ((b - a) × part / 2 ^ bits)
abbrev pub linear : ℤ → ℤ → ℕ → ℕ → ℤ
linear a b part bits = a +ℤ floor_by ((b -ℤ a) *ℤ pos part) (2 ^ bits)
