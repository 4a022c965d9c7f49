-- Complex numbers, as pairs of real and imaginary part.
use Rattle.std.specs.Prelude.{ℤ, ◌+ℤ◌, ◌-ℤ◌, ◌*ℤ◌}

-- z times w
abbrev pub times : ℤ × ℤ → ℤ × ℤ → ℤ × ℤ
times z w = ((z.0 *ℤ w.0) -ℤ (z.1 *ℤ w.1), (z.0 *ℤ w.1) +ℤ (z.1 *ℤ w.0))
