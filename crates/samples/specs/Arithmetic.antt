-- Whole numbers of a fixed width: rounding down and clipping.
use Rattle.std.specs.Prelude.{ℕ, ◌-◌, ◌/◌, ◌^◌, min, ℤ, pos, negsuc, ◌≤ℤ◌}

-- the greatest whole number that is at most z / m
abbrev pub floor_by : ℤ → ℕ → ℤ
floor_by (pos a) m = pos (a / m)
floor_by (negsuc a) m = negsuc (a / m)

-- the lowest number of n bits, - 2 ^ (n - 1)
abbrev pub lowest : ℕ → ℤ
lowest n = negsuc (2 ^ (n - 1) - 1)

-- the highest number of n bits
abbrev pub highest : ℕ → ℤ
highest n = pos (2 ^ (n - 1) - 1)

-- z is a number of n bits
abbrev pub Within : ℕ → ℤ → Type 0
Within n z = (lowest n ≤ℤ z) × (z ≤ℤ highest n)

-- the number of n bits that is nearest to z
abbrev pub clip : ℕ → ℤ → ℤ
clip n (pos a) = pos (min a (2 ^ (n - 1) - 1))
clip n (negsuc a) = negsuc (min a (2 ^ (n - 1) - 1))
