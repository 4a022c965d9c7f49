-- Places that are counted as far as a number of 64 bits goes.
use Rattle.std.specs.Prelude.{ℕ, ◌-◌, ◌^◌, min}

-- a place as it is counted: it stops at 2^63 - 1
abbrev pub stopped : ℕ → ℕ
stopped p = min p (2 ^ 63 - 1)
