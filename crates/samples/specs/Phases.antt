-- Phases, and the phasor that stands for each.
use Rattle.std.specs.Prelude.{ℕ, ◌-◌, ◌/◌, ◌%◌, ◌^◌, ℤ, pos, negsuc}

-- z mod m, from 0 to m - 1
abbrev pub modulo : ℤ → ℕ → ℕ
modulo (pos a) m = a % m
modulo (negsuc a) m = m - 1 - a % m

-- the index of the phasor for a phase of 2 ^ 48 a turn
unfoldable pub index_48 : ℕ → ℕ
index_48 phase = phase % 2 ^ 48 / 2 ^ 38

-- the index of the phasor for a phase of 65536 a turn
unfoldable pub index_16 : ℤ → ℕ
index_16 phase = modulo phase 65536 / 64
