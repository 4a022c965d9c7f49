-- The amplifier: amplitude and phase by the magnitude of the sample, from a table of 513 entries.
use Rattle.std.specs.Prelude.{ℕ, zero, suc, ◌+◌, ◌-◌, ◌*◌, ◌/◌, min, List, ℤ, pos, ◌*ℤ◌, slice_index_or, unsigned_abs}
use Rattle.std.proofs.Common.{arith}
use Rattle.samples.specs.Interpolation.{linear}
use Rattle.samples.specs.Phases.{index_16}
use Rattle.samples.specs.Phasors.{phasor_of}
use Rattle.samples.specs.Roots.{root}
use Rattle.samples.specs.declared.kinds.WorkingSample.{WorkingSample}
use Rattle.stages.specs.declared.amplifier.Entry.{Entry}
use Rattle.stages.specs.Turns.{turned, divided}

-- re² + im²
abbrev pub power : WorkingSample → ℕ
power x = unsigned_abs x.re * unsigned_abs x.re + unsigned_abs x.im * unsigned_abs x.im

-- m: the greatest whole number with m × m at most re² + im², but at most 32768
unfoldable pub magnitude : WorkingSample → ℕ
magnitude x = min (root (power x)) 32768

-- a + floor ((b - a) × r / 64); at r = 0 only a counts
unfoldable pub interpolated : ℤ → ℤ → ℕ → ℤ
interpolated a b zero = a
interpolated a b (suc r) = linear a b (suc r) 6

-- where the table has no entry
pub no_entry : Entry
no_entry = record { amplitude = 0; phase = pos 0; amplitude_within = omega arith }

-- A_q and φ_q
abbrev pub amplitude_of : List Entry → ℕ → ℤ
amplitude_of table q = pos (slice_index_or table q no_entry).amplitude

abbrev pub phase_of : List Entry → ℕ → ℤ
phase_of table q = (slice_index_or table q no_entry).phase

-- a number of the table at the magnitude m, with q = floor (m / 64) and r = m - 64 q
abbrev pub at_magnitude : (ℕ → ℤ) → ℕ → ℤ
at_magnitude entry m =
    interpolated (entry (m / 64)) (entry (m / 64 + 1)) (m - 64 * (m / 64))

-- the sample turned by the phase and scaled by the amplitude, 32768 for 1, of its magnitude
unfoldable pub amplified : List Entry → WorkingSample → WorkingSample
amplified table x =
    let a : ℤ = at_magnitude (amplitude_of table) (magnitude x) in
    let p : ℤ × ℤ = turned x (phasor_of (index_16 (at_magnitude (phase_of table) (magnitude x)))) in
    divided (a *ℤ p.0, a *ℤ p.1) 29
