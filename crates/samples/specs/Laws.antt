-- What rounding and clipping keep, at every width.
use Rattle.std.specs.Prelude.{◌≡◌, ℕ, ◌-◌, ◌<◌, ℤ, pos, negsuc, ◌+ℤ◌, ◌*ℤ◌, ◌≤ℤ◌, ◌<ℤ◌}
use Rattle.std.proofs.Common.{arith, pow_pos}
use Rattle.std.proofs.lemmas.Int.{ints}
use Rattle.samples.specs.Arithmetic.{floor_by, clip, Within}

-- Clipping to n bits never turns two numbers round, changes no number in range, and always ends in range.
pub record Clips (n : ℕ) : Type 0 where
  pub ordered : (x y : ℤ) → x ≤ℤ y → clip n x ≤ℤ clip n y
  pub same : (x : ℤ) → Within n x → clip n x ≡ x
  pub within : (x : ℤ) → Within n (clip n x)

-- Rounding down: at most the quotient, and by less than one.
pub record Floors : Type 0 where
  pub below : (x : ℤ) (m : ℕ) → 0 < m → (floor_by x m *ℤ pos m) ≤ℤ x
  pub above : (x : ℤ) (m : ℕ) → 0 < m → x <ℤ ((floor_by x m *ℤ pos m) +ℤ pos m)

-- a clipped number is in range, which the types of the samples ask
pub clip_within : (n : ℕ) (x : ℤ) → Within n (clip n x)
clip_within n (pos a) = (omega (arith, ints, pow_pos (n - 1)), omega (arith, ints, pow_pos (n - 1)))
clip_within n (negsuc a) = (omega (arith, ints, pow_pos (n - 1)), omega (arith, ints, pow_pos (n - 1)))
