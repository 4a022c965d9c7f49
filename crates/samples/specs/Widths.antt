-- The laws of rounding and clipping, over the width.
use Rattle.std.specs.Prelude.{◌≡◌, ℕ, ◌-◌, ◌/◌, ◌^◌, ◌<◌, ◌≤◌, ℤ, pos, negsuc, ◌+ℤ◌, ◌*ℤ◌, ◌≤ℤ◌, ◌<ℤ◌}
use Rattle.std.proofs.Common.{arith, div-add-mod', mod-lt, suc-mul, pow_pos, pow_mono}
use Rattle.std.proofs.lemmas.Int.{ints}
use Rattle.samples.specs.Arithmetic.{floor_by, clip, Within}
use Rattle.samples.specs.Laws.{Clips, Floors, clip_within}

ordered : (n : ℕ) (x y : ℤ) → x ≤ℤ y → clip n x ≤ℤ clip n y
ordered n (pos a) (pos b) h = omega (arith, ints)
ordered n (pos a) (negsuc b) h = omega (arith, ints)
ordered n (negsuc a) (pos b) h = omega (arith, ints)
ordered n (negsuc a) (negsuc b) h = omega (arith, ints)

pub clip_same : (n : ℕ) (x : ℤ) → Within n x → clip n x ≡ x
clip_same n (pos a) h = omega (arith, ints, h.0, h.1, pow_pos (n - 1))
clip_same n (negsuc a) h = omega (arith, ints, h.0, h.1, pow_pos (n - 1))

-- a number of m bits is one of more bits too
pub wider : (m n : ℕ) (x : ℤ) → m ≤ n → Within m x → Within n x
wider m n x h w =
    let l : m - 1 ≤ n - 1 = omega arith in
    let p : 2 ^ (m - 1) ≤ 2 ^ (n - 1) = pow_mono l in
    (omega (arith, ints, w.0, w.1, pow_pos (m - 1)), omega (arith, ints, w.0, w.1, pow_pos (m - 1)))

pub clips : (n : ℕ) → Clips n
clips n = record { ordered = ordered n; same = clip_same n; within = clip_within n }

below : (x : ℤ) (m : ℕ) → 0 < m → (floor_by x m *ℤ pos m) ≤ℤ x
below (pos a) m h = omega (arith, ints, div-add-mod' a m)
below (negsuc a) m h = omega (arith, ints, div-add-mod' a m, mod-lt a h, suc-mul (a / m) m)

above : (x : ℤ) (m : ℕ) → 0 < m → x <ℤ ((floor_by x m *ℤ pos m) +ℤ pos m)
above (pos a) m h = omega (arith, ints, div-add-mod' a m, mod-lt a h)
above (negsuc a) m h = omega (arith, ints, div-add-mod' a m, mod-lt a h, suc-mul (a / m) m)

pub floors : Floors
floors = record { below = below; above = above }
