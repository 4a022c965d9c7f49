-- How large a product of two whole numbers is.
use Rattle.std.proofs.Common.{ℕ, ◌*◌, ◌^◌, ◌<◌, ◌≤◌, ℤ, pos, negsuc, ◌*ℤ◌, unsigned_abs, arith, w64, SFits, to_z, of_z}
use Rattle.std.proofs.lemmas.Int.{ints, to_z-of_z, unsigned_abs-mul, fits_signed_from_abs}
use Rattle.std.proofs.lemmas.Nat.{mul-le}
use Rattle.samples.specs.Bounds.{Between}

pub size : (m : ℕ) (z : ℤ) → Between m z → unsigned_abs z ≤ m
size m (pos a) w = omega (arith, ints)
size m (negsuc a) w = omega (arith, ints)

sized : (m : ℕ) (z : ℤ) → unsigned_abs z ≤ m → Between m z
sized m (pos a) h = record { low = omega (arith, ints); high = omega (arith, ints) }
sized m (negsuc a) h = record { low = omega (arith, ints); high = omega (arith, ints) }

-- of two factors that the code passes on in 64 bits
pub passed_product : (m n : ℕ) (a b : ℤ) → unsigned_abs a ≤ m → unsigned_abs b ≤ n → m < 2 ^ 63 → n < 2 ^ 63 → m * n < 2 ^ 63 → Between (m * n) (to_z w64 (of_z w64 (to_z w64 (of_z w64 a) *ℤ to_z w64 (of_z w64 b))))
passed_product m n a b p q i j k =
    let s : unsigned_abs (a *ℤ b) ≤ m * n = rw unsigned_abs-mul (mul-le _ _ m n p q) in
    let x : SFits w64 a = fits_signed_from_abs w64 a (omega arith) in
    let y : SFits w64 b = fits_signed_from_abs w64 b (omega arith) in
    let xy : SFits w64 (a *ℤ b) = fits_signed_from_abs w64 (a *ℤ b) (omega arith) in
    simp to_z-of_z (sized (m * n) (a *ℤ b) s)
