use Rattle.std.proofs.Common.{◌≡◌, ℕ, zero, suc, ◌*◌, ◌^◌, ◌≤◌, ℤ, pos, negsuc, ◌-ℤ◌, ◌*ℤ◌, neg_ℤ, ◌≤ℤ◌, arith, lit<, w64, SFits}
use Rattle.std.proofs.lemmas.Nat.{mul-le}
use Rattle.std.proofs.lemmas.Int.{ints, clamps, to_z-of_z, fits_signed_mul}
use Rattle.std.specs.Int.{int_max, int_min}
use Rattle.samples.specs.Arithmetic.{floor_by}
use Rattle.samples.proofs.arithmetic.linear.Goals as goal

-- a part of the way lies between 0 and the whole way d
record Towards (d r : ℤ) : Type 0 where
  low : int_min (pos 0) d ≤ℤ r
  high : r ≤ℤ int_max (pos 0) d

downward : (n k : ℕ) → k ≤ suc n * 2 ^ 16 → Towards (negsuc n) (floor_by (neg_ℤ (pos k)) (2 ^ 16))
downward n zero h = record { low = omega (arith, ints, clamps); high = omega (arith, ints, clamps) }
downward n (suc k) h = record { low = omega (arith, ints, clamps); high = omega (arith, ints, clamps) }

towards : (d : ℤ) (f : ℕ) → f ≤ 2 ^ 16 → Towards d (floor_by (d *ℤ pos f) (2 ^ 16))
towards (pos n) f h =
    let m : n * f ≤ n * 2 ^ 16 = mul-le n f n (2 ^ 16) (omega arith) h in
    record { low = omega (arith, ints, clamps); high = omega (arith, ints, clamps) }
towards (negsuc n) f h = downward n (suc n * f) (mul-le (suc n) f (suc n) (2 ^ 16) (omega arith) h)

way : (c : goal.After-from-4) → (c.floor_shift-way.result ≡ floor_by ((c.args.b -ℤ c.args.a) *ℤ pos c.args.part) (2 ^ 16)) × Towards (c.args.b -ℤ c.args.a) c.floor_shift-way.result
way c =
    let d : SFits w64 (c.args.b -ℤ c.args.a) = omega (arith, ints) in
    let f : SFits w64 (pos c.args.part) = omega (arith, ints) in
    let x : c.from.result ≡ c.args.b = omega (arith, ints) in
    let y : c.from-2.result ≡ c.args.a = omega (arith, ints) in
    let a : SFits w64 c.args.a = omega (arith, ints) in
    let b : SFits w64 c.args.b = omega (arith, ints) in
    let p : SFits w64 ((c.args.b -ℤ c.args.a) *ℤ pos c.args.part) = fits_signed_mul w64 (c.args.b -ℤ c.args.a) (pos c.args.part) (2 ^ 16) (2 ^ 16) (omega (arith, ints)) (omega (arith, ints)) (lit< tt) in
    let e = simp (x, y, c.from-3.ensures, to_z-of_z) at c.floor_shift-way.ensures.value in
    (e, rw e (towards (c.args.b -ℤ c.args.a) c.args.part (omega arith)))

pub overflow_add-result : goal.overflow_add-result
overflow_add-result c = let w = way c in omega (arith, ints, clamps)

pub overflow_cast-result : goal.overflow_cast-result
overflow_cast-result c = let w = way c in omega (arith, ints, clamps)

pub returns : goal.returns
returns c =
    let w = way c in
    record { value = omega (arith, ints, clamps); low = omega (arith, ints, clamps); high = omega (arith, ints, clamps) }
