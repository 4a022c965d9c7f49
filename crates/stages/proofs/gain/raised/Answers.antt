use Rattle.std.proofs.Common.{◌≡◌, ℕ, ◌*◌, ◌%◌, ◌^◌, ◌≤◌, ℤ, pos, ◌*ℤ◌, ap, ◌∙◌, arith, lit<, pow_mono, w64, SFits, to_z}
use Rattle.std.proofs.lemmas.Nat.{one_shl}
use Rattle.std.proofs.lemmas.Int.{ints, to_z-of_z, to_z_pos, fits_signed_mul}
use Rattle.samples.specs.Bounds.{Between}
use Rattle.stages.proofs.gain.raised.Goals as goal

power : (k : ℕ) → k ≤ 10 → to_z w64 ((1 * 2 ^ k) % 2 ^ 64) ≡ pos (2 ^ k)
power k h =
    let l : 2 ^ k ≤ 2 ^ 10 = pow_mono h in
    ap (to_z w64) (one_shl k 64 (omega arith)) ∙ to_z_pos w64 (2 ^ k) (omega arith)

-- 40 bits, raised by up to 10 places, fit 64 bits
fits : (z : ℤ) (k : ℕ) → Between (2 ^ 39) z → k ≤ 10 → SFits w64 (z *ℤ pos (2 ^ k))
fits z k w h = fits_signed_mul w64 z (pos (2 ^ k)) (2 ^ 39) (2 ^ 10) (omega (arith, ints)) (pow_mono h) (lit< tt)

pub overflow_mul-result : goal.overflow_mul-result
overflow_mul-result c =
    let p : SFits w64 c.args.product = c.ranges.product in
    simp (power c.args.by c.requires.by, to_z-of_z) (fits c.args.product c.args.by c.requires.product c.requires.by)

pub returns : goal.returns
returns c =
    let p : SFits w64 c.args.product = c.ranges.product in
    let r = fits c.args.product c.args.by c.requires.product c.requires.by in
    simp (power c.args.by c.requires.by, to_z-of_z)
