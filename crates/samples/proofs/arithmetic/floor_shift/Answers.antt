use Rattle.std.proofs.Common.{◌≡◌, ℕ, ◌/◌, ◌^◌, ◌<◌, ◌≤◌, min, ℤ, pos, negsuc, refl, ap, inl, inr, div-le_self, arith, pow_mono, w64, SFits}
use native.Mathlib.Nat.{div-eq_of_lt}
use lib.Signed.{shr_z}
use Rattle.std.proofs.lemmas.Int.{ints, to_z-of_z}
use Rattle.std.proofs.lemmas.Bool.{cases_lt}
use Rattle.samples.specs.Arithmetic.{floor_by}
use Rattle.samples.specs.Widths.{floors}
use Rattle.samples.proofs.arithmetic.floor_shift.Goals as goal

-- past 63 places every number of 64 bits is shifted out
past : (a k : ℕ) → a < 2 ^ 63 → a / 2 ^ min k 63 ≡ a / 2 ^ k
past a k h =
    elim (cases_lt k 64) [
      | inl l ↦ ap (λ (m : ℕ). a / 2 ^ m) (omega arith)
      | inr l ↦
          let m : 2 ^ 63 ≤ 2 ^ k = pow_mono {i = 63} (omega arith) in
          let i : min k 63 ≡ 63 = omega arith in
          let g : a < 2 ^ k = omega arith in
          rw (i, div-eq_of_lt h, div-eq_of_lt g) refl
    ]

-- the shift of the code is the floor, and stays within 64 bits
shifted : (x : ℤ) (k : ℕ) → SFits w64 x → shr_z x (2 ^ min k 63) ≡ floor_by x (2 ^ k)
shifted (pos a) k w = ap pos (past a k (omega (arith, ints)))
shifted (negsuc a) k w = ap negsuc (past a k (omega (arith, ints)))

stays : (x : ℤ) (m : ℕ) → SFits w64 x → SFits w64 (floor_by x m)
stays (pos a) m w = omega (arith, ints, div-le_self a m)
stays (negsuc a) m w = omega (arith, ints, div-le_self a m)

pub returns : goal.returns
returns c =
    let x : SFits w64 c.args.x = c.ranges.x in
    let s = stays c.args.x (2 ^ c.args.k) x in
    record { value = rw (c.min.ensures, to_z-of_z w64 c.args.x x, shifted c.args.x c.args.k x) (to_z-of_z w64 _ s); laws = floors }
