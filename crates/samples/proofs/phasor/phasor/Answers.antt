use Rattle.std.proofs.Common.{◌≡◌, ℕ, zero, suc, ◌+◌, ◌-◌, ◌/◌, ◌%◌, ◌<◌, ◌≤◌, Bool, true, false, cond, eqb, leb, ℤ, pos, neg_ℤ, refl, arith, w16, SFits}
use Rattle.std.proofs.lemmas.Bool.Decides.{nat_tests}
use Rattle.std.proofs.lemmas.Int.{ints, to_z-of_z}
use Rattle.samples.specs.Bounds.{Between}
use Rattle.samples.specs.Phasors.{phasor_of, quarter, cosine}
use Rattle.samples.proofs.phasor.phasor.Goals as goal
use Rattle.samples.proofs.phasor.phasor.Goals.{then-quarter-eq0, else-quarter-eq0}

abbrev with_sign : Bool → ℕ → ℤ
with_sign negative x = cond negative (neg_ℤ (pos x)) (pos x)

-- the table is read backwards in the odd quarters
quarters : (q k i : ℕ) → q < 4 → k ≤ 256 → i ≡ cond (eqb (q % 2) 0) k (256 - k) → ◌≡◌ {A = ℤ × ℤ} (with_sign (leb 2 ((q + 1) % 4)) (cosine i), with_sign (leb 2 q) (cosine (256 - i))) (quarter q (pos (cosine k)) (pos (cosine (256 - k))))
quarters zero k i h l e = rw e refl
quarters (suc zero) k i h l e = let b : 256 - (256 - k) ≡ k = omega arith in rw (e, b) refl
quarters (suc (suc zero)) k i h l e = rw e refl
quarters (suc (suc (suc zero))) k i h l e = let b : 256 - (256 - k) ≡ k = omega arith in rw (e, b) refl
quarters (suc (suc (suc (suc q)))) k i h l e = absurd (omega arith)

-- with either sign it is as large
signed_between : (negative : Bool) (x : ℕ) (z : ℤ) → x ≤ 16384 → z ≡ with_sign negative x → Between 16384 z
signed_between true x z h e = record { low = omega (arith, ints); high = omega (arith, ints) }
signed_between false x z h e = record { low = omega (arith, ints); high = omega (arith, ints) }

pub returns : goal.returns
unfolding phasor_of
returns c =
    let a : SFits w16 c.signed.result = record { sfits = c.signed.type_inv } in
    let b : SFits w16 c.signed-2.result = record { sfits = c.signed-2.type_inv } in
    let q = c.args.n % 1024 / 256 in
    let k = c.args.n % 256 in
    let i : c.if-quarter-eq0.i ≡ cond (eqb (q % 2) 0) k (256 - k) = elim c.if-quarter-eq0.branch [ then-quarter-eq0 w ↦ grind (arith, nat_tests) | else-quarter-eq0 w ↦ grind (arith, nat_tests) ] in
    record {
      value = simp to_z-of_z (rw (c.signed.ensures, c.signed-2.ensures, c.cosine_at.ensures.value, c.cosine_at-2.ensures.value) (quarters q k c.if-quarter-eq0.i (omega arith) (omega arith) i));
      cosine_within = simp to_z-of_z (signed_between _ _ _ c.cosine_at.ensures.at_most_one c.signed.ensures);
      sine_within = simp to_z-of_z (signed_between _ _ _ c.cosine_at-2.ensures.at_most_one c.signed-2.ensures);
      rule = c.cosine_at.ensures.rule;
    }
